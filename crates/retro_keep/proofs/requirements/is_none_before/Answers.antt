use Rattle.std.proofs.Common.{ap, sym, ◌∙◌}
use Rattle.std.specs.Option.{option_copied}
use Rattle.retro_keep.proofs.Trim.{first_decides}
use Rattle.retro_keep.proofs.requirements.is_none_before.Goals as goal

pub returns-in-Some : goal.returns-in-Some
returns-in-Some c =
    first_decides c.args.from c.args.lines.now c.in-Some.line.now
    (ap option_copied (sym c.in-Some.is) ∙ c.first.ensures.value)
