use Rattle.std.proofs.Common.{◌∙◌, ap, sym}
use Rattle.std.specs.FinMap as finmap
use Rattle.std.specs.Option.{option_copied}
use Rattle.casebook_import.proofs.Cells.{no_old_vars}
use Rattle.casebook_import.proofs.effects.set_unset.Goals as goal

pub returns-in-None : goal.returns-in-None
returns-in-None c =
    no_old_vars c.args.state.now c.args.new.now c.args.effect.now c.sid.result c.sid.ensures.value
    (ap (λ m. finmap.get m c.sid.result) (sym c.sessions.ensures) ∙ sym c.get.ensures
    ∙ ap option_copied c.in-None.is)
