use Rattle.std.proofs.Common.{ap, sym, ◌∙◌, Some}
use Rattle.std.specs.Option.{option_copied}
use Rattle.retro_tree.proofs.ValueEntries.{no_growth}
use Rattle.retro_tree.proofs.overlay.Overlay.get_value.Goals as goal

pub unreachable-requires : goal.unreachable-requires
unreachable-requires c =
    let arm = c.in-Some-Growth in
    no_growth c.args.self.now c.args.cell.now arm.field-0-0 c.requires
    (ap Some (sym arm.field-0-is) ∙ sym (ap option_copied arm.is) ∙ c.get.ensures)
