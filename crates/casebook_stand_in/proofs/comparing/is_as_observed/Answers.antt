use Rattle.std.proofs.Common.{◌≡◌, Some, None, sym, ap, ◌∙◌}
use Rattle.std.specs.FinMap as map
use Rattle.retro_tree.specs.Cell.{value}
use Rattle.retro_tree.specs.Commit.{committed}
use Rattle.retro_tree.specs.declared.overlay_entry.OverlayEntry.TheVariants as entries
use Rattle.casebook_stand_in.specs.Effect.{observed}
use Rattle.casebook_stand_in.proofs.Alike.{seen_value, set_value, unseen_value}
use Rattle.casebook_stand_in.proofs.comparing.is_as_observed.Goals as goal

pub returns-in-Some : goal.returns-in-Some
returns-in-Some c =
    let now : c.in_ok-now.now ≡ value c.args.cell.now (committed c.args.cells.now c.args.state.now)
    = set_value c.args.cells.now c.args.state.now c.args.cell.now c.in_ok-now.now c.requires c.in_ok-now.ensures in
    let at : map.get c.args.effect.now.cells c.args.cell.now ≡ Some (entries.Value c.in-Some.seen.now)
    = ap (λ m. map.get m c.args.cell.now) (sym c.cells.ensures.value) ∙ sym c.in-Some.ensures in
    let seen : value c.args.cell.now (observed c.args.effect.now c.args.state.now) ≡ c.in-Some.seen.now
    = seen_value c.args.effect.now c.args.state.now c.args.cell.now c.in-Some.seen.now c.cells.ensures.effect at in
    (λ t. sym now ∙ c.is_same.ensures.0 t ∙ sym seen, λ e. c.is_same.ensures.1 (now ∙ e ∙ seen))

pub returns : goal.returns
returns c =
    let now : c.in_ok-now.now ≡ value c.args.cell.now (committed c.args.cells.now c.args.state.now)
    = set_value c.args.cells.now c.args.state.now c.args.cell.now c.in_ok-now.now c.requires c.in_ok-now.ensures in
    let at : map.get c.args.effect.now.cells c.args.cell.now ≡ None
    = ap (λ m. map.get m c.args.cell.now) (sym c.cells.ensures.value) ∙ sym c.in-None.ensures in
    let kept : value c.args.cell.now (observed c.args.effect.now c.args.state.now) ≡ c.in_ok-value-in-None.field-0
    = unseen_value c.args.effect.now c.args.state.now c.args.cell.now c.cells.ensures.effect at
    ∙ sym c.in_ok-value-in-None.ensures in
    (λ t. sym now ∙ c.is_same-in-None.ensures.0 t ∙ sym kept, λ e. c.is_same-in-None.ensures.1 (now ∙ e ∙ kept))
