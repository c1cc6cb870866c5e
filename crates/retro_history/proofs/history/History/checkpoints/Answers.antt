use Rattle.std.proofs.Common.{◌≡◌, ap, sym, subst, ◌∙◌, Option, ℕ, List}
use Rattle.std.specs.Prelude.{IfOk}
use Rattle.std.specs.Option.{option_copied, unwrap_or}
use Rattle.retro_tree.specs.Cell.{value}
use Rattle.retro_history.specs.Versions.{checkpoints}
use Rattle.retro_history.specs.inner.CellHistory.{new_history}
use Rattle.retro_history.specs.inner.Tracks.{all_versions, checkpoint_numbers}
use Rattle.retro_history.specs.declared.cell_history.CellHistory.{CellHistory}
use Rattle.retro_history.proofs.Recalled.{checkpoints_are}
use Rattle.retro_history.proofs.history.History.checkpoints.Goals as goal

pub returns-in-Some : goal.returns-in-Some
returns-in-Some c =
    let r = c.self.inside.recording.now in
    let cell = c.args.cell.now in
    subst (λ (ns : List ℕ). IfOk c.checkpoints.result (λ numbers. numbers.items ≡ ns))
    (ap (λ (o : Option CellHistory).
    checkpoint_numbers (all_versions (unwrap_or o (new_history (value cell r.first))).track))
    (sym (ap option_copied c.in-Some.is) ∙ c.get.ensures)
    ∙ checkpoints_are r c.self.inside.index.cells c.self.invariant.tracked c.self.invariant.well_formed.rising cell
    ∙ ap (checkpoints cell) c.self.view_is) c.checkpoints.ensures

pub returns-in-None : goal.returns-in-None
returns-in-None c =
    let r = c.self.inside.recording.now in
    let cell = c.args.cell.now in
    subst (λ (ns : List ℕ). IfOk c.from_slice.result (λ numbers. numbers.items ≡ ns))
    (ap (λ (o : Option CellHistory).
    checkpoint_numbers (all_versions (unwrap_or o (new_history (value cell r.first))).track))
    (sym (ap option_copied c.in-None.is) ∙ c.get.ensures)
    ∙ checkpoints_are r c.self.inside.index.cells c.self.invariant.tracked c.self.invariant.well_formed.rising cell
    ∙ ap (checkpoints cell) c.self.view_is) c.from_slice.ensures.items
