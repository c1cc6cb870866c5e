use Rattle.std.proofs.Common.{ap, sym, ◌∙◌}
use Rattle.retro_history.specs.inner.CellHistory.{history_in}
use Rattle.retro_history.proofs.LineCells.{line_used, use_added, used_by}
use Rattle.retro_history.proofs.cell_histories.CellHistories.add_notes.Goals as goal

pub loop-cell-init : goal.loop-cell-init
loop-cell-init c = λ d.
    let before = history_in d c.args.first.now c.args.self.now in
    ap (λ es. used_by d es before) (c.into_iter-cell-iterator.ensures.into_iter_gives ∙ c.iter-cell-items.ensures)
    ∙ line_used d c.args.number c.args.notes.now c.in_ok-cells.cells before c.in_ok-cells.ensures

pub loop-cell-preserved : goal.loop-cell-preserved
loop-cell-preserved c = λ d.
    let first = c.args.first.now in
    ap (used_by d c.next.new.self) (ap (history_in d first) c.in_ok-add_use.ensures
    ∙ use_added d c.in-Some.cell.now first c.in-Some.used.now c.loop-cell.self)
    ∙ ap (λ es. used_by d es (history_in d first c.loop-cell.self)) (sym c.in-Some.ensures.steps)
    ∙ c.loop-cell.invariant d

pub returns : goal.returns
returns c = λ d.
    ap (λ es. used_by d es (history_in d c.args.first.now c.loop-cell.self)) (sym c.in-None.ensures.steps.0)
    ∙ c.loop-cell.invariant d
