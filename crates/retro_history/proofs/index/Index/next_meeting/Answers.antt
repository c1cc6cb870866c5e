use Rattle.std.proofs.Common.{List, ap, sym, ◌∙◌}
use Rattle.retro_tree.specs.declared.cell.Cell.{Cell}
use Rattle.retro_history.specs.inner.IndexSteps.{next_of}
use Rattle.retro_history.specs.inner.Numbers.{earliest}
use Rattle.retro_history.proofs.Meetings.{next_ends, next_goes_on, next_is_meeting}
use Rattle.retro_history.proofs.index.Index.next_meeting.Goals as goal

pub loop-cell-preserved : goal.loop-cell-preserved
loop-cell-preserved c = λ lines indexed.
    let after = c.args.after in
    let so_far = c.loop-cell.next in
    let rest = c.next.new.self in
    let all = c.args.cells.now.keys in
    ap (λ o. earliest o (next_of after rest lines))
    (c.earliest-next.ensures ∙ ap (earliest so_far) (c.in_ok-next_use.ensures lines indexed))
    ∙ next_goes_on after c.in-Some.cell.now rest lines so_far (next_of after all lines) indexed.numbered
    (ap (λ (cells : List Cell). earliest so_far (next_of after cells lines)) (sym c.in-Some.ensures.steps)
    ∙ c.loop-cell.invariant lines indexed)

pub returns : goal.returns
returns c = λ lines indexed.
    let after = c.args.after in
    let found = c.loop-cell.next in
    let all = c.args.cells.now.keys in
    next_is_meeting after all lines found indexed.numbered
    (next_ends after lines found (next_of after all lines)
    (ap (λ (cells : List Cell). earliest found (next_of after cells lines)) (sym c.in-None.ensures.steps.0)
    ∙ c.loop-cell.invariant lines indexed))
