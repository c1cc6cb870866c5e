use Rattle.std.proofs.Common.{List, ap, map, sym, ◌∙◌}
use Rattle.std.specs.FinMap as finmap
use Rattle.retro_tree.specs.declared.cell.Cell.{Cell}
use Rattle.retro_tree.specs.declared.overlay_entry.OverlayEntry.{OverlayEntry}
use Rattle.retro_history.specs.inner.IndexSteps.{next_of}
use Rattle.retro_history.specs.inner.Numbers.{earliest}
use Rattle.retro_history.proofs.Meetings.{next_ends, next_goes_on, next_is_meeting}
use Rattle.retro_history.proofs.index.Index.next_meeting_in.Goals as goal

pub loop-cell-preserved : goal.loop-cell-preserved
loop-cell-preserved c = λ lines indexed.
    let after = c.args.after in
    let so_far = c.loop-cell.next in
    let rest = map (λ (e : Cell × OverlayEntry). e.0) c.next.new.self in
    let all = finmap.keys c.args.overlay.now in
    ap (λ o. earliest o (next_of after rest lines))
    (c.earliest-next.ensures ∙ ap (earliest so_far) (c.in_ok-next_use.ensures lines indexed))
    ∙ next_goes_on after c.in-Some.cell.now rest lines so_far (next_of after all lines) indexed.numbered
    (ap (λ (es : List (Cell × OverlayEntry)). earliest so_far (next_of after (map (λ e. e.0) es) lines))
    (sym c.in-Some.ensures.steps)
    ∙ c.loop-cell.invariant lines indexed)

pub returns : goal.returns
returns c = λ lines indexed.
    let after = c.args.after in
    let found = c.loop-cell.next in
    let all = finmap.keys c.args.overlay.now in
    next_is_meeting after all lines found indexed.numbered
    (next_ends after lines found (next_of after all lines)
    (ap (λ (es : List (Cell × OverlayEntry)). earliest found (next_of after (map (λ e. e.0) es) lines))
    (sym c.in-None.ensures.steps.0)
    ∙ c.loop-cell.invariant lines indexed))
