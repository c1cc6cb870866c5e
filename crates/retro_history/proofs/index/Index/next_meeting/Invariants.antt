use Rattle.std.proofs.Common.{◌≡◌, List}
use Rattle.retro_history.specs.Index.{Line}
use Rattle.retro_history.specs.inner.IndexSteps.{Indexes, next_of}
use Rattle.retro_history.specs.inner.Numbers.{earliest}
use Rattle.retro_history.proofs.index.Index.next_meeting.Given as goal

abbrev pub invariant-loop-cell : goal.invariant-loop-cell
invariant-loop-cell l =
    (lines : List Line) → Indexes l.self lines
    → earliest l.next (next_of l.after l.cell-iterator lines) ≡ next_of l.after l.cells.keys lines
