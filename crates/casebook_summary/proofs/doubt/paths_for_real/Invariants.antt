-- The paths so far, and those of the lines that are left.
use Rattle.std.proofs.Common.{◌≡◌, ◌||◌, drop}
use Rattle.retro_tree.specs.Path.{PathValue}
use Rattle.casebook_summary.specs.Doubts.{is_written_for_real}
use Rattle.casebook_summary.specs.inner.PathSets.{has_path}
use Rattle.casebook_summary.proofs.doubt.paths_for_real.Given as goal

abbrev pub invariant-loop-line : goal.invariant-loop-line
invariant-loop-line l =
    (p : PathValue) → (has_path p l.paths.paths.keys
    || is_written_for_real l.case.recording l.case.repair.recording (drop l.line-index l.unknown) p)
    ≡ is_written_for_real l.case.recording l.case.repair.recording l.unknown p
