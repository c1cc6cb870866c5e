-- What is found so far, before anything found for the paths that are left.
use Rattle.std.proofs.Common.{List, ◌++◌, drop}
use Rattle.casebook_summary.specs.declared.restoration.Restoration.{Restoration}
use Rattle.casebook_summary.specs.inner.Found.{AreFound}
use Rattle.casebook_summary.proofs.restoration.restorations_at.Given as goal

abbrev pub invariant-loop-path : goal.invariant-loop-path
invariant-loop-path l =
    (rest : List Restoration)
    → AreFound l.case.recording l.case.repair l.written.paths.keys (drop l.path-index l.changed) rest
    → AreFound l.case.recording l.case.repair l.written.paths.keys l.changed (l.found.items ++ rest)
