use Rattle.std.proofs.Common.{◌≡◌, drop}
use Rattle.std.specs.List.{fold}
use Rattle.casebook_summary.specs.Reads.{path_read, paths_read, with_path}
use Rattle.casebook_summary.proofs.reads.paths_read.Given as goal

abbrev pub invariant-loop-note : goal.invariant-loop-note
invariant-loop-note l =
    fold (λ paths note. with_path paths (path_read note)) l.paths.keys (drop l.note-index l.notes)
    ≡ paths_read l.notes
