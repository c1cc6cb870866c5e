-- The queries so far, and those among the notes that are left.
use Rattle.std.proofs.Common.{◌≡◌, ◌++◌, drop}
use Rattle.std.specs.List.{filter}
use Rattle.casebook_next.specs.Next.{is_about}
use Rattle.casebook_next.proofs.texts.queries_about.Given as goal

abbrev pub invariant-loop-note : goal.invariant-loop-note
invariant-loop-note l =
    l.found.items ++ filter (is_about l.path) (drop l.note-index l.notes) ≡ filter (is_about l.path) l.notes
