-- The changes that are left decide.
use Rattle.std.proofs.Common.{◌≡◌, drop}
use Rattle.casebook_cause.specs.LineResult.{changes_in}
use Rattle.casebook_cause.proofs.Results.{Decide}
use Rattle.casebook_cause.proofs.another_result.makes_same_changes.Given as goal

abbrev pub invariant-loop-note : goal.invariant-loop-note
invariant-loop-note l =
    Decide (changes_in (drop l.note-index l.old)) (changes_in l.rest) (changes_in l.old ≡ changes_in l.new)
