-- The changes that are left decide.
use Rattle.std.proofs.Common.{◌≡◌, drop}
use Rattle.casebook_cause.specs.Cause.{changes_for}
use Rattle.casebook_cause.proofs.Results.{Decide}
use Rattle.casebook_cause.proofs.alike.changes_alike.Given as goal

abbrev pub invariant-loop-note : goal.invariant-loop-note
invariant-loop-note l =
    Decide (changes_for l.ask (drop l.note-index l.one)) (changes_for l.ask l.rest)
    (changes_for l.ask l.one ≡ changes_for l.ask l.two)
