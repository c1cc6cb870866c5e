-- What is known so far, and what the notes that are left add.
use Rattle.std.proofs.Common.{◌≡◌, ◌||◌, ℕ, List, drop}
use Rattle.std.specs.List.{list_any}
use Rattle.casebook_profile.specs.UnknownLines.{notes_setting}
use Rattle.casebook_profile.specs.inner.Scopes.{knows}
use Rattle.casebook_profile.proofs.knowledge.Knowledge.learn.Given as goal

abbrev pub invariant-loop-note : goal.invariant-loop-note
invariant-loop-note l =
    (sid : ℕ) (n : List ℕ) → (knows l.self sid n || list_any (notes_setting sid n) (drop l.note-index l.notes))
    ≡ (knows l.initial.self sid n || list_any (notes_setting sid n) l.notes)
