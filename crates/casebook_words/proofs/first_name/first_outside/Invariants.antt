-- The names so far are in the set.
use Rattle.std.proofs.Common.{◌≡◌, ℕ, List, drop, not}
use Rattle.std.specs.List.{find}
use Rattle.casebook_words.specs.inner.NameSets.{has_name}
use Rattle.casebook_words.proofs.first_name.first_outside.Given as goal

abbrev pub invariant-loop-name : goal.invariant-loop-name
invariant-loop-name l =
    find (λ (name : List ℕ). not (has_name name l.known.keys)) (drop l.name-index l.names)
    ≡ find (λ (name : List ℕ). not (has_name name l.known.keys)) l.names
