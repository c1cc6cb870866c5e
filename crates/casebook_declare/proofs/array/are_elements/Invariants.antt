-- Whether the rest of the text is the rest of the elements.
use Rattle.std.proofs.Common.{◌≡◌, ◌-◌, length}
use Rattle.std.specs.Prelude.{true}
use Rattle.casebook_declare.specs.Arrays.{are_elements}
use Rattle.casebook_declare.proofs.array.are_elements.Given as goal

abbrev pub invariant-loop : goal.invariant-loop
invariant-loop l =
    are_elements l.is_keyed l.is_first (length l.text - l.index) l.rest
    ≡ are_elements l.is_keyed true (length l.text) l.text
