-- The last operand and those before it, as the code takes a slice of operands apart.
use Rattle.std.proofs.Common.{◌≡◌, ℕ, ◌-◌, ◌<◌, List, [], ◌∷◌, length, map, take, get_or, Some, None}
use Rattle.std.proofs.Common.{refl, ap, ◌∙◌, arith}
use Rattle.std.proofs.lemmas.List.{length-map, take-map}
use Rattle.std.proofs.lemmas.Option.{slice_get-map, slice_get_read}
use Rattle.std.specs.List.{slice_get}
use Rattle.std.specs.Option.{option_map}
use Rattle.retro_utils.specs.Calls.{split_last}

pub last_split : {X : Type 0} (bytes : X → List ℕ) (operands : List X) (last : X) → 0 < length operands
    → last ≡ get_or operands (length operands - 1) last
    → split_last (map bytes operands) ≡ Some (bytes last, map bytes (take (length operands - 1) operands))
unfolding split_last
last_split bytes operands last filled is =
    let found : slice_get (map bytes operands) (length operands - 1) ≡ Some (bytes last) =
    slice_get-map bytes operands (length operands - 1)
    ∙ ap (option_map bytes)
    (slice_get_read operands (length operands) (length operands - 1) last refl (omega arith) is) in
    let front : take (length operands - 1) (map bytes operands) ≡ map bytes (take (length operands - 1) operands) =
    take-map bytes (length operands - 1) operands in
    rw (length-map operands bytes, found, front) refl

pub none_split : {X : Type 0} (bytes : X → List ℕ) (operands : List X) → length operands ≡ 0
    → split_last (map bytes operands) ≡ None
unfolding split_last
none_split bytes [] empty = refl
none_split bytes (operand ∷ operands) empty = absurd (omega arith)

pub ruleset splitting = (last_split, none_split)
