-- The names of variables are UTF-8.
use Rattle.std.proofs.Common.{◌≡◌, ℕ, ◌<◌, true, false, inl, inr, List, [], ◌∷◌}
use Rattle.std.proofs.Common.{arith}
use Rattle.std.proofs.Common.{zero, suc, lit<, sym, ◌⊎◌, Bool, refl}
use Rattle.std.specs.List.{list_all}
use Rattle.std.specs.Str.{IsAscii, IsUtf8}
use Rattle.std.proofs.lemmas.Bool.{and_parts}
use Rattle.std.proofs.lemmas.Bool.Decides.{nat_tests}
use Rattle.std.proofs.lemmas.Str.{IsUtf8-from_ascii}
use Rattle.retro_path.specs.VarName.{continues_name, is_shell_name, starts_name}

is_ascii : (b : ℕ) → continues_name b ≡ true → b < 128
is_ascii b e = grind (arith, nat_tests)

is_ascii_too : (b : ℕ) → starts_name b ≡ true → b < 128
is_ascii_too b e = grind (arith, nat_tests)

are_ascii : (bs : List ℕ) → list_all continues_name bs ≡ true → IsAscii bs
are_ascii [] e i = lit< tt
are_ascii (b ∷ bs) e zero = is_ascii b
    (and_parts (continues_name b) (list_all continues_name bs) e).0
are_ascii (b ∷ bs) e (suc i) =
    are_ascii bs (and_parts (continues_name b) (list_all continues_name bs) e).1 i

names_are_ascii : (bs : List ℕ) → is_shell_name bs ≡ true → IsAscii bs
unfolding is_shell_name
names_are_ascii [] e i = lit< tt
names_are_ascii (b ∷ bs) e zero =
    is_ascii_too b (and_parts (starts_name b) (list_all continues_name bs) e).0
names_are_ascii (b ∷ bs) e (suc i) =
    are_ascii bs (and_parts (starts_name b) (list_all continues_name bs) e).1 i

decided : (b : Bool) → (b ≡ true) ⊎ (b ≡ false)
decided true = inl refl
decided false = inr refl

-- bytes that aren't UTF-8 are no name
pub odd_name : (bs : List ℕ) → ¬ (IsUtf8 bs) → false ≡ is_shell_name bs
odd_name bs h = elim (decided (is_shell_name bs)) [
  | inl e ↦ absurd (h (IsUtf8-from_ascii bs (names_are_ascii bs e)))
  | inr e ↦ sym e
]
