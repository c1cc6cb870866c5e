-- The names of variables are UTF-8.
use Rattle.std.proofs.Common.{◌≡◌, ℕ, ◌<◌, true, ap, inl, inr, List, [], ◌∷◌, None, arith}
use Rattle.std.proofs.Common.{zero, suc, lit<}
use Rattle.std.specs.Prelude.{if◌then◌else◌, not, Some}
use Rattle.std.specs.List.{before_first, list_all, list_any}
use Rattle.std.specs.Str.{IsAscii, IsUtf8}
use Rattle.std.proofs.lemmas.Bool.Decides.{nat_tests}
use Rattle.std.proofs.lemmas.Str.{IsUtf8-from_ascii}
use Rattle.retro_path.specs.Order.{text_eq}
use Rattle.retro_path.specs.VarName.{barred_names, continues_name, is_shell_name, is_var_name}
use Rattle.retro_path.specs.VarName.{starts_name}
use Rattle.casebook_needs.specs.Variables.{ends_name, variable_after, without_brace}
use Rattle.retro_tree.proofs.Small.{both_true, first_true}
use Rattle.casebook_needs.proofs.Small.{decided}

is_ascii : (b : ℕ) → continues_name b ≡ true → b < 128
is_ascii b e = grind (arith, nat_tests)

is_ascii_too : (b : ℕ) → starts_name b ≡ true → b < 128
is_ascii_too b e = grind (arith, nat_tests)

are_ascii : (bs : List ℕ) → list_all continues_name bs ≡ true → IsAscii bs
are_ascii [] e i = lit< tt
are_ascii (b ∷ bs) e zero = is_ascii b (first_true (continues_name b)
    (list_all continues_name bs) e)
are_ascii (b ∷ bs) e (suc i) = are_ascii bs (both_true (continues_name b)
    (list_all continues_name bs) e) i

shell_names_ascii : (bs : List ℕ) → is_shell_name bs ≡ true → IsAscii bs
unfolding is_shell_name
shell_names_ascii [] e i = lit< tt
shell_names_ascii (b ∷ bs) e zero = is_ascii_too b (first_true (starts_name b)
    (list_all continues_name bs) e)
shell_names_ascii (b ∷ bs) e (suc i) = are_ascii bs (both_true (starts_name b)
    (list_all continues_name bs) e) i

names_are_utf8 : (bs : List ℕ) → is_var_name bs ≡ true → IsUtf8 bs
unfolding is_var_name
names_are_utf8 bs e =
    IsUtf8-from_ascii bs (shell_names_ascii bs
    (first_true (is_shell_name bs) (not (list_any (text_eq bs) barred_names)) e))

-- a text that isn't UTF-8 names no variable
pub odd_name : (part : List ℕ) → ¬ (IsUtf8 (before_first ends_name (without_brace part)))
    → variable_after part ≡ None
unfolding variable_after
odd_name part h = elim (decided (is_var_name (before_first ends_name (without_brace part)))) [
  | inl e ↦ absurd (h (names_are_utf8 _ e))
  | inr e ↦ ap (λ b. if b then Some (before_first ends_name (without_brace part)) else None) e
]
