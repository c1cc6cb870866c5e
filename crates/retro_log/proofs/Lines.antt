-- A line of a script is refused only for its shape, so the first refusal is the worst.
use Rattle.std.proofs.Common.{◌≡◌, ◌^◌, List, [], ◌∷◌, Bool, true, false, Option, Some, None, Result, Ok, Err}
use Rattle.std.proofs.Common.{option_map, option_and_then, nat_lt, refl, sym, ap, ◌∙◌}
use Rattle.std.specs.Prelude.{ok_or}
use Rattle.serde_json.specs.Data.{Data}
use Rattle.serde_json.specs.Find.{as_array, as_str}
use Rattle.retro_json.specs.declared.fault.Part.TheVariants.{Lines}
use Rattle.retro_json.specs.declared.fault.Refusal.{Refusal}
use Rattle.retro_json.specs.declared.fault.Refusal.TheVariants.{WrongShape}
use Rattle.retro_json.specs.Shape.{below, cells, item_list, text_in, u32_in, unsigned_in}
use Rattle.retro_json.specs.Steps.{◌>>=◌, each, guard}
use Rattle.retro_json.specs.Worst.{both, every, worse}
use Rattle.retro_log.specs.LinesPart.{head_of, line_cells, line_of, lines_of}

abbrev IsWrong : {A : Type 0} → Result A Refusal → Type 0
IsWrong (Ok x) = Unit {0}
IsWrong (Err e) = e ≡ WrongShape Lines

module _ {A B : Type 0} (f : A → Result B Refusal) (wrong : (x : A) → IsWrong (f x)) where
  first_is_worst : (one : Result B Refusal) (rest : Result (List B) Refusal) → IsWrong one
      → (one >>= λ y. rest >>= λ ys. Ok (y ∷ ys)) ≡ (both one rest >>= λ p. Ok (p.0 ∷ p.1))
  first_is_worst (Ok y) (Ok ys) h = refl
  first_is_worst (Ok y) (Err e) h = refl
  first_is_worst (Err e) (Ok ys) h = refl
  first_is_worst (Err e) (Err g) h =
      let is : worse e g ≡ e = ap (λ r. worse r g) h ∙ sym h in λ i. Err (sym is i)

  each_is_every : (xs : List A) → each f xs ≡ every f xs
  unfolding each every
  each_is_every [] = refl
  each_is_every (x ∷ xs) =
      (λ i. f x >>= λ y. each_is_every xs i >>= λ ys. Ok (y ∷ ys)) ∙ first_is_worst (f x) (every f xs) (wrong x)

then_wrong : {A B : Type 0} (one : Result A Refusal) (next : A → Result B Refusal) → IsWrong one
    → ((x : A) → IsWrong (next x)) → IsWrong (one >>= next)
then_wrong (Ok x) next h g = g x
then_wrong (Err e) next h g = h

part_wrong : {A : Type 0} (o : Option A) → IsWrong (ok_or o (WrongShape Lines))
part_wrong None = refl
part_wrong (Some x) = tt

guard_wrong : (b : Bool) → IsWrong (guard b (WrongShape Lines))
guard_wrong true = tt
guard_wrong false = refl

number_wrong : (d : Data) → IsWrong (u32_in Lines d)
number_wrong d = part_wrong (option_and_then (below (2 ^ 32)) (unsigned_in d))

head_wrong : (n s t : Data) → IsWrong (head_of n s t)
head_wrong n s t =
    then_wrong (u32_in Lines n) _ (number_wrong n) (λ number.
    then_wrong (guard (nat_lt 0 number) (WrongShape Lines)) _ (guard_wrong (nat_lt 0 number)) (λ counted.
    then_wrong (u32_in Lines s) _ (number_wrong s) (λ sid.
    then_wrong (text_in Lines t) _ (part_wrong (as_str t)) (λ text. tt))))

line_wrong : (d : Data) → IsWrong (line_of d)
unfolding line_of
line_wrong d = then_wrong (cells Lines d) line_cells (part_wrong (option_map item_list (as_array d))) of_cells
  where
    of_cells : (ds : List Data) → IsWrong (line_cells ds)
    of_cells (n ∷ s ∷ t ∷ []) = head_wrong n s t
    of_cells _ = refl

pub lines_by_worst : (d : Data) → lines_of d ≡ (cells Lines d >>= every line_of)
unfolding lines_of
lines_by_worst d = at_items (cells Lines d)
  where
    at_items : (items : Result (List Data) Refusal) → (items >>= each line_of) ≡ (items >>= every line_of)
    at_items (Ok ds) = each_is_every line_of line_wrong ds
    at_items (Err e) = refl
