-- Reading several things, of which the worst refusal counts.
use Rattle.std.specs.Prelude.{List, [], ◌∷◌, ◌++◌, Result, Ok, Err}
use Rattle.retro_json.specs.declared.fault.Refusal.{Refusal}
use Rattle.retro_json.specs.declared.fault.Refusal.TheVariants.{WrongShape, BadHex}
use Rattle.retro_json.specs.Steps.{◌>>=◌}

-- the worse of two refusals of one part: a wrong shape is worse than bad hex, and bad hex is worse
-- than a broken limit
abbrev pub worse : Refusal → Refusal → Refusal
worse (WrongShape part) other = WrongShape part
worse BadHex (WrongShape part) = WrongShape part
worse BadHex other = BadHex
worse refusal other = other

-- two things, or the worse refusal
abbrev pub both : {A B : Type 0} → Result A Refusal → Result B Refusal → Result (A × B) Refusal
both (Ok x) (Ok y) = Ok (x, y)
both (Ok x) (Err e) = Err e
both (Err e) (Ok y) = Err e
both (Err e) (Err f) = Err (worse e f)

-- all items, or the worst refusal
unfoldable pub every : {A B : Type 0} → (A → Result B Refusal) → List A → Result (List B) Refusal
every f [] = Ok []
every f (x ∷ xs) = do
  (y, ys) ← both (f x) (every f xs)
  Ok (y ∷ ys)

-- items with one more at the end, or the worse refusal
abbrev pub with_item : {A : Type 0} → Result (List A) Refusal → Result A Refusal → Result (List A) Refusal
with_item items item = do
  (xs, x) ← both items item
  Ok (xs ++ x ∷ [])
