-- Reading step by step: the first fault ends it.
use Rattle.std.specs.Prelude.{Bool, List, [], ◌∷◌, ◌++◌, Result, Ok, Err, if◌then◌else◌, ⊤}

infixl 10 ◌>>=◌
abbrev pub ◌>>=◌ : {A B E : Type 0} → Result A E → (A → Result B E) → Result B E
(Ok x) >>= f = f x
(Err e) >>= f = Err e

-- the fault, if a test fails
abbrev pub guard : {E : Type 0} → Bool → E → Result ⊤ E
guard holds fault = if holds then Ok tt else Err fault

-- what all items make of a first value, one after another
unfoldable pub in_turn : {A B E : Type 0} → (A → B → Result A E) → A → List B → Result A E
in_turn f first [] = Ok first
in_turn f first (x ∷ xs) = do
  next ← f first x
  in_turn f next xs

-- the list so far, with what one more item is read as
abbrev pub with_item : {A B E : Type 0} → (B → Result A E) → List A → B → Result (List A) E
with_item f read x = do
  y ← f x
  Ok (read ++ y ∷ [])

-- what each item is read as
abbrev pub each : {A B E : Type 0} → (B → Result A E) → List B → Result (List A) E
each f xs = in_turn (with_item f) [] xs
