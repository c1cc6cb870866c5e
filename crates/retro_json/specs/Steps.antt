-- Reading step by step: the first refusal ends it.
use Rattle.std.specs.Prelude.{List, [], ◌∷◌, Bool, Result, Ok, Err, if◌then◌else◌, ⊤}
use Rattle.retro_json.specs.declared.fault.Refusal.{Refusal}

infixl 10 ◌>>=◌
abbrev pub ◌>>=◌ : {A B : Type 0} → Result A Refusal → (A → Result B Refusal) → Result B Refusal
(Ok x) >>= f = f x
(Err e) >>= f = Err e

-- each item in turn, or the refusal of the first that is refused
unfoldable pub each : {A B : Type 0} → (A → Result B Refusal) → List A → Result (List B) Refusal
each f [] = Ok []
each f (x ∷ xs) = do
  y ← f x
  ys ← each f xs
  Ok (y ∷ ys)

-- the refusal, if a test fails
abbrev pub guard : Bool → Refusal → Result ⊤ Refusal
guard holds refusal = if holds then Ok tt else Err refusal
