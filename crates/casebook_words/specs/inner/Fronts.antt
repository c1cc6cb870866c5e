-- The fronts of two texts.
use Rattle.std.specs.Prelude.{◌≡◌, ℕ, ◌+◌, ◌<◌, ◌≤◌, List, ◌∷◌, drop, length}
use Rattle.casebook_words.specs.Lines.{texts_in}

-- both texts have the same first line, and these rests after it
pub record StepTogether (old new old_rest new_rest : List ℕ) : Type 0 where
  pub line : List ℕ
  pub old_is : texts_in old ≡ line ∷ texts_in old_rest
  pub new_is : texts_in new ≡ line ∷ texts_in new_rest
  pub old_shorter : length old_rest < length old
  pub new_shorter : length new_rest < length new

-- the rest of a text after its first lines, this many
pub record IsRest (text : List ℕ) (before : ℕ) (rest : List ℕ) : Type 0 where
  pub lines : texts_in rest ≡ drop before (texts_in text)
  pub size : before + length rest ≤ length text
