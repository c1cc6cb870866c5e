-- Texts of a repair whose notes hold in the repaired state before them.
use Rattle.std.specs.Prelude.{◌<◌, ℕ, List, Option, Some, None, length}
use Rattle.std.specs.List.{All, AllWithin, HoldsAt}
use Rattle.retro_tree.specs.Notes.{Holds}
use Rattle.retro_keep.specs.Recorded.{recorded_before}
use Rattle.retro_keep.specs.Recording.{RecordingValue}
use Rattle.casebook_real.specs.declared.based.BasedText.{BasedText}

-- the notes on which a text rests hold in the state before it
abbrev pub HasItsBasis : RecordingValue → BasedText → Type 0
HasItsBasis r text = Holds text.basis (recorded_before text.number r)

-- the index of the first item that hasn't a property, or None if each has it
abbrev pub IsFirstWithout : {A : Type 0} → (A → Type 0) → List A → Option ℕ → Type 0
IsFirstWithout P xs None = All P xs
IsFirstWithout P xs (Some i) = (i < length xs) × AllWithin P xs 0 i × HoldsAt (λ x. ¬ (P x)) xs i
