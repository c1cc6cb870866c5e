-- The statuses of a pipeline.
use Rattle.std.specs.Prelude.{ℕ, ◌==◌, List, [], ◌∷◌, Option, Some}
use Rattle.std.specs.Prelude.{option_and_then, option_map}
use Rattle.std.specs.List.{slice_split}
use Rattle.casebook_record.specs.Numbers.{status_of}

-- ' '
abbrev pub blank : ℕ
blank = 32

-- what each item is read as, or None if one isn't read
abbrev pub all_of : {A B : Type 0} → (A → Option B) → List A → Option (List B)
all_of read [] = Some []
all_of read (x ∷ xs) =
    option_and_then (λ y. option_map (λ ys. y ∷ ys) (all_of read xs)) (read x)

-- one status or more, with one blank between two
unfoldable pub statuses_of : List ℕ → Option (List ℕ)
statuses_of field = all_of status_of (slice_split (λ b. b == blank) field)
