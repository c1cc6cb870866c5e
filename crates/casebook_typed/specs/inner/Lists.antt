-- Lists of lines, one for each observation.
use Rattle.std.specs.Prelude.{ℕ, Bool, true, false, List, [], ◌∷◌, map, slice_index_or}
use Rattle.std.specs.Global.{Vec}
use Rattle.casebook_typed.specs.declared.span.Span.{Span}

-- the list of an observation
abbrev pub list_at : List (Vec Span) → ℕ → List Span
list_at lists at = slice_index_or (map (λ v. v.items) lists) at []

-- a line, if a test of it is true
abbrev pub span_if : Span → Bool → List Span
span_if span true = span ∷ []
span_if span false = []
