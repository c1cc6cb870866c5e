-- The attributes of a variable: letters after `declare -`.
use Rattle.std.specs.Prelude.{ℕ, ◌==◌, ◌&&◌, ◌||◌, Bool, nat_lt, List, [], ◌∷◌, length, codes}
use Rattle.std.specs.Prelude.{Option, Some, None, if◌then◌else◌}
use Rattle.std.specs.List.{list_any}
use Rattle.retro_path.specs.Order.{text_eq}
use Rattle.casebook_declare.specs.declared.attributes.Attributes.{Attributes}
use Rattle.casebook_declare.specs.declared.attributes.Kind.{Kind}
use Rattle.casebook_declare.specs.declared.attributes.Kind.TheVariants as kinds
use Rattle.casebook_declare.specs.declared.assignment.Assignment.{Assignment}
use Rattle.casebook_declare.specs.declared.assignment.Assignment.TheVariants as assignments

-- Indexed and associative arrays, integers, references, readonly, traced and exported variables,
-- and those whose values begin with a capital, are lower case, or are upper case.
abbrev pub letters : List ℕ
letters = codes "aAinrtxclu"

-- flags without a letter that they begin with
abbrev pub without : ℕ → List ℕ → List ℕ
without letter [] = []
without letter (flag ∷ flags) = if flag == letter then flags else flag ∷ flags

-- whether flags are some of the letters, in their order
unfoldable pub are_among : List ℕ → List ℕ → Bool
are_among flags [] = length flags == 0
are_among flags (letter ∷ more) = are_among (without letter flags) more

-- A variable without attributes has a dash.
unfoldable pub are_flags : List ℕ → Bool
are_flags flags = text_eq flags (codes "-") || (nat_lt 0 (length flags) && are_among flags letters)

abbrev pub has : List ℕ → ℕ → Bool
has flags letter = list_any (λ flag. flag == letter) flags

-- ---- what they mean, by the letters that a variable has

-- a is an indexed array, A an associative one, and n a reference
abbrev pub kind_of : (ℕ → Bool) → Kind
kind_of is_set =
    if is_set 97 then kinds.Indexed
    else if is_set 65 then kinds.Keyed
    else if is_set 110 then kinds.Reference
    else kinds.Value

-- r refuses a new value; i, c, l and u change it
abbrev pub assignment_of : (ℕ → Bool) → Assignment
assignment_of is_set =
    if is_set 114 then assignments.Refused
    else if is_set 105 || is_set 99 || is_set 108 || is_set 117 then assignments.Changed
    else assignments.Plain

-- x is for exported variables
unfoldable pub attributes : (ℕ → Bool) → Attributes
attributes is_set = record {
  kind = kind_of is_set;
  is_exported = is_set 120;
  assignment = assignment_of is_set;
}

-- the attributes that flags are
unfoldable pub attributes_of : List ℕ → Option Attributes
attributes_of flags = if are_flags flags then Some (attributes (has flags)) else None
