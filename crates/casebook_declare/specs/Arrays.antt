-- The values of arrays: `([0]="x" [1]="y")` and `([key]="x" ["a b"]="y" )`. They say nothing, but
-- are known from what bash doesn't print.
use Rattle.std.specs.Prelude.{ℕ, ◌==◌, ◌&&◌, ◌||◌, Bool, true, false, not, zero, suc, List, [], ◌∷◌}
use Rattle.std.specs.Prelude.{length, codes, Option, None, option_and_then, option_map}
use Rattle.std.specs.Prelude.{if◌then◌else◌}
use Rattle.std.specs.List.{list_any}
use Rattle.std.specs.Char.{is_ascii_digit}
use Rattle.std.specs.Option.{option_map_or}
use Rattle.retro_path.specs.Order.{text_eq}
use Rattle.casebook_declare.specs.Bytes.{dollar, double_quote}
use Rattle.casebook_declare.specs.Parts.{after, after_some}
use Rattle.casebook_declare.specs.Quoted.{Said, quoted}
use Rattle.casebook_declare.specs.Units.{is_plain}

-- What a key has that isn't quoted. (bash quotes some keys with `#`, `~` and `@` too.)
abbrev pub is_bare : ℕ → Bool
is_bare b = is_plain b && not (list_any (λ c. c == b) (codes " !\"$&'()*;<>?[\\]^`{|}"))

abbrev pub rest_of : Said → List ℕ
rest_of said = said.rest

abbrev pub is_quote : ℕ → Bool
is_quote b = b == double_quote || b == dollar

-- what follows a key
abbrev pub after_key : List ℕ → Option (List ℕ)
after_key [] = None
after_key (b ∷ rest) =
    if is_quote b then option_map rest_of (quoted (b ∷ rest)) else after_some is_bare (b ∷ rest)

-- what follows an index, or the key of an associative array
unfoldable pub after_subscript : Bool → List ℕ → Option (List ℕ)
after_subscript is_keyed text =
    if is_keyed then after_key text else after_some is_ascii_digit text

-- what follows `[SUBSCRIPT]=VALUE`
unfoldable pub after_element : Bool → List ℕ → Option (List ℕ)
after_element is_keyed text =
    option_and_then (λ value. option_map rest_of (quoted value))
    (option_and_then (after (codes "]="))
    (option_and_then (after_subscript is_keyed) (after (codes "[") text)))

-- A blank follows each element of an associative array, and precedes each one of an indexed array
-- but the first.
unfoldable pub after_next : Bool → Bool → List ℕ → Option (List ℕ)
after_next is_keyed is_first text =
    if is_keyed then option_and_then (after (codes " ")) (after_element true text)
    else if is_first then after_element false text
    else option_and_then (after_element false) (after (codes " ") text)

-- whether a text is so many elements at most, and then a parenthesis
unfoldable pub are_elements : Bool → Bool → ℕ → List ℕ → Bool
are_elements is_keyed is_first zero text = false
are_elements is_keyed is_first (suc most) text =
    text_eq text (codes ")")
    || option_map_or (λ rest. are_elements is_keyed false most rest)
    (after_next is_keyed is_first text) false

-- An element has a byte at least, so there are no more elements than bytes.
abbrev pub is_array_in : Bool → List ℕ → Bool
is_array_in is_keyed text = are_elements is_keyed true (length text) text

-- whether a text is the value of an array
unfoldable pub is_array_value : Bool → List ℕ → Bool
is_array_value is_keyed text = option_map_or (is_array_in is_keyed) (after (codes "(") text) false
