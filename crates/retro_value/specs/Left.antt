-- What is left to read of a text, as its tokens (`json`) and as the data (`serde_json`) that they
-- are.
use Rattle.std.specs.Prelude.{◌≡◌, ℕ, Bool, true, false, List, length, Option, None, is_some}
use Rattle.json.specs.Token.{Token}
use Rattle.json.specs.Json as json
use Rattle.serde_json.specs.Data.{Data, Items, Members}
use Rattle.serde_json.specs.Find.{as_array, as_object}
use Rattle.serde_json.specs.Read.{number_of, of_json, of_items, of_members, converted}

-- the value with which the tokens begin, nested no deeper than a depth, and the tokens after it
abbrev pub value_left : ℕ → List Token → Option (Data × List Token)
value_left depth ts = converted of_json (json.value depth ts)

-- the items up to the end of their array, and the tokens after it
abbrev pub items_left : ℕ → List Token → Option (Items × List Token)
items_left depth ts = converted of_items (json.items (json.value depth) (length ts) ts)

-- the members up to the end of their object, put into those before them, and the tokens after it
abbrev pub members_left : ℕ → Members → List Token → Option (Members × List Token)
members_left depth found ts = converted (λ ms. of_members ms found) (json.members (json.value depth) (length ts) ts)

-- what the first token of a value says of its data
abbrev pub IsOf : Token → Data → Type 0
IsOf Token.begin_array d = as_object d ≡ None
IsOf Token.begin_object d = as_array d ≡ None
IsOf t d = (as_array d ≡ None) × (as_object d ≡ None)

-- whether a token is a value; numbers must be in range
abbrev pub is_whole : Token → Bool
is_whole (Token.string s) = true
is_whole (Token.number s) = is_some (number_of s)
is_whole (Token.boolean b) = true
is_whole Token.null = true
is_whole t = false
