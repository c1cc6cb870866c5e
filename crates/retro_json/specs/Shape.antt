-- JSON values of one shape.
use Rattle.std.specs.Prelude.{ℕ, ◌^◌, List, [], ◌∷◌, Option, Some, None, Result, nat_lt, if◌then◌else◌, option_map}
use Rattle.std.specs.Prelude.{option_and_then, ok_or}
use Rattle.serde_json.specs.Data.{Data, Items, no_items, item}
use Rattle.serde_json.specs.Find.{as_number, as_u64, as_str, as_array}
use Rattle.retro_json.specs.declared.fault.Part.{Part}
use Rattle.retro_json.specs.declared.fault.Refusal.{Refusal}
use Rattle.retro_json.specs.declared.fault.Refusal.TheVariants.{WrongShape}

-- a text is its bytes
abbrev pub Text : Type 0
Text = List ℕ

-- the items of an array
abbrev pub item_list : Items → List Data
item_list no_items = []
item_list (item d ds) = d ∷ item_list ds

abbrev pub cells : Part → Data → Result (List Data) Refusal
cells part d = ok_or (option_map item_list (as_array d)) (WrongShape part)

abbrev pub text_in : Part → Data → Result Text Refusal
text_in part d = ok_or (as_str d) (WrongShape part)

-- a whole number, of 64 bits
abbrev pub unsigned_in : Data → Option ℕ
unsigned_in d = option_and_then as_u64 (as_number d)

abbrev pub below : ℕ → ℕ → Option ℕ
below limit n = if nat_lt n limit then Some n else None

-- a whole number below a limit
abbrev pub number_in : Part → ℕ → Data → Result ℕ Refusal
number_in part limit d = ok_or (option_and_then (below limit) (unsigned_in d)) (WrongShape part)

abbrev pub u32_in : Part → Data → Result ℕ Refusal
u32_in part d = number_in part (2 ^ 32) d

abbrev pub u8_in : Part → Data → Result ℕ Refusal
u8_in part d = number_in part (2 ^ 8) d
