-- A place in words.
use Rattle.std.specs.Prelude.{ℕ, List, [], ◌++◌, Option, Some, None, codes, decimal}
use Rattle.casebook_words.specs.Cut.{cut_words}
use Rattle.casebook_check.specs.Keys.{key_name}
use Rattle.casebook_check.specs.declared.place.Item.{Item}
use Rattle.casebook_check.specs.declared.place.Place.{Place}
use Rattle.casebook_check.specs.declared.place.Place.TheVariants as places

-- how many bytes of a key are shown
abbrev pub key_limit : ℕ
key_limit = 59

-- the number of a line, if there is one
abbrev pub number_words : Option ℕ → List ℕ
number_words None = []
number_words (Some n) = codes " (line " ++ decimal n ++ codes ")"

-- `lines, item 42 (line 57)`
abbrev pub item_words : Item → List ℕ
item_words at = key_name at.key ++ codes ", item " ++ decimal at.position ++ number_words at.number

unfoldable pub place_words : Place → List ℕ
place_words places.Document = codes "the document"
place_words (places.Byte position) = codes "byte " ++ decimal position
place_words (places.OtherKey key) = codes "the key \"" ++ cut_words key_limit key ++ codes "\""
place_words (places.MissingKey key) = codes "no key \"" ++ key_name key ++ codes "\""
place_words (places.Value key) = codes "the value of \"" ++ key_name key ++ codes "\""
place_words (places.Item at) = item_words at
