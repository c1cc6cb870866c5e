-- The document of a case, as a JSON value and as a text.
use Rattle.std.specs.Prelude.{ℕ, List, ◌++◌, map, codes}
use Rattle.serde_json.specs.Data.{Data, string, object, no_members, member}
use Rattle.serde_json.specs.Written.{compact_text}
use Rattle.retro_json.specs.Values.{array_of, hex_data, number_data}

-- version 1, with the keys in byte order
abbrev pub case_object : Data → List ℕ → List ℕ → List ℕ → Data
case_object contents first lines unseen = object
    (member (codes "case") (number_data 1)
    (member (codes "contents") contents
    (member (codes "first") (string first)
    (member (codes "lines") (string lines)
    (member (codes "unseen") (string unseen) no_members)))))

-- bytes, as hexadecimal digits
unfoldable pub contents_data : List (List ℕ) → Data
contents_data contents = array_of (map hex_data contents)

-- the bytes of files, the texts of the first look and of the observations, and the rows of folders
-- in which it wasn't always seen what lines only read
unfoldable pub case_data : List (List ℕ) → List ℕ → List ℕ → List ℕ → Data
case_data contents first lines unseen = case_object (contents_data contents) first lines unseen

-- compact, with a newline at the end
unfoldable pub case_text : List (List ℕ) → List ℕ → List ℕ → List ℕ → List ℕ
case_text contents first lines unseen =
    compact_text (case_data contents first lines unseen) ++ codes "\n"
