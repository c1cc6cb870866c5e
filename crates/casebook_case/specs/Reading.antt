-- Cases, read from the bytes of their documents.
use Rattle.std.specs.Prelude.{ℕ, ◌+◌, ◌==◌, Bool, false, List, [], ◌∷◌, Option, Some, None}
use Rattle.std.specs.Prelude.{Result, Ok, Err, codes, if◌then◌else◌, ok_or, option_and_then, option_map}
use Rattle.serde_json.specs.Data.{Data}
use Rattle.serde_json.specs.Find.{as_array, as_str, get}
use Rattle.retro_json.specs.Shape.{item_list, unsigned_in}
use Rattle.retro_json.specs.TreePart.{bytes_in}
use Rattle.retro_log.specs.Document.{json_of}
use Rattle.casebook_case.specs.Cases.{◌>>=◌, case_of}
use Rattle.casebook_case.specs.declared.case.Case.{Case}
use Rattle.casebook_case.specs.declared.case_fault.CaseFault.{CaseFault}
use Rattle.casebook_case.specs.declared.case_fault.CaseFault.TheVariants.{BadContent, NotACase, NotJson}

-- the parts of a case: the bytes of files, and three texts
pub record PartsView : Type 0 where
  pub contents : List (List ℕ)
  pub first : List ℕ
  pub lines : List ℕ
  pub unseen : List ℕ

-- ---- the bytes of files

abbrev pub items_in : Data → Option (List Data)
items_in d = option_map item_list (as_array d)

-- the bytes that hexadecimal digits of either case encode
abbrev pub content_in : Data → Option (List ℕ)
content_in d = option_and_then bytes_in (as_str d)

-- all bytes, of which the first have a place, or the place of the first that are none
unfoldable pub contents_from : ℕ → List Data → Result (List (List ℕ)) CaseFault
contents_from place [] = Ok []
contents_from place (d ∷ ds) = do
  bytes ← ok_or (content_in d) (BadContent place)
  contents ← contents_from (place + 1) ds
  Ok (bytes ∷ contents)

-- ---- documents

abbrev pub is_one : Option ℕ → Bool
is_one None = false
is_one (Some n) = n == 1

-- whether a value says that it is a case of version 1
abbrev pub is_case : Data → Bool
is_case d = is_one (option_and_then unsigned_in (get (codes "case") d))

abbrev pub text_at : List ℕ → Data → Result (List ℕ) CaseFault
text_at key d = ok_or (option_and_then as_str (get key d)) NotACase

-- the texts and the list are looked at before the bytes, which are counted from 1
abbrev pub parts_at : Data → Result PartsView CaseFault
parts_at d = do
  first ← text_at (codes "first") d
  lines ← text_at (codes "lines") d
  unseen ← text_at (codes "unseen") d
  items ← ok_or (option_and_then items_in (get (codes "contents") d)) NotACase
  contents ← contents_from 1 items
  Ok (record { contents = contents; first = first; lines = lines; unseen = unseen })

unfoldable pub parts_of : Data → Result PartsView CaseFault
parts_of d = if is_case d then parts_at d else Err NotACase

-- the case that a value is, or the first fault
unfoldable pub case_at : Data → Result Case CaseFault
case_at d = do
  parts ← parts_of d
  case_of parts.contents parts.first parts.lines parts.unseen

-- the case that bytes are, or the first fault
unfoldable pub case_in : List ℕ → Result Case CaseFault
case_in bytes = do
  d ← ok_or (json_of bytes) NotJson
  case_at d
