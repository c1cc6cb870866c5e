-- About documents: JSON (RFC 8259) that says who typed in the sessions of a log, and when.
use Rattle.std.specs.Prelude.{ℕ, ℤ, List, [], ◌∷◌, Bool, false, ◌==◌, Option, Some, None, Result, Ok, Err, codes, map, ok_or}
use Rattle.std.specs.Prelude.{if◌then◌else◌, option_and_then, option_map}
use Rattle.serde_json.specs.Data.{Data, Items, no_items, item}
use Rattle.serde_json.specs.Find.{as_array, as_number, as_u64, get}
use Rattle.serde_json.specs.Read.{read}
use Rattle.casebook_about.specs.Rows.{rows_read, time_row, time_view, user_row, user_view}
use Rattle.casebook_about.specs.declared.about.About.{About}
use Rattle.casebook_about.specs.declared.fault.AboutFault.{AboutFault}
use Rattle.casebook_about.specs.declared.fault.AboutFault.TheVariants.{NotAList, NotAbout, NotJson}
use Rattle.casebook_about.specs.declared.fault.Part.{Part}
use Rattle.casebook_about.specs.declared.fault.Part.TheVariants.{Lines, Sessions}

-- sessions with the names of their users, and lines with their times, in the document's order
pub record AboutView : Type 0 where
  pub users : List (ℕ × List ℕ)
  pub times : List (ℕ × ℤ)

abbrev pub is_one : Option ℕ → Bool
is_one None = false
is_one (Some n) = n == 1

-- whether a value says that it is an about document
abbrev pub is_about : Data → Bool
is_about d = is_one (option_and_then as_u64 (option_and_then as_number (get (codes "about") d)))

abbrev pub item_list : Items → List Data
item_list no_items = []
item_list (item d ds) = d ∷ item_list ds

abbrev pub list_or_none : Part → Option Data → Result (List Data) AboutFault
list_or_none part None = Ok []
list_or_none part (Some d) = ok_or (option_map item_list (as_array d)) (NotAList part)

-- the list under a key, or no items if there is no such key
abbrev pub list_under : Part → List ℕ → Data → Result (List Data) AboutFault
list_under part key d = list_or_none part (get key d)

infixl 10 ◌>>=◌
abbrev pub ◌>>=◌ : {A B : Type 0} → Result A AboutFault → (A → Result B AboutFault) → Result B AboutFault
(Ok x) >>= f = f x
(Err e) >>= f = Err e

-- the lists of both parts are looked at before their rows
abbrev pub parts_of : Data → Result AboutView AboutFault
parts_of d = do
  sessions ← list_under Sessions (codes "sessions") d
  lines ← list_under Lines (codes "lines") d
  users ← rows_read Sessions user_row sessions
  times ← rows_read Lines time_row lines
  Ok (record { users = users; times = times })

abbrev pub about_of : Data → Result AboutView AboutFault
about_of d = if is_about d then parts_of d else Err NotAbout

abbrev pub parsed : List ℕ → Result Data AboutFault
parsed text = ok_or (read text) NotJson

-- what a text says, or why it is no about document
unfoldable pub about_in : List ℕ → Result AboutView AboutFault
about_in text = do
  d ← parsed text
  about_of d

-- ---- values of the code

abbrev pub about_view : About → AboutView
about_view about = record { users = map user_view about.users.items; times = map time_view about.times.items }
