-- Places, and the lines that are found by them.
use Rattle.std.specs.Prelude.{◌≡◌, ◌⊎◌, ◌≤◌, ◌<◌, ℕ, Bool, true, false, List, [], ◌∷◌, Option, Some, None, refl}
use Rattle.std.specs.BTreeMap.{is_at}
use Rattle.std.specs.Coded.{Coded, code_by, coded×}
use Rattle.std.specs.List.{list_any}
use Rattle.retro_tree.specs.Change.{cell_of}
use Rattle.retro_tree.specs.Notes.{cell_eq}
use Rattle.retro_tree.specs.Path.{is_child, parent_of, passwd}
use Rattle.retro_tree.specs.declared.ask.Ask.{Ask}
use Rattle.retro_tree.specs.declared.ask.Ask.TheVariants as asks
use Rattle.retro_tree.specs.declared.cell.Cell.{Cell}
use Rattle.retro_tree.specs.declared.cell.Cell.TheVariants as cells
use Rattle.retro_tree.specs.declared.note.Note.{Note}
use Rattle.retro_keep.specs.Recording.{IsWellFormed, RecordingValue, noted_at}
use Rattle.retro_keep.specs.declared.noted.Noted.{Noted}
use Rattle.retro_keep.specs.inner.RecordingCode.{coded_recording}
use Rattle.casebook_cause.specs.Cause.{TwoRecordings, notes_of}
use Rattle.casebook_cause.specs.LineResult.{changes_in}
use Rattle.casebook_cause.specs.declared.place.SearchPlace.{SearchPlace}
use Rattle.casebook_cause.specs.declared.place.SearchPlace.TheVariants as places
use Rattle.casebook_cause.specs.inner.PlaceOrder.{Entry, entry_cmp}

-- ---- places

-- whether a cell is at a place
abbrev pub is_at_place : SearchPlace → Cell → Bool
is_at_place (places.Cell c) d = cell_eq c d
is_at_place (places.ChildrenOf p) (cells.At q) = is_child p q
is_at_place (places.ChildrenOf p) _ = false

-- whether notes change a cell at a place
abbrev pub changes_place : SearchPlace → List Note → Bool
changes_place p notes = list_any (λ x. is_at_place p (cell_of x)) (changes_in notes)

-- the places of the cells on which the answer to a query can depend
abbrev pub places_for : Ask → List SearchPlace
places_for (asks.Kind p) = places.Cell (cells.At p) ∷ []
places_for (asks.Bytes p) = places.Cell (cells.At p) ∷ []
places_for (asks.Names p) = places.Cell (cells.At p) ∷ places.ChildrenOf p ∷ []
places_for (asks.CanWrite p size) = places.Cell (cells.At p) ∷ places.Cell (cells.At (parent_of p)) ∷ []
places_for (asks.User name) = places.Cell (cells.At passwd) ∷ []
places_for (asks.VarOf sid name) = places.Cell (cells.Var sid name) ∷ []
places_for (asks.CwdOf sid) = places.Cell (cells.Cwd sid) ∷ []
places_for (asks.StatusOf sid) = places.Cell (cells.Status sid) ∷ []

-- ---- the lines at a place

-- whether there is an entry of a line at a place, or at one of some places
abbrev pub has_line : ℕ → SearchPlace → List Entry → Bool
has_line n p entries = list_any (is_at (entry_cmp (p, n))) entries

abbrev pub has_line_in : List SearchPlace → List Entry → ℕ → Bool
has_line_in ps entries n = list_any (λ p. has_line n p entries) ps

-- the last line at a place below a number, or None if there is none
abbrev pub IsLastOf : SearchPlace → ℕ → List Entry → Option ℕ → Type 0
IsLastOf p n entries None = (k : ℕ) → k < n → has_line k p entries ≡ false
IsLastOf p n entries (Some m) =
    (m < n) × (has_line m p entries ≡ true) × ((k : ℕ) → k < n → has_line k p entries ≡ true → k ≤ m)

-- ---- two recordings

-- A line that changes a cell at a place has an entry there, if it makes other changes than a list
-- of notes.
abbrev pub HasEntries : ℕ → List Note → List Note → List Entry → Type 0
HasEntries n notes others entries =
    (p : SearchPlace) → changes_place p notes ≡ true
    → (has_line n p entries ≡ true) ⊎ (changes_in notes ≡ changes_in others)

-- the notes of the line with a number; none if no line has the number
abbrev pub notes_at : ℕ → List (ℕ × Noted) → List Note
notes_at n lines = notes_of (noted_at n lines)

-- each of some lines has its entries, if it makes other changes than the other line of its number
abbrev pub HaveEntries : List (ℕ × Noted) → List (ℕ × Noted) → List Entry → Type 0
HaveEntries lines others entries =
    (n : ℕ) → HasEntries n (notes_at n lines) (notes_at n others) entries

-- each line that makes other changes in one recording than in the other has its entries
pub record AreDifferences (one two : RecordingValue) (entries : List Entry) : Type 0 where
  pub recorded : HaveEntries one.lines two.lines entries
  pub repaired : HaveEntries two.lines one.lines entries
  pub well_recorded : IsWellFormed one
  pub well_repaired : IsWellFormed two

-- two recordings are stored as their pair
abbrev pub coded_two : Coded TwoRecordings
coded_two =
    code_by (RecordingValue × RecordingValue) (coded× coded_recording coded_recording) (λ t. (t.recorded, t.repaired))
    (λ p. record { recorded = p.0; repaired = p.1 }) (λ _. refl)
