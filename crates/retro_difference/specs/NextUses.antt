-- The next uses of the cells in which two states differ: which lines use which of them next.
use Rattle.std.specs.Prelude.{◌≡◌, ◌⊎◌, ℕ, ◌<◌, ◌≤◌, ◌==◌, nat_lt, Bool, true, false, ◌&&◌, ◌||◌, if◌then◌else◌}
use Rattle.std.specs.Prelude.{List, [], ◌∷◌, Option, Some, None}
use Rattle.std.specs.List.{list_any}
use Rattle.std.specs.List.Sorted.{IsStrictlySortedBy}
use Rattle.std.specs.Ordering.{nat_cmp, ordering_then}
use Rattle.std.specs.BTreeMap.{is_at}
use Rattle.std.specs.FinMap as map
use Rattle.std.specs.declared.cmp.Ordering.{Ordering}
use Rattle.retro_tree.specs.CellOrder.{cell_cmp}
use Rattle.retro_tree.specs.Notes.{cell_eq, touches}
use Rattle.retro_tree.specs.Overlay.{OverlayMap}
use Rattle.retro_tree.specs.declared.cell.Cell.{Cell}
use Rattle.retro_keep.specs.Edit.{is_among}
use Rattle.retro_history.specs.Index.{Line, next_use}

-- an entry: the number of a line, and a cell
abbrev pub Use : Type 0
Use = ℕ × Cell

-- entries are ordered by number, and then by cell
abbrev pub use_cmp : Use → Use → Ordering
use_cmp x y = ordering_then (nat_cmp x.0 y.0) (cell_cmp x.1 y.1)

abbrev pub AreSorted : List Use → Type 0
AreSorted uses = IsStrictlySortedBy use_cmp uses

-- whether a cell has an entry at a number
abbrev pub has_use : ℕ → Cell → List Use → Bool
has_use n c uses = list_any (is_at (use_cmp (n, c))) uses

-- the number of the first entry, and whether it is a given one
abbrev pub first_number : List Use → Option ℕ
first_number [] = None
first_number (u ∷ uses) = Some u.0

abbrev pub starts_at : ℕ → List Use → Bool
starts_at n [] = false
starts_at n (u ∷ uses) = u.0 == n

-- whether a list has a cell
abbrev pub has_cell : Cell → List Cell → Bool
has_cell c cells = list_any (cell_eq c) cells

-- ---- entries and lines

-- the number of the first line that reads or changes a cell
abbrev pub first_use : Cell → List Line → Option ℕ
first_use c [] = None
first_use c (l ∷ lines) = if touches l.1.notes c then Some l.0 else first_use c lines

-- whether a line with a number reads or changes a cell
abbrev pub is_use : ℕ → Cell → List Line → Bool
is_use n c lines = list_any (λ l. (l.0 == n) && touches l.1.notes c) lines

-- a cell has an entry at the next line above a number that uses it, if there is such a line
abbrev pub HasNext : ℕ → List Line → Cell → List Use → Type 0
HasNext after lines c uses = (n : ℕ) → next_use after c lines ≡ Some n → has_use n c uses ≡ true

-- entries were added, each at the next line above a number that uses its cell
pub record AddsUses (after : ℕ) (lines : List Line) (old new : List Use) : Type 0 where
  pub kept : (n : ℕ) (c : Cell) → has_use n c old ≡ true → has_use n c new ≡ true
  pub only : (n : ℕ) (c : Cell) → has_use n c new ≡ true
      → (has_use n c old ≡ true) ⊎ (next_use after c lines ≡ Some n)
  pub sorted : AreSorted old → AreSorted new

-- ---- entries and the overlay

-- the first entry is of a cell with an entry in the overlay
abbrev pub IsFirstIn : OverlayMap → List Use → Type 0
IsFirstIn overlay [] = Unit {0}
IsFirstIn overlay (u ∷ uses) = map.contains_key overlay u.1 ≡ true

-- there are no entries, or the first one is at a greater number and its cell has an entry in the
-- overlay
abbrev pub is_first_over : ℕ → OverlayMap → List Use → Bool
is_first_over after overlay [] = true
is_first_over after overlay (u ∷ uses) = nat_lt after u.0 && map.contains_key overlay u.1

-- Entries were removed. None of them was both at a greater number and of a cell with an entry in
-- the overlay. The first entry that is left is both.
pub record Prunes (after : ℕ) (overlay : OverlayMap) (old new : List Use) : Type 0 where
  pub only : (n : ℕ) (c : Cell) → has_use n c new ≡ true → has_use n c old ≡ true
  pub kept : (n : ℕ) (c : Cell) → after < n → map.contains_key overlay c ≡ true → has_use n c old ≡ true
      → has_use n c new ≡ true
  pub first : is_first_over after overlay new ≡ true
  pub sorted : AreSorted old → AreSorted new

-- ---- entries and the lines that follow

-- Each cell with an entry in the overlay has an entry at the first of the lines to settle that uses
-- it. Each entry is at one of these lines, which uses its cell. The first entry's cell has an entry
-- in the overlay.
pub record KeepsUses (overlay : OverlayMap) (lines : List Line) (uses : List Use) : Type 0 where
  pub complete : (c : Cell) (n : ℕ) → map.contains_key overlay c ≡ true → first_use c lines ≡ Some n
      → has_use n c uses ≡ true
  pub sound : (n : ℕ) (c : Cell) → has_use n c uses ≡ true → is_use n c lines ≡ true
  pub first : IsFirstIn overlay uses
  pub sorted : AreSorted uses

-- ---- the numbers of lines that use the cells

-- A number was added, and those above it of all lines that use a cell, up to another number.
pub record AddsNumbers (from last : ℕ) (c : Cell) (lines : List Line) (old new : List ℕ) : Type 0 where
  pub kept : (n : ℕ) → is_among old n ≡ true → is_among new n ≡ true
  pub only : (n : ℕ) → is_among new n ≡ true
      → (is_among old n ≡ true) ⊎ ((n ≤ last) × ((n ≡ from) ⊎ ((from < n) × (is_use n c lines ≡ true))))
  pub added : (n : ℕ) → from ≤ n → n ≤ last → (n ≡ from) ⊎ (is_use n c lines ≡ true) → is_among new n ≡ true

-- a number is that of an entry whose cell is in the overlay, or of a later line that uses the cell
abbrev pub IsUsedBy : ℕ → OverlayMap → List Line → List Use → ℕ → Type 0
IsUsedBy last overlay lines uses n =
    (n ≤ last) × (m : ℕ) × (c : Cell) × (has_use m c uses ≡ true) × (map.contains_key overlay c ≡ true)
    × ((n ≡ m) ⊎ ((m < n) × (is_use n c lines ≡ true)))

-- the numbers are all of those
pub record AreNumbersUntil (last : ℕ) (overlay : OverlayMap) (lines : List Line) (uses : List Use) (numbers : List ℕ)
    : Type 0 where
  pub only : (n : ℕ) → is_among numbers n ≡ true → IsUsedBy last overlay lines uses n
  pub all : (n m : ℕ) (c : Cell) → has_use m c uses ≡ true → map.contains_key overlay c ≡ true → m ≤ n → n ≤ last
      → (n ≡ m) ⊎ (is_use n c lines ≡ true) → is_among numbers n ≡ true
