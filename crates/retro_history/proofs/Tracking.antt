-- The histories of all cells after all lines.
use Rattle.std.proofs.Common.{◌≡◌, ◌≤◌, ℕ, Bool, true, false, cond, Option, Some, None, refl, sym, ap, ◌∙◌, List, []}
use Rattle.std.proofs.Common.{◌∷◌, drop, drop_of_length-le, length, Result, Ok, Err}
use Rattle.std.specs.Prelude.{IfOk}
use Rattle.std.specs.List.{filter}
use Rattle.std.specs.Ordering.{is_le}
use Rattle.std.specs.FinMap as map
use Rattle.std.specs.Option.{option_map, unwrap_or}
use Rattle.retro_tree.specs.CellOrder.{cell_cmp}
use Rattle.retro_tree.specs.Cell.{value}
use Rattle.retro_tree.specs.Notes.{changes}
use Rattle.retro_tree.specs.declared.cell.Cell.{Cell}
use Rattle.retro_tree.specs.declared.state.State.{State}
use Rattle.retro_keep.specs.Recording.{RecordingValue}
use Rattle.retro_history.specs.Index.{AreNumbered, Line}
use Rattle.retro_history.specs.inner.CellHistory.{AllRise, HistoryMap, history_in, history_noted}
use Rattle.retro_history.specs.inner.CellHistory.{new_history, uses_at}
use Rattle.retro_history.specs.inner.IndexSteps.{Indexes, listed_by}
use Rattle.retro_history.specs.inner.IsHistory.{IsTracked}
use Rattle.retro_history.specs.inner.LineUse.{reads_directly}
use Rattle.retro_history.specs.inner.Tracks.{new_track, tracked}
use Rattle.retro_history.specs.inner.Uses.{no_uses}
use Rattle.retro_history.specs.declared.cell_history.CellHistory.{CellHistory}
use Rattle.retro_history.specs.declared.index.Index.{Index}
use Rattle.retro_history.specs.declared.uses.Uses.{Uses}
use Rattle.retro_history.proofs.Gathering.{from_nothing, gathered, listed_lines}

-- the history of a cell after lines
abbrev pub history_after : Cell → List Line → CellHistory → CellHistory
history_after c [] h = h
history_after c (l ∷ lines) h = history_after c lines (history_noted c l.0 l.1.notes h)

track_after_lines : (c : Cell) (lines : List Line) (h : CellHistory)
    → (history_after c lines h).track ≡ tracked c lines h.track
track_after_lines c [] h = refl
track_after_lines c (l ∷ lines) h = track_after_lines c lines (history_noted c l.0 l.1.notes h)

written_after_lines : (c : Cell) (lines : List Line) (h : CellHistory)
    → (history_after c lines h).uses.written ≡ gathered (λ l. changes l.1.notes c) lines h.uses.written
written_after_lines c [] h = refl
written_after_lines c (l ∷ lines) h = written_after_lines c lines (history_noted c l.0 l.1.notes h)

read_after_lines : (c : Cell) (lines : List Line) (h : CellHistory)
    → (history_after c lines h).uses.read ≡ gathered (λ l. reads_directly l.1.notes c) lines h.uses.read
read_after_lines c [] h = refl
read_after_lines c (l ∷ lines) h = read_after_lines c lines (history_noted c l.0 l.1.notes h)

-- ---- all lines
pub no_histories : (c : Cell) (first : State) → history_in c first map.empty ≡ new_history (value c first)
no_histories c first = ap (λ o. unwrap_or o (new_history (value c first))) (map.get-empty cell_cmp c)

-- what a loop over the lines knows of each cell, at its end
abbrev pub AreAfter : List Line → State → ℕ → HistoryMap → Type 0
AreAfter lines first i m =
    (c : Cell) → history_after c (drop i lines) (history_in c first m)
    ≡ history_after c lines (new_history (value c first))

all_after : (lines : List Line) (first : State) (i : ℕ) (m : HistoryMap) → length lines ≤ i
    → AreAfter lines first i m → (c : Cell)
    → history_in c first m ≡ history_after c lines (new_history (value c first))
all_after lines first i m end h c =
    ap (λ ls. history_after c ls (history_in c first m)) (sym (drop_of_length-le lines end)) ∙ h c

pub all_tracked : (r : RecordingValue) (m : HistoryMap) (lines : List Line) (first : State) (i : ℕ)
    → lines ≡ r.lines → first ≡ r.first → length lines ≤ i → AreAfter lines first i m → IsTracked r m
unfolding IsTracked
all_tracked r m lines first i same start end h = λ c.
    ap (λ s. (history_in c s m).track) (sym start)
    ∙ ap (λ (x : CellHistory). x.track) (all_after lines first i m end h c)
    ∙ track_after_lines c lines (new_history (value c first))
    ∙ (λ j. tracked c (same j) (new_track (value c (start j))))

uses_are : (c : Cell) (first : State) (m : HistoryMap) → uses_at m c ≡ (history_in c first m).uses
uses_are c first m = go (map.get m c)
  where
    go : (o : Option CellHistory)
        → unwrap_or (option_map (λ h. h.uses) o) no_uses ≡ (unwrap_or o (new_history (value c first))).uses
    go None = refl
    go (Some h) = refl

pub all_indexed : (lines : List Line) (first : State) (i : ℕ) (index : Index) → AreNumbered lines → length lines ≤ i
    → AreAfter lines first i index.cells → listed_by (drop i lines) index.listed ≡ listed_by lines map.empty
    → Indexes index lines
all_indexed lines first i index rising end h listed = record {
  numbered = rising;
  written = λ c. ap (λ (u : Uses). u.written) (uses_are c first index.cells
      ∙ ap (λ (x : CellHistory). x.uses) (all_after lines first i index.cells end h c))
      ∙ written_after_lines c lines (new_history (value c first))
      ∙ from_nothing (λ l. changes l.1.notes c) lines [] rising refl;
  read = λ c. ap (λ (u : Uses). u.read) (uses_are c first index.cells
      ∙ ap (λ (x : CellHistory). x.uses) (all_after lines first i index.cells end h c))
      ∙ read_after_lines c lines (new_history (value c first))
      ∙ from_nothing (λ l. reads_directly l.1.notes c) lines [] rising refl;
  listed = listed_lines lines index.listed rising
      (ap (λ ls. listed_by ls index.listed) (sym (drop_of_length-le lines end)) ∙ listed);
}

-- ---- the histories after a cell
pub later_rise : (c : Cell) (es : List (Cell × CellHistory)) → AllRise es
    → AllRise (filter (λ e. is_le (cell_cmp c e.0)) es)
later_rise c [] h = tt
later_rise c (e ∷ es) h = go (is_le (cell_cmp c e.0)) (later_rise c es h.1)
  where
    go : (b : Bool) → AllRise (filter (λ f. is_le (cell_cmp c f.0)) es)
        → AllRise (cond b (e ∷ filter (λ f. is_le (cell_cmp c f.0)) es) (filter (λ f. is_le (cell_cmp c f.0)) es))
    go true rest = (h.0, rest)
    go false rest = rest

-- a clause on a result, from another
pub if_ok : {A E : Type 0} (r : Result A E) (P Q : A → Type 0) → ((x : A) → P x → Q x) → IfOk r P → IfOk r Q
if_ok (Ok x) P Q f h = f x h
if_ok (Err e) P Q f h = tt
