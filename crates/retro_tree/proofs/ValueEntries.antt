-- Overlays all of whose entries are values.
use Rattle.std.proofs.Common.{◌≡◌, ℕ, Bool, true, false, List, Option, Some, None, refl, sym, ap, ◌∙◌}
use Rattle.std.specs.Bool.{if◌then◌else◌}
use Rattle.std.specs.Option.{is_some}
use Rattle.std.specs.FinMap as map
use Rattle.std.specs.FinMap.{get-empty}
use Rattle.std.proofs.lemmas.Bool.{false≢true, true≢false}
use Rattle.retro_tree.specs.CellOrder.{cell_cmp}
use Rattle.retro_tree.specs.Cell.{value}
use Rattle.retro_tree.specs.Notes.{cell_eq, after, changes, effects}
use Rattle.retro_tree.specs.Overlay.{OverlayMap, Overlays, AllValues, is_value, combined_value, overlay_entry_grown}
use Rattle.retro_tree.specs.Overlay.{grown_at, replaced_at}
use Rattle.retro_tree.specs.declared.cell.Cell.{Cell}
use Rattle.retro_tree.specs.declared.note.Note.{Note}
use Rattle.retro_tree.specs.declared.overlay_entry.OverlayEntry.{OverlayEntry}
use Rattle.retro_tree.specs.declared.overlay_entry.OverlayEntry.TheVariants as entries
use Rattle.retro_tree.specs.declared.state.State.{State}
use Rattle.retro_tree.proofs.Small.{none_some, some_same}
use Rattle.retro_tree.proofs.NoteLaws.{value_after, value_unchanged}
use Rattle.retro_tree.proofs.OverlayChanges.{get_set, get_erased}

-- ---- kept by the overlay's calls
pub values_none : AllValues map.empty
unfolding AllValues
values_none c l is = absurd (none_some l (sym (get-empty cell_cmp c) ∙ is))

pub values_inserted : (overlay : OverlayMap) (k : Cell) (w : OverlayEntry) → is_value w ≡ true
    → AllValues overlay → AllValues (map.insert overlay k w)
unfolding AllValues
values_inserted overlay k w of all c l is = go (cell_eq k c) refl
  where
    go : (b : Bool) → cell_eq k c ≡ b → is_value l ≡ true
    go true t = ap is_value
        (sym (some_same w l (sym (get_set overlay k w c ∙ ap (λ b. if b then Some w else map.get overlay c) t)
        ∙ is))) ∙ of
    go false t = all c l (sym (get_set overlay k w c ∙ ap (λ b. if b then Some w else map.get overlay c) t) ∙ is)

pub values_removed : (overlay : OverlayMap) (k : Cell) → AllValues overlay → AllValues (map.remove overlay k)
unfolding AllValues
values_removed overlay k all c l is = go (cell_eq k c) refl
  where
    go : (b : Bool) → cell_eq k c ≡ b → is_value l ≡ true
    go true t = absurd
        (none_some l (sym (get_erased overlay k c ∙ ap (λ b. if b then None else map.get overlay c) t) ∙ is))
    go false t = all c l (sym (get_erased overlay k c ∙ ap (λ b. if b then None else map.get overlay c) t) ∙ is)

value_at : (overlay : OverlayMap) (k : Cell) (l : OverlayEntry) → AllValues overlay → map.get overlay k ≡ Some l
    → is_value l ≡ true
unfolding AllValues
value_at overlay k l all e = all k l e

whole_grown : (bytes : List ℕ) (l : OverlayEntry) → is_value (overlay_entry_grown bytes l) ≡ is_value l
whole_grown bytes (entries.Value v) = refl
whole_grown bytes (entries.Growth old) = refl

pub values_grown : (overlay : OverlayMap) (k : Cell) (bytes : List ℕ) → AllValues overlay
    → AllValues (grown_at k bytes (map.get overlay k) overlay)
values_grown overlay k bytes all = go (map.get overlay k) refl
  where
    go : (x : Option OverlayEntry) → map.get overlay k ≡ x → AllValues (grown_at k bytes x overlay)
    go None e = all
    go (Some l) e = values_inserted overlay k (overlay_entry_grown bytes l) (whole_grown bytes l
        ∙ value_at overlay k l all e) all

pub values_replaced : (overlay : OverlayMap) (k : Cell) (w : OverlayEntry) → is_value w ≡ true
    → AllValues overlay → AllValues (replaced_at k w (map.get overlay k) overlay)
values_replaced overlay k w of all = go (map.get overlay k)
  where
    go : (x : Option OverlayEntry) → AllValues (replaced_at k w x overlay)
    go None = all
    go (Some l) = values_inserted overlay k w of all

-- a growth isn't found in such an overlay
pub no_growth : (overlay : OverlayMap) (k : Cell) (bytes : List ℕ) → AllValues overlay
    → Some (entries.Growth bytes) ≡ map.get overlay k → ⊥
no_growth overlay k bytes all e = false≢true (value_at overlay k (entries.Growth bytes) all (sym e))

-- ---- laws
-- the state below may change in any way in the cells that have entries
pub values_hide : (overlay : OverlayMap) (below now next_below next : State) → AllValues overlay
    → Overlays overlay below now
    → ((c : Cell) → map.contains_key overlay c ≡ true → value c next ≡ value c now)
    → ((c : Cell) → map.contains_key overlay c ≡ false → value c next ≡ value c next_below)
    → Overlays overlay next_below next
values_hide overlay below now next_below next all h kept moved c = go (map.get overlay c) refl
  where
    by_value : (l : OverlayEntry) → is_value l ≡ true → value c now ≡ combined_value (Some l) (value c below)
        → value c now ≡ combined_value (Some l) (value c next_below)
    by_value (entries.Value v) of e = e
    by_value (entries.Growth bytes) of e = absurd (false≢true of)

    go : (o : Option OverlayEntry) → map.get overlay c ≡ o → value c next ≡ combined_value o (value c next_below)
    go None e = moved c (ap is_some e)
    go (Some l) e = kept c (ap is_some e) ∙ by_value l (value_at overlay c l all e) (h c
        ∙ ap (λ o. combined_value o (value c below)) e)

-- both states change in the same way in cells that have no entry
pub notes_apart : (overlay : OverlayMap) (below now : State) (ns : List Note) → Overlays overlay below now
    → ((c : Cell) → changes ns c ≡ true → map.contains_key overlay c ≡ false)
    → Overlays overlay (after ns below) (after ns now)
notes_apart overlay below now ns h apart c = go (changes ns c) refl
  where
    same_there : (o : Option OverlayEntry) → is_some o ≡ false → (v w : _) → v ≡ combined_value o w
        → effects ns c v ≡ combined_value o (effects ns c w)
    same_there None e v w i = ap (effects ns c) i
    same_there (Some l) e v w i = absurd (true≢false e)

    go : (b : Bool) → changes ns c ≡ b → value c (after ns now) ≡ combined_value (map.get overlay c)
        (value c (after ns below))
    go true e =
        value_after ns c now
        ∙ same_there (map.get overlay c) (apart c e) (value c now) (value c below) (h c)
        ∙ ap (combined_value (map.get overlay c)) (sym (value_after ns c below))
    go false e = value_unchanged ns c now e ∙ h c ∙ ap (combined_value (map.get overlay c))
        (sym (value_unchanged ns c below e))

pub ruleset values = (values_none, values_inserted, values_removed, values_grown, values_replaced)

pub ruleset moving_below = (values_hide, notes_apart)
