-- Overlays as finite maps: the empty one, and one made of entries.
use Rattle.std.proofs.Common.{◌≡◌, Bool, true, false, cond, List, [], ◌∷◌, Option, Some, None, refl, sym, ap, subst}
use Rattle.std.proofs.Common.{◌∙◌, T, Result, Ok, Err}
use Rattle.std.specs.Prelude.{OnErr}
use Rattle.std.specs.Ordering.{eq_by_cmp, is_eq}
use Rattle.std.specs.FinMap as map
use Rattle.std.specs.FinMap.{get-insert, get-entries, get-empty, entries_sorted, same_map}
use Rattle.std.specs.FinMap.Entries.{find, is_sorted, below_all}
use Rattle.retro_tree.specs.CellOrder.{cell_cmp, cell_total, cell_exact}
use Rattle.retro_tree.specs.Cell.{value}
use Rattle.retro_tree.specs.Overlay.{OverlayMap, Overlays, combined_value}
use Rattle.retro_tree.specs.declared.cell.Cell.{Cell}
use Rattle.retro_tree.specs.declared.overlay_entry.OverlayEntry.{OverlayEntry}
use Rattle.retro_tree.specs.declared.state.State.{State}
use Rattle.retro_tree.proofs.Small.{tied, less, both_fst, both_snd}

pub nothing_set : (s : State) → Overlays map.empty s s
nothing_set s c = sym (ap (λ x. combined_value x (value c s)) (get-empty cell_cmp c))

pub any_err : {A E : Type 0} (r : Result A E) (P : Type 0) → P → OnErr r P
any_err (Ok x) P h = tt
any_err (Err e) P h = h

-- a cell that is less than each of these isn't found among them
pub none_found : (c : Cell) (es : List (Cell × OverlayEntry)) → T (below_all cell_cmp c es) → find cell_cmp c es ≡ None
none_found c [] h = refl
none_found c (e ∷ es) h = ap (λ r. cond (is_eq r) (Some e.1) (find cell_cmp c es)) (less _ (both_fst _ _ h))
    ∙ none_found c es (both_snd _ _ h)

-- ---- entries set one after another
abbrev pub entries_in_turn : List (Cell × OverlayEntry) → OverlayMap → OverlayMap
entries_in_turn [] overlay = overlay
entries_in_turn (e ∷ es) overlay = entries_in_turn es (map.insert overlay e.0 e.1)

abbrev first_of : Option OverlayEntry → Option OverlayEntry → Option OverlayEntry
first_of None o = o
first_of (Some v) o = Some v

found_in_turn : (es : List (Cell × OverlayEntry)) → T (is_sorted cell_cmp es)
    → (overlay : OverlayMap) (c : Cell) → map.get (entries_in_turn es overlay) c ≡ first_of (find cell_cmp c es)
    (map.get overlay c)
found_in_turn [] h overlay c = refl
found_in_turn (e ∷ es) h overlay c =
    found_in_turn es (both_snd _ _ h) (map.insert overlay e.0 e.1) c
    ∙ ap (first_of (find cell_cmp c es)) (get-insert cell_total overlay e.0 e.1 c)
    ∙ go (eq_by_cmp cell_cmp c e.0) refl
  where
    go : (b : Bool) → eq_by_cmp cell_cmp c e.0 ≡ b
        → first_of (find cell_cmp c es) (cond b (Some e.1) (map.get overlay c))
        ≡ first_of (cond b (Some e.1) (find cell_cmp c es)) (map.get overlay c)
    go true t = ap (λ o. first_of o (Some e.1))
        (none_found c es (subst (λ k. T (below_all cell_cmp k es)) (sym (cell_exact c e.0 (tied _ t)))
        (both_fst _ _ h)))
    go false t = refl

keeps_none : (o : Option OverlayEntry) → first_of o None ≡ o
keeps_none None = refl
keeps_none (Some v) = refl

-- an overlay is made of its entries
pub overlays_again : (overlay : OverlayMap) → entries_in_turn (map.entries overlay) map.empty ≡ overlay
overlays_again overlay = same_map cell_total cell_exact _ _ (λ c.
    found_in_turn (map.entries overlay) (entries_sorted overlay) map.empty c
    ∙ ap (first_of (find cell_cmp c (map.entries overlay))) (get-empty cell_cmp c)
    ∙ keeps_none _ ∙ sym (get-entries overlay c))
