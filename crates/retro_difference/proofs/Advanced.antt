-- A plan carried out: the overlay is exact after the line.
use Rattle.std.proofs.Common.{◌≡◌, Bool, true, false, ◌||◌, cond, List, [], ◌∷◌, Option, Some, None, refl, sym, ap}
use Rattle.std.proofs.Common.{subst, ◌∙◌, T}
use Rattle.std.specs.Bool.{if◌then◌else◌}
use Rattle.std.specs.Option.{is_some}
use Rattle.std.specs.List.{list_any}
use Rattle.std.specs.Ordering.{is_eq}
use Rattle.std.specs.FinMap as map
use Rattle.std.specs.FinMap.{get-entries, entries_sorted}
use Rattle.std.specs.FinMap.Entries.{find, is_sorted, below_all}
use Rattle.std.specs.Cmp.{eq_by_cmp_equiv}
use Rattle.retro_tree.specs.CellOrder.{cell_cmp, cell_total}
use Rattle.retro_tree.specs.Cell.{value}
use Rattle.retro_tree.specs.Notes.{cell_eq, after}
use Rattle.retro_tree.specs.Overlay.{OverlayMap, Overlays, combined_value, overlay_entry_grown, grown_at}
use Rattle.retro_tree.specs.Exact.{IsDifference, IsExact}
use Rattle.retro_tree.specs.declared.cell.Cell.{Cell}
use Rattle.retro_tree.specs.declared.note.Note.{Note}
use Rattle.retro_tree.specs.declared.overlay_entry.OverlayEntry.{OverlayEntry}
use Rattle.retro_tree.specs.declared.overlay_entry.OverlayEntry.TheVariants as entries
use Rattle.retro_tree.specs.declared.state.State.{State}
use Rattle.retro_tree.proofs.Small.{less, both_fst, both_snd}
use Rattle.retro_tree.proofs.NoteLaws.{same_cells}
use Rattle.retro_tree.proofs.OverlayChanges.{get_set, get_erased}
use Rattle.retro_tree.proofs.ExactOverlays.{exact_overlays}
use Rattle.retro_difference.specs.inner.Write.{WriteMap, entry_after, entry_written, wrote, wrote_all}
use Rattle.retro_difference.specs.inner.Write.{without}
use Rattle.retro_difference.specs.inner.Plan.{IsPlan, is_planned, recorded_value, repaired_value}
use Rattle.retro_difference.specs.inner.Plan.{carried_out, Covers}
use Rattle.retro_difference.specs.declared.write.Write.{Write}
use Rattle.retro_difference.specs.declared.write.Write.TheVariants.{Keep, Set, Grow}
use Rattle.retro_difference.proofs.Covering.{covered}

-- ---- a cell's entry after writes
get_wrote : (k : Cell) (w : Write) (overlay : OverlayMap) (c : Cell)
    → map.get (wrote k w overlay) c ≡ if cell_eq k c then entry_after w (map.get overlay c) else map.get overlay c
get_wrote k Keep overlay c = both (cell_eq k c)
  where
    both : (b : Bool) → map.get overlay c ≡ if b then map.get overlay c else map.get overlay c
    both true = refl
    both false = refl
get_wrote k (Set v) overlay c = get_set overlay k (entries.Value v) c
get_wrote k (Grow bytes) overlay c = go (map.get overlay k) refl
  where
    go : (o : Option OverlayEntry) → map.get overlay k ≡ o
        → map.get (grown_at k bytes (map.get overlay k) overlay) c
        ≡ if cell_eq k c then entry_after (Grow bytes) (map.get overlay c) else map.get overlay c
    go None e = ap (λ o. map.get (grown_at k bytes o overlay) c) e ∙ by_test (cell_eq k c) refl
      where
        by_test : (b : Bool) → cell_eq k c ≡ b
            → map.get overlay c ≡ if b then entry_after (Grow bytes) (map.get overlay c) else map.get overlay c
        by_test true t =
            let none = ap (map.get overlay) (sym (same_cells k c t)) ∙ e in
            none ∙ sym (ap (entry_after (Grow bytes)) none)
        by_test false t = refl
    go (Some l) e =
        ap (λ o. map.get (grown_at k bytes o overlay) c) e
        ∙ get_set overlay k (overlay_entry_grown bytes l) c ∙ by_test (cell_eq k c) refl
      where
        by_test : (b : Bool) → cell_eq k c ≡ b
            → if b then Some (overlay_entry_grown bytes l) else map.get overlay c
            ≡ if b then entry_after (Grow bytes) (map.get overlay c) else map.get overlay c
        by_test true t = sym (ap (entry_after (Grow bytes)) (ap (map.get overlay) (sym (same_cells k c t)) ∙ e))
        by_test false t = refl

no_write : (c : Cell) (es : List (Cell × Write)) → T (below_all cell_cmp c es) → find cell_cmp c es ≡ None
no_write c [] h = refl
no_write c (e ∷ es) h =
    ap (λ r. cond (is_eq r) (Some e.1) (find cell_cmp c es)) (less _ (both_fst _ _ h)) ∙ no_write c es (both_snd _ _ h)

get_wrote_all : (es : List (Cell × Write)) → T (is_sorted cell_cmp es) → (overlay : OverlayMap) (c : Cell)
    → map.get (wrote_all es overlay) c ≡ entry_written (find cell_cmp c es) (map.get overlay c)
get_wrote_all [] h overlay c = refl
get_wrote_all (e ∷ es) h overlay c =
    get_wrote_all es (both_snd _ _ h) (wrote e.0 e.1 overlay) c
    ∙ ap (entry_written (find cell_cmp c es)) (get_wrote e.0 e.1 overlay c)
    ∙ go (cell_eq e.0 c) refl
  where
    go : (b : Bool) → cell_eq e.0 c ≡ b
        → entry_written (find cell_cmp c es) (if b then entry_after e.1 (map.get overlay c) else map.get overlay c)
        ≡ entry_written (find cell_cmp c (e ∷ es)) (map.get overlay c)
    go true t =
        ap (λ o. entry_written o (entry_after e.1 (map.get overlay c)))
        (ap (λ d. find cell_cmp d es) (sym (same_cells e.0 c t)) ∙ no_write e.0 es (both_fst _ _ h))
        ∙ sym (ap (λ b. entry_written (cond b (Some e.1) (find cell_cmp c es)) (map.get overlay c))
        ((eq_by_cmp_equiv cell_total).symm c e.0 ∙ t))
    go false t = sym (ap (λ b. entry_written (cond b (Some e.1) (find cell_cmp c es)) (map.get overlay c))
        ((eq_by_cmp_equiv cell_total).symm c e.0 ∙ t))

get_without : (cs : List Cell) (overlay : OverlayMap) (c : Cell)
    → map.get (without cs overlay) c ≡ if list_any (cell_eq c) cs then None else map.get overlay c
get_without [] overlay c = refl
get_without (d ∷ cs) overlay c =
    get_without cs (map.remove overlay d) c
    ∙ ap (λ o. if list_any (cell_eq c) cs then None else o) (get_erased overlay d c
    ∙ ap (λ b. if b then None else map.get overlay c) ((eq_by_cmp_equiv cell_total).symm d c))
    ∙ go (cell_eq c d) (list_any (cell_eq c) cs)
  where
    go : (a b : Bool) → if b then None else (if a then None else map.get overlay c)
        ≡ if a || b then None else map.get overlay c
    go true true = refl
    go true false = refl
    go false b = refl

get_carried_out : (writes : WriteMap) (removals : List Cell) (overlay : OverlayMap) (c : Cell)
    → map.get (carried_out writes removals overlay) c
    ≡ if list_any (cell_eq c) removals then None else entry_written (map.get writes c) (map.get overlay c)
get_carried_out writes removals overlay c =
    get_without removals _ c
    ∙ ap (λ o. if list_any (cell_eq c) removals then None else o)
    (get_wrote_all (map.entries writes) (entries_sorted writes) overlay c
    ∙ ap (λ o. entry_written o (map.get overlay c)) (sym (get-entries writes c)))

-- ---- the line
difference_at : (overlay a b : OverlayMap) (s : State) (writes : WriteMap) (removals : List Cell) (c : Cell)
    → IsPlan overlay a b s writes removals
    → (is_planned writes removals c ≡ false
    → IsDifference (map.get overlay c) (recorded_value a s c) (repaired_value overlay b s c))
    → IsDifference
    (if list_any (cell_eq c) removals then None else entry_written (map.get writes c) (map.get overlay c))
    (recorded_value a s c) (repaired_value overlay b s c)
difference_at overlay a b s writes removals c plan others =
    go (list_any (cell_eq c) removals) refl (map.get writes c) refl
  where
    go : (t : Bool) → list_any (cell_eq c) removals ≡ t → (o : Option Write) → map.get writes c ≡ o
        → IsDifference (if t then None else entry_written o (map.get overlay c))
        (recorded_value a s c) (repaired_value overlay b s c)
    go true e o i = plan.removal c e
    go false e (Some w) i = plan.write c w i
    go false e None i = others (λ j. is_some (i j) || e j)

pub exact_after : (overlay a b : OverlayMap) (s t : State) (ns ms : List Note) (writes : WriteMap)
    (removals : List Cell)
    → ((r : State) → Overlays a r (after ns r))
    → ((r : State) → Overlays b r (after ms r))
    → IsPlan overlay a b s writes removals
    → Covers overlay a b s writes removals [] []
    → IsExact overlay s t → IsExact (carried_out writes removals overlay) (after ns s) (after ms t)
exact_after overlay a b s t ns ms writes removals recorded chosen plan covers exact c =
    let here = difference_at overlay a b s writes removals c plan (covered overlay a b s writes removals covers c) in
    let entry = if list_any (cell_eq c) removals then None else entry_written (map.get writes c) (map.get overlay c) in
    subst (λ o. IsDifference o (value c (after ns s)) (value c (after ms t)))
    (sym (get_carried_out writes removals overlay c))
    (subst (λ v. IsDifference entry v (value c (after ms t))) (sym (recorded s c))
    (subst (λ v. IsDifference entry (recorded_value a s c) v)
    (sym (chosen t c ∙ ap (combined_value (map.get b c)) (exact_overlays overlay s t exact c))) here))

pub ruleset advancing = (exact_after)
