-- Which cells are planned, which entries are left, and which cells need neither.
use Rattle.std.proofs.Common.{◌≡◌, Bool, true, false, ◌||◌, List, [], ◌∷◌, Option, Some, None, refl, sym, ap, subst}
use Rattle.std.proofs.Common.{◌∙◌, T, map as each}
use Rattle.std.specs.List.{list_any}
use Rattle.std.specs.Option.{is_some}
use Rattle.std.specs.FinMap as map
use Rattle.std.specs.FinMap.{contains_key-keys, get-entries, entries_sorted}
use Rattle.std.specs.FinMap.Entries.{find, is_sorted, below_all}
use Rattle.std.specs.Cmp.{eq_by_cmp_equiv}
use Rattle.std.proofs.lemmas.Bool.{true≢false}
use Rattle.retro_tree.specs.CellOrder.{cell_cmp, cell_total}
use Rattle.retro_tree.specs.Cell.{value}
use Rattle.retro_tree.specs.Notes.{cell_eq}
use Rattle.retro_tree.specs.Overlay.{OverlayMap, combined_value}
use Rattle.retro_tree.specs.Exact.{IsDifference, IsTight}
use Rattle.retro_tree.specs.declared.cell.Cell.{Cell}
use Rattle.retro_tree.specs.declared.overlay_entry.OverlayEntry.{OverlayEntry}
use Rattle.retro_tree.specs.declared.state.State.{State}
use Rattle.retro_tree.proofs.Small.{both_fst, both_snd, none_some}
use Rattle.retro_tree.proofs.NoteLaws.{same_cells}
use Rattle.retro_tree.proofs.OverlayLemmas.{none_found}
use Rattle.retro_tree.proofs.PutCells.{found_first, found_later}
use Rattle.retro_difference.specs.inner.Write.{WriteMap}
use Rattle.retro_difference.specs.inner.Plan.{is_planned, is_listed, recorded_value, repaired_value}
use Rattle.retro_difference.specs.inner.Plan.{Covers, AreEntries}
use Rattle.retro_difference.proofs.Plans.{none_planned}

-- ---- the entries of a map
listed_keys : (es : List (Cell × OverlayEntry)) (c : Cell)
    → list_any (cell_eq c) (each (λ e. e.0) es) ≡ is_listed c es
listed_keys [] c = refl
listed_keys (e ∷ es) c = (λ i. (eq_by_cmp_equiv cell_total).symm c e.0 i || listed_keys es c i)

contained : (m : OverlayMap) (c : Cell) → map.contains_key m c ≡ is_listed c (map.entries m)
contained m c = contains_key-keys m c ∙ listed_keys (map.entries m) c

found_entries : (m : OverlayMap) (es : List (Cell × OverlayEntry)) → T (is_sorted cell_cmp es)
    → ((c : Cell) (l : OverlayEntry) → find cell_cmp c es ≡ Some l → map.get m c ≡ Some l) → AreEntries m es
found_entries m [] sorted found = tt
found_entries m (e ∷ es) sorted found = (
  found e.0 e.1 (found_first e es),
  found_entries m es (both_snd _ _ sorted) (λ c l is. go c l is (cell_eq e.0 c) refl),
)
  where
    go : (c : Cell) (l : OverlayEntry) → find cell_cmp c es ≡ Some l → (b : Bool) → cell_eq e.0 c ≡ b
        → map.get m c ≡ Some l
    go c l is true t =
        let below = subst (λ k. T (below_all cell_cmp k es)) (same_cells e.0 c t) (both_fst _ _ sorted) in
        absurd (none_some l (sym (none_found c es below) ∙ is))
    go c l is false t = found c l (found_later c e es t ∙ is)

pub own_entries : (m : OverlayMap) → AreEntries m (map.entries m)
own_entries m = found_entries m (map.entries m) (entries_sorted m) (λ c l is. get-entries m c ∙ is)

-- ---- what is covered
either : (x y : Bool) → (x || y) ≡ false → (x ≡ false) × (y ≡ false)
either true y e = absurd (true≢false e)
either false y e = (refl, e)

absent : (o : Option OverlayEntry) → is_some o ≡ false → o ≡ None
absent None h = refl
absent (Some l) h = absurd (true≢false h)

not_listed : (m : OverlayMap) (c : Cell) → is_listed c (map.entries m) ≡ false → map.get m c ≡ None
not_listed m c out = absent (map.get m c) (contained m c ∙ out)

-- no effect on a cell
pub covers_none : (overlay a b : OverlayMap) (s : State) (writes : WriteMap) (removals : List Cell)
    → IsTight overlay s → Covers overlay a b s writes removals (map.entries a) (map.entries b)
unfolding Covers
covers_none overlay a b s writes removals tight c out =
    let ends = either _ _ (either (is_planned writes removals c) _ out).1 in
    subst (λ x. IsDifference (map.get overlay c) (combined_value x (value c s)) (repaired_value overlay b s c))
    (sym (not_listed a c ends.0))
    (subst
    (λ x. IsDifference (map.get overlay c) (value c s)
    (combined_value x (combined_value (map.get overlay c) (value c s))))
    (sym (not_listed b c ends.1)) (tight c))

-- an entry of the one map whose cell the other map has too
pub covers_skip : (overlay a b : OverlayMap) (s : State) (writes : WriteMap) (removals : List Cell)
    (e : Cell × OverlayEntry) (rest : List (Cell × OverlayEntry)) → map.contains_key b e.0 ≡ true
    → Covers overlay a b s writes removals (e ∷ rest) (map.entries b)
    → Covers overlay a b s writes removals rest (map.entries b)
unfolding Covers
covers_skip overlay a b s writes removals e rest has h c out = h c (go (cell_eq e.0 c) refl out)
  where
    go : (t : Bool) → cell_eq e.0 c ≡ t
        → (is_planned writes removals c || (is_listed c rest || is_listed c (map.entries b))) ≡ false
        → (is_planned writes removals c || ((t || is_listed c rest) || is_listed c (map.entries b))) ≡ false
    go true t k =
        let there = sym (contained b c) ∙ ap (map.contains_key b) (sym (same_cells e.0 c t)) ∙ has in
        absurd (true≢false (sym there ∙ (either (is_listed c rest) _ (either (is_planned writes removals c) _ k).1).1))
    go false t k = k

pub covers_left : (overlay a b : OverlayMap) (s : State) (writes next : WriteMap) (removals later : List Cell)
    (e : Cell × OverlayEntry) (rest more : List (Cell × OverlayEntry))
    → ((c : Cell) → is_planned next later c ≡ (cell_eq e.0 c || is_planned writes removals c))
    → Covers overlay a b s writes removals (e ∷ rest) more → Covers overlay a b s next later rest more
unfolding Covers
covers_left overlay a b s writes next removals later e rest more one h c out =
    h c (sym (ap (λ x. x || (is_listed c rest || is_listed c more)) (one c)
    ∙ moved (cell_eq e.0 c) (is_planned writes removals c) (is_listed c rest) (is_listed c more)) ∙ out)
  where
    moved : (x y z w : Bool) → ((x || y) || (z || w)) ≡ (y || ((x || z) || w))
    moved true true z w = refl
    moved true false z w = refl
    moved false true z w = refl
    moved false false z w = refl

pub covers_later : (overlay a b : OverlayMap) (s : State) (writes next : WriteMap) (removals later : List Cell)
    (e : Cell × OverlayEntry) (rest : List (Cell × OverlayEntry))
    → ((c : Cell) → is_planned next later c ≡ (cell_eq e.0 c || is_planned writes removals c))
    → Covers overlay a b s writes removals [] (e ∷ rest) → Covers overlay a b s next later [] rest
unfolding Covers
covers_later overlay a b s writes next removals later e rest one h c out =
    h c (sym (ap (λ x. x || (false || is_listed c rest)) (one c)
    ∙ moved (cell_eq e.0 c) (is_planned writes removals c) (is_listed c rest)) ∙ out)
  where
    moved : (x y z : Bool) → ((x || y) || (false || z)) ≡ (y || (false || (x || z)))
    moved true true z = refl
    moved true false z = refl
    moved false true z = refl
    moved false false z = refl

-- ---- the same effects on both states
pub covers_both : (overlay m : OverlayMap) (s : State) (writes : WriteMap) (removals : List Cell)
    → IsTight overlay s → Covers overlay m m s writes removals [] (map.entries m)
unfolding Covers
covers_both overlay m s writes removals tight c out =
    covers_none overlay m m s writes removals tight c
    (twice (is_planned writes removals c) (is_listed c (map.entries m)) ∙ out)
  where
    twice : (x y : Bool) → (x || (y || y)) ≡ (x || (false || y))
    twice x true = refl
    twice x false = refl

-- the states agree in a cell without an entry, before them and so after them
pub covers_agreed : (overlay m : OverlayMap) (s : State) (writes : WriteMap) (removals : List Cell)
    (e : Cell × OverlayEntry) (rest : List (Cell × OverlayEntry)) → map.get overlay e.0 ≡ None
    → Covers overlay m m s writes removals [] (e ∷ rest) → Covers overlay m m s writes removals [] rest
unfolding Covers
covers_agreed overlay m s writes removals e rest none h c out = go (cell_eq e.0 c) refl (h c)
  where
    go : (t : Bool) → cell_eq e.0 c ≡ t
        → ((is_planned writes removals c || (false || (t || is_listed c rest))) ≡ false
        → IsDifference (map.get overlay c) (recorded_value m s c) (repaired_value overlay m s c))
        → IsDifference (map.get overlay c) (recorded_value m s c) (repaired_value overlay m s c)
    go true t k =
        subst (λ x. IsDifference x (recorded_value m s c) (combined_value (map.get m c) (combined_value x (value c s))))
        (sym (ap (map.get overlay) (sym (same_cells e.0 c t)) ∙ none)) refl
    go false t k = k out

-- ---- all of it
pub covered : (overlay a b : OverlayMap) (s : State) (writes : WriteMap) (removals : List Cell)
    → Covers overlay a b s writes removals [] [] → (c : Cell) → is_planned writes removals c ≡ false
    → IsDifference (map.get overlay c) (recorded_value a s c) (repaired_value overlay b s c)
unfolding Covers
covered overlay a b s writes removals h c out = h c (or_end (is_planned writes removals c) ∙ out)
  where
    or_end : (x : Bool) → (x || (false || false)) ≡ x
    or_end true = refl
    or_end false = refl

pub ruleset covering =
    (covers_none, covers_skip, covers_left, covers_later, covers_both, covers_agreed, own_entries, none_planned)
