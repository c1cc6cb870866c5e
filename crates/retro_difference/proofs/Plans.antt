-- Plans with one more cell.
use Rattle.std.proofs.Common.{◌≡◌, Bool, true, false, ◌||◌, List, [], ◌∷◌, ◌++◌, Some, None, refl, sym, ap, subst, ◌∙◌}
use Rattle.std.specs.Bool.{if◌then◌else◌}
use Rattle.std.specs.Option.{is_some}
use Rattle.std.specs.List.{list_any}
use Rattle.std.specs.FinMap as map
use Rattle.std.specs.FinMap.{get-insert}
use Rattle.std.specs.Cmp.{eq_by_cmp_equiv}
use Rattle.std.proofs.lemmas.Bool.{false≢true}
use Rattle.retro_tree.specs.CellOrder.{cell_total}
use Rattle.retro_tree.specs.Notes.{cell_eq}
use Rattle.retro_tree.specs.Overlay.{OverlayMap}
use Rattle.retro_tree.specs.Exact.{IsDifference}
use Rattle.retro_tree.specs.declared.cell.Cell.{Cell}
use Rattle.retro_tree.specs.declared.state.State.{State}
use Rattle.retro_tree.proofs.Small.{some_same}
use Rattle.retro_tree.proofs.NoteLaws.{same_cells}
use Rattle.retro_difference.specs.inner.Write.{WriteMap, entry_after, decided_entry}
use Rattle.retro_difference.specs.inner.Plan.{IsPlan, is_planned, recorded_value, repaired_value}
use Rattle.retro_difference.specs.declared.write.Write.{Write}

get_planned : (writes : WriteMap) (k : Cell) (w : Write) (c : Cell)
    → map.get (map.insert writes k w) c ≡ if cell_eq k c then Some w else map.get writes c
get_planned writes k w c = get-insert cell_total writes k w c
    ∙ ap (λ b. if b then Some w else map.get writes c) ((eq_by_cmp_equiv cell_total).symm c k)

or_swap : (x y z : Bool) → (x || (y || z)) ≡ (y || (x || z))
or_swap true true z = refl
or_swap true false z = refl
or_swap false true z = refl
or_swap false false z = refl

any_pushed : (cs : List Cell) (k c : Cell)
    → list_any (cell_eq c) (cs ++ k ∷ []) ≡ (cell_eq k c || list_any (cell_eq c) cs)
any_pushed [] k c = ap (λ b. b || false) ((eq_by_cmp_equiv cell_total).symm c k)
any_pushed (d ∷ cs) k c = ap (λ b. cell_eq c d || b) (any_pushed cs k c) ∙ or_swap (cell_eq c d) (cell_eq k c) _

-- ---- one more write
pub write_planned : (overlay a b : OverlayMap) (s : State) (writes : WriteMap) (removals : List Cell) (k : Cell)
    (w : Write)
    → IsDifference (decided_entry (Some w) (map.get overlay k)) (recorded_value a s k) (repaired_value overlay b s k)
    → IsPlan overlay a b s writes removals → IsPlan overlay a b s (map.insert writes k w) removals
write_planned overlay a b s writes removals k w right plan = record { write = written; removal = plan.removal }
  where
    written : (c : Cell) (v : Write) → map.get (map.insert writes k w) c ≡ Some v
        → IsDifference (entry_after v (map.get overlay c)) (recorded_value a s c) (repaired_value overlay b s c)
    written c v is = go (cell_eq k c) refl (sym (get_planned writes k w c) ∙ is)
      where
        go : (t : Bool) → cell_eq k c ≡ t → if t then Some w else map.get writes c ≡ Some v
            → IsDifference (entry_after v (map.get overlay c)) (recorded_value a s c) (repaired_value overlay b s c)
        go true t e =
            subst (λ d. IsDifference (entry_after v (map.get overlay d)) (recorded_value a s d)
            (repaired_value overlay b s d))
            (same_cells k c t)
            (subst (λ x. IsDifference (entry_after x (map.get overlay k)) (recorded_value a s k)
            (repaired_value overlay b s k))
            (some_same w v e) right)
        go false t e = plan.write c v e

pub removal_planned : (overlay a b : OverlayMap) (s : State) (writes : WriteMap) (removals more : List Cell) (k : Cell)
    → more ≡ removals ++ k ∷ []
    → IsDifference (decided_entry None (map.get overlay k)) (recorded_value a s k) (repaired_value overlay b s k)
    → IsPlan overlay a b s writes removals → IsPlan overlay a b s writes more
removal_planned overlay a b s writes removals more k pushed right plan =
    record { write = plan.write; removal = removed }
  where
    removed : (c : Cell) → list_any (cell_eq c) more ≡ true → recorded_value a s c ≡ repaired_value overlay b s c
    removed c is =
        go (cell_eq k c) refl (sym (ap (list_any (cell_eq c)) pushed ∙ any_pushed removals k c) ∙ is)
      where
        go : (t : Bool) → cell_eq k c ≡ t → (t || list_any (cell_eq c) removals) ≡ true
            → recorded_value a s c ≡ repaired_value overlay b s c
        go true t e = subst (λ d. recorded_value a s d ≡ repaired_value overlay b s d) (same_cells k c t) right
        go false t e = plan.removal c e

pub write_covers : (writes : WriteMap) (removals : List Cell) (k : Cell) (w : Write) (c : Cell)
    → is_planned (map.insert writes k w) removals c ≡ (cell_eq k c || is_planned writes removals c)
write_covers writes removals k w c =
    ap (λ o. is_some o || list_any (cell_eq c) removals) (get_planned writes k w c) ∙ go (cell_eq k c)
  where
    go : (t : Bool) → (is_some (if t then Some w else map.get writes c) || list_any (cell_eq c) removals)
        ≡ (t || is_planned writes removals c)
    go true = refl
    go false = refl

pub removal_covers : (writes : WriteMap) (removals more : List Cell) (k c : Cell) → more ≡ removals ++ k ∷ []
    → is_planned writes more c ≡ (cell_eq k c || is_planned writes removals c)
removal_covers writes removals more k c pushed =
    ap (λ b. map.contains_key writes c || b) (ap (list_any (cell_eq c)) pushed ∙ any_pushed removals k c)
    ∙ or_swap (map.contains_key writes c) (cell_eq k c) _

-- ---- no cell yet
pub none_planned : (overlay a b : OverlayMap) (s : State) (writes : WriteMap) (removals : List Cell)
    → writes ≡ map.empty → removals ≡ [] → IsPlan overlay a b s writes removals
none_planned overlay a b s writes removals no_writes no_removals = record {
  write = λ c w e. absurd
      (false≢true (ap is_some (sym (map.get-empty _ c) ∙ ap (λ m. map.get m c) (sym no_writes) ∙ e)));
  removal = λ c e. absurd (false≢true (ap (list_any (cell_eq c)) (sym no_removals) ∙ e));
}

pub ruleset planning = (write_planned, removal_planned, write_covers, removal_covers)
