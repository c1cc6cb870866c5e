-- What a folder holds once the rows of a plan are carried out: the repaired nodes at the plan's
-- paths.
use Rattle.std.proofs.Common.{◌≡◌, ◌∙◌, ℕ, Bool, true, false, ◌&&◌, ◌||◌, List, [], ◌∷◌, map, Option, Some}
use Rattle.std.proofs.Common.{None, ap, refl, subst, sym}
use Rattle.std.specs.Prelude.{if◌then◌else◌, is_some}
use Rattle.std.specs.List.{AllByRecursion, filter, list_all}
use Rattle.std.proofs.lemmas.Bool.{false≢true}
use Rattle.retro_path.specs.Order.{path_eq, text_eq}
use Rattle.retro_path.specs.Path.{PathValue}
use Rattle.retro_tree.specs.Tree.{Tree, node_in}
use Rattle.retro_tree.specs.declared.node.Node.{Node}
use Rattle.retro_tree.specs.declared.node.Node.TheVariants as nodes
use Rattle.casebook_folder.specs.Changes.{is_found, is_other_kind, kept_or, state_by, state_of, with_attributes}
use Rattle.casebook_folder.specs.Found.{is_missing}
use Rattle.casebook_folder.specs.Moments.{IsRestored, node_after}
use Rattle.casebook_folder.specs.Plans.{AreSeenRows, Fit, IsPlanned, IsSeenRow, can_be_restored, change_at, fits_change}
use Rattle.casebook_folder.specs.Plans.{is_ready_row, is_settled, ready_rows, row_fits, row_of}
use Rattle.casebook_folder.specs.Rows.{row_at}
use Rattle.casebook_folder.specs.States.{is_done, is_ready}
use Rattle.casebook_folder.specs.Steps.{Contents}
use Rattle.casebook_folder.specs.declared.attributes.Attributes.{Attributes}
use Rattle.casebook_folder.specs.declared.change.Change.{Change}
use Rattle.casebook_folder.specs.declared.found.Found.{Found}
use Rattle.casebook_folder.specs.declared.found.Found.TheVariants as founds
use Rattle.casebook_folder.specs.declared.given.GivenAttributes.{GivenAttributes}
use Rattle.casebook_folder.specs.declared.obstacle.Obstacle.TheVariants.{OtherChild}
use Rattle.casebook_folder.specs.declared.planned_row.PlannedRow.{PlannedRow}
use Rattle.casebook_folder.specs.declared.row.Row.{Row}
use Rattle.casebook_folder.specs.declared.state.State.TheVariants as states
use Rattle.casebook_folder.proofs.Planned.{fitting}
use Rattle.casebook_folder.proofs.Small.{path_refl, first_and, last_and, none_some, same_path, some_same}
use Rattle.casebook_restore.specs.Carrying.{AreRowsOf, IsRepaired, IsRepairedAt, has_row, own, kept}

-- ---- nodes

text_refl : (x : List ℕ) → text_eq x x ≡ true
text_refl x = first_and (text_eq x x) true (path_refl (x ∷ []))

-- what a change wants is found
new_found : (n : Node) (a : Attributes) → is_found n (with_attributes n a) ≡ true
new_found nodes.Missing a = refl
new_found nodes.Dir a = refl
new_found (nodes.File x) a = text_refl x

-- where a folder is done with a change it holds the new node
done_state : (c : Change) (x : Found) (other : Bool) → is_done (state_by c x other) ≡ true → is_found c.new x ≡ true
done_state c x other e = by_tests (is_found c.new x) (is_found c.old x) (is_other_kind c.old c.new && is_missing x) other e
  where
    by_tests : (new old other_kind child : Bool)
        → is_done (if new then states.Done
        else if old then (if child then states.Blocked OtherChild else states.Ready)
        else if other_kind then states.Ready else states.Differs) ≡ true
        → new ≡ true
    by_tests true old other_kind child k = refl
    by_tests false true other_kind true k = absurd (false≢true k)
    by_tests false true other_kind false k = absurd (false≢true k)
    by_tests false false true child k = absurd (false≢true k)
    by_tests false false false child k = absurd (false≢true k)

done_by : (c : Change) (x : Found) (other : Bool) → is_done (state_of c x other) ≡ true → is_found c.new x ≡ true
done_by c founds.Missing other e = done_state c founds.Missing other e
done_by c (founds.Dir a) other e = done_state c (founds.Dir a) other e
done_by c (founds.File y a) other e = done_state c (founds.File y a) other e
done_by c (founds.Blocked o) other e = absurd (false≢true e)

last_of_or : (x y : Bool) → (x || y) ≡ true → x ≡ false → y ≡ true
last_of_or true y e h = absurd (false≢true (sym h))
last_of_or false y e h = e

-- ---- rows of one plan

module _ (a b : Tree) (g : GivenAttributes) (f : Contents) where
  -- the node that a change of a path has is the repaired one
  new_at : (r : PlannedRow) (q : PathValue) → IsPlanned a b g r → path_eq r.change.path q ≡ true
      → r.change.new ≡ node_in q b
  new_at r q planned here =
      ap (λ (c : Change). c.new) planned.change ∙ ap (λ p. node_in p b) (same_path r.change.path q here)

  ready_found : (r : PlannedRow) (q : PathValue) → IsPlanned a b g r → path_eq r.change.path q ≡ true
      → is_found (node_in q b) r.after ≡ true
  ready_found r q planned here =
      ap (λ n. is_found n r.after) (sym (new_at r q planned here))
      ∙ ap (is_found r.change.new) planned.after
      ∙ new_found r.change.new (kept_or r.change.given r.change.new r.before)

  done_found : (r : PlannedRow) (q : PathValue) → IsPlanned a b g r → IsSeenRow f r
      → path_eq r.change.path q ≡ true → is_done r.state ≡ true → is_found (node_in q b) (f q) ≡ true
  done_found r q planned seen here done =
      ap (λ n. is_found n (f q)) (sym (new_at r q planned here))
      ∙ ap (is_found r.change.new) (ap f (sym (same_path r.change.path q here)) ∙ sym seen.before)
      ∙ done_by r.change r.before seen.has_other_child (sym (ap is_done seen.state) ∙ done)

  -- ---- rows of the plan itself

  own_carried : (plan : List PlannedRow) → AllByRecursion (IsPlanned a b g) plan → AreSeenRows f plan
      → list_all can_be_restored plan ≡ true → (q : PathValue)
      → IsRepairedAt (has_row q plan) b q (f q) (node_after (row_at q (ready_rows plan)) (f q))
  own_carried [] planned seen able q = refl
  own_carried (r ∷ rs) planned seen able q =
      by_tests (is_ready r.state) (path_eq r.change.path q) refl refl
      (own_carried rs planned.1 seen.1 (last_and (can_be_restored r) (list_all can_be_restored rs) able) q)
    where
      after_rest : Found
      after_rest = node_after (row_at q (ready_rows rs)) (f q)

      by_rest : (more : Bool) → IsRepairedAt more b q (f q) after_rest → is_found (node_in q b) (f q) ≡ true
          → is_found (node_in q b) after_rest ≡ true
      by_rest true rest found = rest
      by_rest false rest found = ap (is_found (node_in q b)) rest ∙ found

      by_tests : (ready here : Bool) → is_ready r.state ≡ ready → path_eq r.change.path q ≡ here
          → IsRepairedAt (has_row q rs) b q (f q) after_rest
          → IsRepairedAt (here || has_row q rs) b q (f q)
          (node_after
          (row_at q (map row_of (if ready then r ∷ filter is_ready_row rs else filter is_ready_row rs))) (f q))
      by_tests true true e h rest =
          subst (λ x. is_found (node_in q b)
          (node_after (if x then Some (row_of r) else row_at q (ready_rows rs)) (f q)) ≡ true) (sym h)
          (ready_found r q planned.0 h)
      by_tests true false e h rest =
          subst (λ x. IsRepairedAt (has_row q rs) b q (f q)
          (node_after (if x then Some (row_of r) else row_at q (ready_rows rs)) (f q))) (sym h) rest
      by_tests false true e h rest =
          by_rest (has_row q rs) rest
          (done_found r q planned.0 seen.0 h
          (last_of_or (is_ready r.state) (is_done r.state)
          (first_and (can_be_restored r) (list_all can_be_restored rs) able) e))
      by_tests false false e h rest = rest

  -- ---- kept rows

  row_fits_at : (plan : List PlannedRow) (rows : List Row) (q : PathValue) (row : Row)
      → list_all (row_fits plan) rows ≡ true → row_at q rows ≡ Some row
      → fits_change (change_at q plan) row ≡ true
  row_fits_at plan [] q row fits is = absurd (none_some row is)
  row_fits_at plan (r ∷ rs) q row fits is =
      by_path (path_eq r.path q) refl
      (row_fits_at plan rs q row (last_and (row_fits plan r) (list_all (row_fits plan) rs) fits)) is
    where
      by_path : (here : Bool) → path_eq r.path q ≡ here
          → (row_at q rs ≡ Some row → fits_change (change_at q plan) row ≡ true)
          → (if here then Some r else row_at q rs) ≡ Some row → fits_change (change_at q plan) row ≡ true
      by_path true h rest e =
          ap (fits_change (change_at q plan)) (sym (some_same r row e))
          ∙ ap (λ p. fits_change (change_at p plan) r) (sym (same_path r.path q h))
          ∙ first_and (row_fits plan r) (list_all (row_fits plan) rs) fits
      by_path false h rest e = rest e

  -- what a plan's change of a path is
  abbrev IsChangeAt : List PlannedRow → PathValue → Change → Type 0
  IsChangeAt plan q c = (has_row q plan ≡ true) × (c.new ≡ node_in q b)

  change_found : (plan : List PlannedRow) (q : PathValue) (c : Change) → AllByRecursion (IsPlanned a b g) plan
      → change_at q plan ≡ Some c → IsChangeAt plan q c
  change_found [] q c planned is = absurd (none_some c is)
  change_found (r ∷ rs) q c planned is =
      by_path (path_eq r.change.path q) refl (change_found rs q c planned.1) is
    where
      by_path : (here : Bool) → path_eq r.change.path q ≡ here
          → (change_at q rs ≡ Some c → IsChangeAt rs q c)
          → (if here then Some r.change else change_at q rs) ≡ Some c
          → ((path_eq r.change.path q || has_row q rs) ≡ true) × (c.new ≡ node_in q b)
      by_path true h rest e = (
        ap (λ x. x || has_row q rs) h,
        ap (λ (x : Change). x.new) (sym (some_same r.change c e)) ∙ new_at r q planned.0 h,
      )
      by_path false h rest e = (ap (λ x. x || has_row q rs) h ∙ (rest e).0, (rest e).1)

  settled_found : (plan : List PlannedRow) (rows : List Row) (q : PathValue)
      → AllByRecursion (IsPlanned a b g) plan → AreSeenRows f plan → list_all (is_settled rows) plan ≡ true
      → row_at q rows ≡ None → has_row q plan ≡ true → is_found (node_in q b) (f q) ≡ true
  settled_found [] rows q planned seen settled none has = absurd (false≢true has)
  settled_found (r ∷ rs) rows q planned seen settled none has =
      by_path (path_eq r.change.path q) refl
      (settled_found rs rows q planned.1 seen.1 (last_and (is_settled rows r) (list_all (is_settled rows) rs) settled) none)
      has
    where
      no_row : path_eq r.change.path q ≡ true → is_some (row_at r.change.path rows) ≡ false
      no_row h = ap (λ p. is_some (row_at p rows)) (same_path r.change.path q h) ∙ ap is_some none

      first_of_or : (x y : Bool) → (x || y) ≡ true → y ≡ false → x ≡ true
      first_of_or true y e h = refl
      first_of_or false y e h = absurd (false≢true (sym h ∙ e))

      by_path : (here : Bool) → path_eq r.change.path q ≡ here
          → (has_row q rs ≡ true → is_found (node_in q b) (f q) ≡ true)
          → (here || has_row q rs) ≡ true → is_found (node_in q b) (f q) ≡ true
      by_path true h rest e =
          done_found r q planned.0 seen.0 h
          (first_of_or (is_done r.state) (is_some (row_at r.change.path rows))
          (first_and (is_settled rows r) (list_all (is_settled rows) rs) settled) (no_row h))
      by_path false h rest e = rest e

  kept_carried : (plan : List PlannedRow) (rows : List Row) → AllByRecursion (IsPlanned a b g) plan
      → AreSeenRows f plan → Fit plan rows → (q : PathValue)
      → IsRepairedAt (has_row q plan) b q (f q) (node_after (row_at q rows) (f q))
  kept_carried plan rows planned seen fit q = by_row (row_at q rows) refl
    where
      by_change : (row : Row) (c : Option Change) → change_at q plan ≡ c → fits_change c row ≡ true
          → IsRepairedAt (has_row q plan) b q (f q) row.after
      by_change row None e fits = absurd (false≢true fits)
      by_change row (Some c) e fits =
          let is = change_found plan q c planned e in
          subst (λ x. IsRepairedAt x b q (f q) row.after) (sym is.0)
          (ap (λ n. is_found n row.after) (sym is.1)
          ∙ ap (is_found c.new) (fitting c row fits).1
          ∙ new_found c.new (kept_or c.given c.new row.before))

      by_has : (has : Bool) → has_row q plan ≡ has → row_at q rows ≡ None → IsRepairedAt has b q (f q) (f q)
      by_has true h none = settled_found plan rows q planned seen fit.others none h
      by_has false h none = refl

      by_row : (row : Option Row) → row_at q rows ≡ row
          → IsRepairedAt (has_row q plan) b q (f q) (node_after row (f q))
      by_row None e = by_has (has_row q plan) refl e
      by_row (Some row) e = by_change row (change_at q plan) refl (row_fits_at plan rows q row fit.each e)

  -- ---- both

  carried : (plan : List PlannedRow) (rows : List Row) → AllByRecursion (IsPlanned a b g) plan
      → AreSeenRows f plan → AreRowsOf plan rows → (q : PathValue)
      → IsRepairedAt (has_row q plan) b q (f q) (node_after (row_at q rows) (f q))
  carried plan rows planned seen (own able is) q =
      subst (λ rs. IsRepairedAt (has_row q plan) b q (f q) (node_after (row_at q rs) (f q))) (sym is)
      (own_carried plan planned seen able q)
  carried plan rows planned seen (kept fit) q = kept_carried plan rows planned seen fit q

  pub are_repaired : (plan : List PlannedRow) (rows : List Row) (now : Contents)
      → AllByRecursion (IsPlanned a b g) plan → AreSeenRows f plan → AreRowsOf plan rows → IsRestored rows f now
      → IsRepaired b plan f now
  are_repaired plan rows now planned seen are restored q =
      subst (IsRepairedAt (has_row q plan) b q (f q)) (sym (restored q)) (carried plan rows planned seen are q)
