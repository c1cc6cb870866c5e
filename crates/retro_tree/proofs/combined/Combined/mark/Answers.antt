use Rattle.std.proofs.Common.{◌≡◌, ◌∷◌, ◌≤◌, length, sym, ap, subst, ◌∙◌, arith, Some}
use Rattle.std.specs.FinMap as finmap
use Rattle.retro_tree.specs.CellOrder.{cell_cmp, cell_total}
use Rattle.retro_tree.specs.inner.Marks.{overlay_from, mark_entries, mark_of, put_mark}
use Rattle.retro_tree.specs.declared.cell.Cell.TheVariants as cells
use Rattle.retro_tree.proofs.Skips.{IsRest, after_is_rest, next_rest, sought_rest, after_next, after_is_shorter}
use Rattle.retro_tree.proofs.Skips.{after_is_later, marks_skip, child_marked, none_marked, none_unless_some}
use Rattle.retro_tree.proofs.combined.Combined.mark.Goals as goal

pub loop-cell-init : goal.loop-cell-init
loop-cell-init g c =
    let overlay = c.args.self.now.overlay.now in
    let all = finmap.entries overlay in
    let from = c.from-rest.ensures ∙ ap (λ p. overlay_from (cells.At p) overlay) c.in_ok-copy.ensures in
    record {
      rest = subst (IsRest all) (sym from)
          (after_is_rest cell_cmp cell_total (cells.At c.args.path.now) all (finmap.entries_sorted overlay));
      marks = ap (λ es. mark_entries c.args.path.now es c.args.tree) from;
    }

pub loop-cell-preserved-in_ok-put : goal.loop-cell-preserved-in_ok-put
loop-cell-preserved-in_ok-put g c =
    let p = c.args.path.now in
    let q = c.in-At.at in
    let entry = c.in-Some.entry.now in
    let rest = c.next.new.self in
    let next : c.loop-cell.rest ≡ (cells.At q, entry) ∷ rest = c.in-Some.ensures.steps ∙ ap (λ k. (k, entry) ∷ rest) c.in-At.is in
    let all = finmap.entries c.args.self.now.overlay.now in
    record {
      rest = next_rest all _ rest (subst (IsRest all) next c.loop-cell.invariant.rest);
      marks = ap (mark_entries p rest) (c.in_ok-put.ensures.ok
          ∙ ap (λ k. put_mark k (Some c.in-Some-mark.mark) c.loop-cell.tree) c.in_ok-copy-2.ensures
          ∙ ap (λ m. put_mark q m c.loop-cell.tree) (sym (sym c.mark.ensures ∙ c.in-Some-mark.is)))
          ∙ sym (child_marked p q entry rest c.loop-cell.tree (sym c.starts_with.ensures ∙ c.if-not-starts_with.false)
          (sym c.is_child_of.ensures ∙ c.if-is_child_of.true))
          ∙ ap (λ es. mark_entries p es c.loop-cell.tree) (sym next)
          ∙ c.loop-cell.invariant.marks;
    }

pub loop-cell-preserved-in_default-mark : goal.loop-cell-preserved-in_default-mark
loop-cell-preserved-in_default-mark g c =
    let p = c.args.path.now in
    let q = c.in-At.at in
    let entry = c.in-Some.entry.now in
    let rest = c.next.new.self in
    let next : c.loop-cell.rest ≡ (cells.At q, entry) ∷ rest = c.in-Some.ensures.steps ∙ ap (λ k. (k, entry) ∷ rest) c.in-At.is in
    let all = finmap.entries c.args.self.now.overlay.now in
    record {
      rest = next_rest all _ rest (subst (IsRest all) next c.loop-cell.invariant.rest);
      marks = ap (λ m. mark_entries p rest (put_mark q m c.loop-cell.tree))
          (sym (sym c.mark.ensures ∙ none_unless_some _ c.in_default-mark.not-Some))
          ∙ sym (child_marked p q entry rest c.loop-cell.tree (sym c.starts_with.ensures ∙ c.if-not-starts_with.false)
          (sym c.is_child_of.ensures ∙ c.if-is_child_of.true))
          ∙ ap (λ es. mark_entries p es c.loop-cell.tree) (sym next)
          ∙ c.loop-cell.invariant.marks;
    }

pub loop-cell-smaller-in-Some-2 : goal.loop-cell-smaller-in-Some-2
loop-cell-smaller-in-Some-2 g c =
    let p = c.args.path.now in
    let q = c.in-At.at in
    let b = c.in-Some-2.after in
    let entry = c.in-Some.entry.now in
    let rest = c.next.new.self in
    let next : c.loop-cell.rest ≡ (cells.At q, entry) ∷ rest = c.in-Some.ensures.steps ∙ ap (λ k. (k, entry) ∷ rest) c.in-At.is in
    let overlay = c.args.self.now.overlay.now in
    let all = finmap.entries overlay in
    let sought = sought_rest cell_cmp cell_total all (cells.At b) (cells.At q, entry) rest (finmap.entries_sorted overlay)
    (subst (IsRest all) next c.loop-cell.invariant.rest)
    (after_is_later p q b (sym c.in_ok-after.ensures ∙ c.in-Some-2.is)) in
    let shorter : length c.from-rest-in-Some-2.result ≤ length rest =
    rw (c.from-rest-in-Some-2.ensures ∙ sought.0) (after_is_shorter cell_cmp cell_total (cells.At b) rest) in
    rw next (omega arith)

pub loop-cell-preserved-in-Some-2 : goal.loop-cell-preserved-in-Some-2
loop-cell-preserved-in-Some-2 g c =
    let p = c.args.path.now in
    let q = c.in-At.at in
    let b = c.in-Some-2.after in
    let entry = c.in-Some.entry.now in
    let rest = c.next.new.self in
    let next : c.loop-cell.rest ≡ (cells.At q, entry) ∷ rest = c.in-Some.ensures.steps ∙ ap (λ k. (k, entry) ∷ rest) c.in-At.is in
    let overlay = c.args.self.now.overlay.now in
    let all = finmap.entries overlay in
    let sorted = finmap.entries_sorted overlay in
    let after = sym c.in_ok-after.ensures ∙ c.in-Some-2.is in
    let end = subst (IsRest all) next c.loop-cell.invariant.rest in
    let sought = sought_rest cell_cmp cell_total all (cells.At b) (cells.At q, entry) rest sorted end
    (after_is_later p q b after) in
    let behind = after_next cell_cmp cell_total all (cells.At q, entry) rest sorted end in
    record {
      rest = subst (IsRest all) (sym c.from-rest-in-Some-2.ensures) sought.1;
      marks = ap (λ es. mark_entries p es c.loop-cell.tree) (c.from-rest-in-Some-2.ensures ∙ sought.0)
          ∙ sym (marks_skip p q b rest c.loop-cell.tree after behind.0 behind.1)
          ∙ sym (none_marked p q entry rest c.loop-cell.tree (sym c.starts_with.ensures ∙ c.if-not-starts_with.false)
          (sym c.is_child_of.ensures ∙ c.if-is_child_of.false))
          ∙ ap (λ es. mark_entries p es c.loop-cell.tree) (sym next)
          ∙ c.loop-cell.invariant.marks;
    }

pub loop-cell-preserved : goal.loop-cell-preserved
loop-cell-preserved g c =
    let p = c.args.path.now in
    let q = c.in-At.at in
    let entry = c.in-Some.entry.now in
    let rest = c.next.new.self in
    let next : c.loop-cell.rest ≡ (cells.At q, entry) ∷ rest = c.in-Some.ensures.steps ∙ ap (λ k. (k, entry) ∷ rest) c.in-At.is in
    let all = finmap.entries c.args.self.now.overlay.now in
    record {
      rest = next_rest all _ rest (subst (IsRest all) next c.loop-cell.invariant.rest);
      marks = sym (none_marked p q entry rest c.loop-cell.tree (sym c.starts_with.ensures ∙ c.if-not-starts_with.false)
          (sym c.is_child_of.ensures ∙ c.if-is_child_of.false))
          ∙ ap (λ es. mark_entries p es c.loop-cell.tree) (sym next)
          ∙ c.loop-cell.invariant.marks;
    }
