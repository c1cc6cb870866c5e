use Rattle.std.proofs.Common.{◌≡◌, ◌∷◌, ◌≤◌, length, ap, sym, subst, ◌∙◌, arith}
use Rattle.std.specs.Option.{option_map}
use Rattle.std.specs.FinMap as map
use Rattle.retro_tree.specs.CellOrder.{cell_cmp, cell_total}
use Rattle.retro_tree.specs.declared.cell.Cell.TheVariants as cells
use Rattle.retro_tree.specs.declared.value.Value.TheVariants as values
use Rattle.retro_tree.specs.declared.overlay_entry.OverlayEntry.TheVariants as entries
use Rattle.retro_tree.proofs.Skips.{IsRest, after_is_rest, next_rest, sought_rest, after_next}
use Rattle.retro_tree.proofs.Skips.{after_is_shorter}
use Rattle.retro_tree.proofs.Skips.{after_is_later, none_unless_some}
use Rattle.retro_history.specs.inner.CellHistory.{AllRise}
use Rattle.retro_history.specs.inner.History.{version_parts, version_ref_parts}
use Rattle.retro_history.specs.inner.Tracks.{version_below}
use Rattle.retro_history.specs.inner.TrackMarks.{mark_tracks, histories_from}
use Rattle.retro_history.proofs.Tracking.{later_rise}
use Rattle.retro_history.proofs.TrackSkips.{child_marked, none_marked, tracks_skip, version_marked}
use Rattle.retro_history.proofs.TrackSkips.{no_version_marked}
use Rattle.retro_history.proofs.cell_histories.CellHistories.marks_below.Goals as goal

pub loop-cell-init : goal.loop-cell-init
loop-cell-init c =
    let all = map.entries c.args.self.now in
    let sorted = map.entries_sorted c.args.self.now in
    let from = c.from-rest.ensures
    ∙ ap (λ q. histories_from (cells.At q) c.args.self.now) c.in_ok-copy.ensures in
    record {
      rest = subst (IsRest all) (sym from)
          (after_is_rest cell_cmp cell_total (cells.At c.args.path.now) all sorted);
      marks = λ i. mark_tracks c.args.path.now c.args.number (from i) (c.new-marks.ensures.value i);
      rise = subst AllRise (sym from) (later_rise (cells.At c.args.path.now) all c.requires);
    }

pub loop-cell-preserved-in_ok-insert : goal.loop-cell-preserved-in_ok-insert
loop-cell-preserved-in_ok-insert c =
    let p = c.args.path.now in
    let n = c.args.number in
    let q = c.in-At.at in
    let history = c.in-Some.history.now in
    let rest = c.next.new.self in
    let next : c.loop-cell.rest ≡ (cells.At q, history) ∷ rest =
    c.in-Some.ensures.steps ∙ ap (λ k. (k, history) ∷ rest) c.in-At.is in
    let marks = c.loop-cell.marks in
    let version = c.in-Some-version_below.version in
    let parts = ap (λ h. option_map version_parts (version_below n h.track)) (sym c.get.ensures)
    ∙ sym c.version_below.ensures ∙ ap (option_map version_ref_parts) c.in-Some-version_below.is in
    record {
      rest = next_rest (map.entries c.args.self.now) _ rest
          (subst (IsRest (map.entries c.args.self.now)) next c.loop-cell.invariant.rest);
      marks = ap (mark_tracks p n rest) (c.in_ok-insert.ensures.ok
          ∙ ap (λ k. map.insert marks k (entries.Value (values.Node c.mark.result)))
          (c.in_ok-copy-2.ensures ∙ c.in-At.is)
          ∙ ap (λ m. map.insert marks (cells.At q) (entries.Value (values.Node m))) c.mark.ensures
          ∙ sym (version_marked (cells.At q) (version_below n history.track) version marks parts))
          ∙ sym (child_marked p n (cells.At q, history) rest marks
          (sym c.starts_with.ensures ∙ c.if-not-starts_with.false)
          (sym c.is_child_of.ensures ∙ c.if-is_child_of.true))
          ∙ ap (λ es. mark_tracks p n es marks) (sym next)
          ∙ c.loop-cell.invariant.marks;
      rise = (subst AllRise next c.loop-cell.invariant.rise).1;
    }

pub loop-cell-preserved-in_default-version_below : goal.loop-cell-preserved-in_default-version_below
loop-cell-preserved-in_default-version_below c =
    let p = c.args.path.now in
    let n = c.args.number in
    let q = c.in-At.at in
    let history = c.in-Some.history.now in
    let rest = c.next.new.self in
    let next : c.loop-cell.rest ≡ (cells.At q, history) ∷ rest =
    c.in-Some.ensures.steps ∙ ap (λ k. (k, history) ∷ rest) c.in-At.is in
    let marks = c.loop-cell.marks in
    let parts = ap (λ h. option_map version_parts (version_below n h.track)) (sym c.get.ensures)
    ∙ sym c.version_below.ensures
    ∙ ap (option_map version_ref_parts) (none_unless_some _ c.in_default-version_below.not-Some) in
    record {
      rest = next_rest (map.entries c.args.self.now) _ rest
          (subst (IsRest (map.entries c.args.self.now)) next c.loop-cell.invariant.rest);
      marks = ap (mark_tracks p n rest)
          (sym (no_version_marked (cells.At q) (version_below n history.track) marks parts))
          ∙ sym (child_marked p n (cells.At q, history) rest marks
          (sym c.starts_with.ensures ∙ c.if-not-starts_with.false)
          (sym c.is_child_of.ensures ∙ c.if-is_child_of.true))
          ∙ ap (λ es. mark_tracks p n es marks) (sym next)
          ∙ c.loop-cell.invariant.marks;
      rise = (subst AllRise next c.loop-cell.invariant.rise).1;
    }

pub loop-cell-smaller-in-Some-2 : goal.loop-cell-smaller-in-Some-2
loop-cell-smaller-in-Some-2 c =
    let p = c.args.path.now in
    let q = c.in-At.at in
    let b = c.in-Some-2.after in
    let history = c.in-Some.history.now in
    let rest = c.next.new.self in
    let next : c.loop-cell.rest ≡ (cells.At q, history) ∷ rest =
    c.in-Some.ensures.steps ∙ ap (λ k. (k, history) ∷ rest) c.in-At.is in
    let all = map.entries c.args.self.now in
    let sought = sought_rest cell_cmp cell_total all (cells.At b) (cells.At q, history) rest
    (map.entries_sorted c.args.self.now) (subst (IsRest all) next c.loop-cell.invariant.rest)
    (after_is_later p q b (sym c.in_ok-after.ensures ∙ c.in-Some-2.is)) in
    let shorter : length c.from-rest-in-Some-2.result ≤ length rest =
    rw (c.from-rest-in-Some-2.ensures ∙ sought.0)
    (after_is_shorter cell_cmp cell_total (cells.At b) rest) in
    rw next (omega arith)

pub loop-cell-preserved-in-Some-2 : goal.loop-cell-preserved-in-Some-2
loop-cell-preserved-in-Some-2 c =
    let p = c.args.path.now in
    let n = c.args.number in
    let q = c.in-At.at in
    let b = c.in-Some-2.after in
    let history = c.in-Some.history.now in
    let rest = c.next.new.self in
    let next : c.loop-cell.rest ≡ (cells.At q, history) ∷ rest =
    c.in-Some.ensures.steps ∙ ap (λ k. (k, history) ∷ rest) c.in-At.is in
    let marks = c.loop-cell.marks in
    let all = map.entries c.args.self.now in
    let sorted = map.entries_sorted c.args.self.now in
    let after = sym c.in_ok-after.ensures ∙ c.in-Some-2.is in
    let end = subst (IsRest all) next c.loop-cell.invariant.rest in
    let sought = sought_rest cell_cmp cell_total all (cells.At b) (cells.At q, history) rest sorted
    end (after_is_later p q b after) in
    let behind = after_next cell_cmp cell_total all (cells.At q, history) rest sorted end in
    record {
      rest = subst (IsRest all) (sym c.from-rest-in-Some-2.ensures) sought.1;
      marks = ap (λ es. mark_tracks p n es marks) (c.from-rest-in-Some-2.ensures ∙ sought.0)
          ∙ sym (tracks_skip p q b n rest marks after behind.0 behind.1)
          ∙ sym (none_marked p n (cells.At q, history) rest marks
          (sym c.starts_with.ensures ∙ c.if-not-starts_with.false)
          (sym c.is_child_of.ensures ∙ c.if-is_child_of.false))
          ∙ ap (λ es. mark_tracks p n es marks) (sym next)
          ∙ c.loop-cell.invariant.marks;
      rise = subst AllRise (sym c.from-rest-in-Some-2.ensures)
          (later_rise (cells.At b) all c.requires);
    }

pub loop-cell-preserved : goal.loop-cell-preserved
loop-cell-preserved c =
    let p = c.args.path.now in
    let n = c.args.number in
    let q = c.in-At.at in
    let history = c.in-Some.history.now in
    let rest = c.next.new.self in
    let next : c.loop-cell.rest ≡ (cells.At q, history) ∷ rest =
    c.in-Some.ensures.steps ∙ ap (λ k. (k, history) ∷ rest) c.in-At.is in
    let marks = c.loop-cell.marks in
    record {
      rest = next_rest (map.entries c.args.self.now) _ rest
          (subst (IsRest (map.entries c.args.self.now)) next c.loop-cell.invariant.rest);
      marks = sym (none_marked p n (cells.At q, history) rest marks
          (sym c.starts_with.ensures ∙ c.if-not-starts_with.false)
          (sym c.is_child_of.ensures ∙ c.if-is_child_of.false))
          ∙ ap (λ es. mark_tracks p n es marks) (sym next)
          ∙ c.loop-cell.invariant.marks;
      rise = (subst AllRise next c.loop-cell.invariant.rise).1;
    }
