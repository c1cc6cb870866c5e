use Rattle.std.proofs.Common.{◌≡◌, ◌∷◌, ◌++◌, map, sym, ap, subst, ◌∙◌, arith, length, ◌≤◌}
use Rattle.std.specs.List.{filter_map}
use Rattle.std.specs.FinMap as finmap
use Rattle.retro_tree.specs.Order.{path_cmp, path_total}
use Rattle.retro_tree.specs.Path.{child_name}
use Rattle.retro_tree.proofs.Together.{together, names_together}
use Rattle.retro_tree.proofs.Skips.{IsRest, after_is_rest, next_rest, sought_rest, after_next, after_is_shorter}
use Rattle.retro_tree.proofs.Skips.{after_is_later, names_skip, names_here, names_past, no_child, none_unless_some}
use Rattle.retro_tree.proofs.entry_map.EntryMap.names.Goals as goal

pub loop-other-init : goal.loop-other-init
loop-other-init c =
    let p = c.args.path.now in
    let all = finmap.entries c.args.self.now in
    record {
      rest = subst (IsRest all) (sym c.from-rest.ensures)
          (after_is_rest path_cmp path_total p all (finmap.entries_sorted c.args.self.now));
      names = (λ i. c.new-names.ensures.items i
          ++ filter_map (child_name p) (together p (map (λ e. e.0) (c.from-rest.ensures i))))
          ∙ names_together p c.args.self.now;
    }

pub loop-other-preserved-in-Continue-branch-3 : goal.loop-other-preserved-in-Continue-branch-3
loop-other-preserved-in-Continue-branch-3 c =
    let p = c.args.path.now in
    let q = c.in-Some.other.now in
    let rest = c.next.new.self in
    let next : c.loop-other.rest ≡ (q, c.in-Some.field-0-1.now) ∷ rest = c.in-Some.ensures.steps in
    let all = finmap.entries c.args.self.now in
    record {
      rest = next_rest all _ rest (subst (IsRest all) next c.loop-other.invariant.rest);
      names = ap (λ ns. ns ++ filter_map (child_name p) (together p (map (λ e. e.0) rest))) c.in_ok-push.ensures.items
          ∙ sym (names_here p q c.in-Some-2.name c.loop-other.names.items (map (λ e. e.0) rest)
          (sym c.starts_with.ensures ∙ c.if-not-starts_with.false) (sym c.in_ok-name.ensures ∙ c.in-Some-2.is))
          ∙ ap (λ es. c.loop-other.names.items ++ filter_map (child_name p) (together p (map (λ e. e.0) es))) (sym next)
          ∙ c.loop-other.invariant.names;
    }

pub loop-other-smaller-in-Some-3 : goal.loop-other-smaller-in-Some-3
loop-other-smaller-in-Some-3 c =
    let p = c.args.path.now in
    let q = c.in-Some.other.now in
    let b = c.in-Some-3.after in
    let rest = c.next.new.self in
    let next : c.loop-other.rest ≡ (q, c.in-Some.field-0-1.now) ∷ rest = c.in-Some.ensures.steps in
    let all = finmap.entries c.args.self.now in
    let sought = sought_rest path_cmp path_total all b (q, c.in-Some.field-0-1.now) rest
    (finmap.entries_sorted c.args.self.now) (subst (IsRest all) next c.loop-other.invariant.rest)
    (after_is_later p q b (sym c.in_ok-after.ensures ∙ c.in-Some-3.is)) in
    let shorter : length c.from-rest-in-Some-3.result ≤ length rest =
    rw (c.from-rest-in-Some-3.ensures ∙ sought.0) (after_is_shorter path_cmp path_total b rest) in
    rw next (omega arith)

pub loop-other-preserved-in-Some-3 : goal.loop-other-preserved-in-Some-3
loop-other-preserved-in-Some-3 c =
    let p = c.args.path.now in
    let q = c.in-Some.other.now in
    let b = c.in-Some-3.after in
    let rest = c.next.new.self in
    let next : c.loop-other.rest ≡ (q, c.in-Some.field-0-1.now) ∷ rest = c.in-Some.ensures.steps in
    let all = finmap.entries c.args.self.now in
    let sorted = finmap.entries_sorted c.args.self.now in
    let after = sym c.in_ok-after.ensures ∙ c.in-Some-3.is in
    let end = subst (IsRest all) next c.loop-other.invariant.rest in
    let sought = sought_rest path_cmp path_total all b (q, c.in-Some.field-0-1.now) rest sorted end
    (after_is_later p q b after) in
    let behind = after_next path_cmp path_total all (q, c.in-Some.field-0-1.now) rest sorted end in
    record {
      rest = subst (IsRest all) (sym c.from-rest-in-Some-3.ensures) sought.1;
      names =
          ap (λ es. c.loop-other.names.items ++ filter_map (child_name p) (together p (map (λ e. e.0) es)))
          (c.from-rest-in-Some-3.ensures ∙ sought.0)
          ∙ ap (λ ns. c.loop-other.names.items ++ ns) (sym (names_skip p q b rest after behind.0 behind.1))
          ∙ ap (λ ns. c.loop-other.names.items ++ ns) (sym (names_past p q (map (λ e. e.0) rest)
          (sym c.starts_with.ensures ∙ c.if-not-starts_with.false) (no_child p q b after)))
          ∙ ap (λ es. c.loop-other.names.items ++ filter_map (child_name p) (together p (map (λ e. e.0) es))) (sym next)
          ∙ c.loop-other.invariant.names;
    }

pub loop-other-preserved : goal.loop-other-preserved
loop-other-preserved c =
    let p = c.args.path.now in
    let q = c.in-Some.other.now in
    let rest = c.next.new.self in
    let next : c.loop-other.rest ≡ (q, c.in-Some.field-0-1.now) ∷ rest = c.in-Some.ensures.steps in
    let all = finmap.entries c.args.self.now in
    record {
      rest = next_rest all _ rest (subst (IsRest all) next c.loop-other.invariant.rest);
      names =
          ap (λ ns. c.loop-other.names.items ++ ns) (sym (names_past p q (map (λ e. e.0) rest)
          (sym c.starts_with.ensures ∙ c.if-not-starts_with.false)
          (sym c.in_ok-name.ensures ∙ none_unless_some _ c.in_default-2.not-Some)))
          ∙ ap (λ es. c.loop-other.names.items ++ filter_map (child_name p) (together p (map (λ e. e.0) es))) (sym next)
          ∙ c.loop-other.invariant.names;
    }
