use Rattle.std.proofs.Common.{◌≡◌, ℕ, Bool, Some, None, ap, sym, subst, ◌∙◌}
use Rattle.std.specs.BTreeMap.{get}
use Rattle.std.specs.Cmp.{nat_cmp_total}
use Rattle.std.specs.FinMap as map_of
use Rattle.std.specs.Option.{is_some}
use Rattle.std.specs.Ordering.{nat_cmp}
use Rattle.retro_tree.proofs.MapLemmas.{get_made}
use Rattle.retro_keep.specs.Edit.{IsNextFrom}
use Rattle.retro_keep.proofs.EditMaps.{key_found, next_number}
use Rattle.retro_keep.proofs.edits.Edits.next_from.Goals as goal

pub returns-in-Some : goal.returns-in-Some
returns-in-Some c =
    let m = c.self.inside.edits in
    let ranged = c.range.ensures.in_range tt in
    let same : (n : ℕ) → is_some (get nat_cmp m n) ≡ map_of.contains_key c.args.self.now n = λ n.
    ap is_some
    (sym (get_made nat_cmp_total m.entries n) ∙ ap (λ f. map_of.get f n) c.self.view_is) in
    subst (λ (p : ℕ → Bool). IsNextFrom p c.args.from (Some c.in-Some.number.now)) (λ i n. same n i)
    (subst (λ o. IsNextFrom (λ n. is_some (get nat_cmp m n)) c.args.from (key_found o)) c.in-Some.is
    (next_number m c.args.from c.range.result c.next.result c.next.new.self ranged.1
    ranged.2 ranged.5 c.next.ensures.steps))

pub returns-in-None : goal.returns-in-None
returns-in-None c =
    let m = c.self.inside.edits in
    let ranged = c.range.ensures.in_range tt in
    let same : (n : ℕ) → is_some (get nat_cmp m n) ≡ map_of.contains_key c.args.self.now n = λ n.
    ap is_some
    (sym (get_made nat_cmp_total m.entries n) ∙ ap (λ f. map_of.get f n) c.self.view_is) in
    subst (λ (p : ℕ → Bool). IsNextFrom p c.args.from None) (λ i n. same n i)
    (subst (λ o. IsNextFrom (λ n. is_some (get nat_cmp m n)) c.args.from (key_found o)) c.in-None.is
    (next_number m c.args.from c.range.result c.next.result c.next.new.self ranged.1
    ranged.2 ranged.5 c.next.ensures.steps))
