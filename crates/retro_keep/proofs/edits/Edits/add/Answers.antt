use Rattle.std.proofs.Common.{ap, sym, ◌∙◌}
use Rattle.std.specs.FinMap as map_of
use Rattle.std.specs.FinMap.{nat_cmp-IsAntisymmetric}
use Rattle.std.specs.Cmp.{nat_cmp_total}
use Rattle.std.specs.Option.{is_some}
use Rattle.retro_tree.proofs.MapLemmas.{get_made, made_insert}
use Rattle.retro_keep.proofs.EditMaps.{edit_added, edit_kept}
use Rattle.retro_keep.proofs.edits.Edits.add.Goals as goal

pub returns-then-contains_key : goal.returns-then-contains_key
returns-then-contains_key c =
    let old = c.args.self.now in
    let k = c.number-number.result in
    edit_kept old c.args.edit.now
    (ap (map_of.contains_key old) (sym c.number-number.ensures)
    ∙ ap is_some (ap (λ m. map_of.get m k) (sym c.self.view_is)
    ∙ get_made nat_cmp_total c.self.inside.edits.entries k)
    ∙ sym c.contains_key.ensures ∙ c.if-contains_key.true)

pub returns : goal.returns
returns c = λ n.
    let old = c.args.self.now in
    let k = c.number-number.result in
    let es = c.self.inside.edits.entries in
    ap (λ m. map_of.get m n)
    (made_insert nat_cmp_total nat_cmp-IsAntisymmetric es c.insert.new.self.entries k
    c.of.result c.in_ok-insert.ensures.updates.0
    ∙ ap (λ m. map_of.insert m k c.of.result) c.self.view_is
    ∙ (λ i. map_of.insert old (c.number-number.ensures i) (c.of.ensures i)))
    ∙ edit_added old c.args.edit.now
    (ap (map_of.contains_key old) (sym c.number-number.ensures)
    ∙ ap is_some (ap (λ m. map_of.get m k) (sym c.self.view_is) ∙ get_made nat_cmp_total es k)
    ∙ sym c.contains_key.ensures ∙ c.if-contains_key.false) n
