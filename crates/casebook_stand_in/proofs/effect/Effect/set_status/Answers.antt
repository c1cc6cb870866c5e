use Rattle.std.proofs.Common.{refl}
use Rattle.retro_tree.specs.declared.cell.Cell.TheVariants as cells
use Rattle.retro_tree.specs.declared.value.Value.TheVariants as values
use Rattle.std.proofs.lemmas.Bool.{eq-eqb}
use Rattle.casebook_stand_in.proofs.Owning.{set_or_kept}
use Rattle.casebook_stand_in.proofs.effect.Effect.set_status.Goals as goal

pub invariant_of-self : goal.invariant_of-self
invariant_of-self c =
    set_or_kept (record { sid = c.self.inside.sid; cells = c.self.inside.cells }) (cells.Status c.self.inside.sid)
    (values.Status c.args.status) c.insert.new.self c.insert.result refl (eq-eqb c.self.inside.sid c.self.inside.sid refl) c.self.invariant c.insert.ensures.ok
    c.insert.ensures.err
