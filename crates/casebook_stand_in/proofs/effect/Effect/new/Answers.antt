use Rattle.std.proofs.Common.{sym, subst}
use Rattle.casebook_stand_in.specs.Effect.{IsEffect}
use Rattle.casebook_stand_in.proofs.Owning.{no_cells}
use Rattle.casebook_stand_in.proofs.effect.Effect.new.Goals as goal

pub invariant_of-effect : goal.invariant_of-effect
invariant_of-effect c =
    subst (λ m. IsEffect (record { sid = c.args.sid; cells = m })) (sym c.new.ensures.value) (no_cells c.args.sid)
