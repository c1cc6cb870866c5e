use Rattle.std.proofs.Common.{refl, subst, sym}
use Rattle.retro_redo.specs.Progress.{edit_in}
use Rattle.retro_redo.specs.Settling.{IsGuessOf, IsTakenUp}
use Rattle.retro_redo.specs.declared.step.Step.TheVariants.{Take}
use Rattle.retro_redo.proofs.repairer.Repairer.settle_stale.Goals as goal

pub take_step-requires-clause-may : goal.take_step-requires-clause-may
take_step-requires-clause-may g c =
    λ l next. (
      c.requires.stale l next,
      subst (IsGuessOf (edit_in c.args.self.now) l) c.in-Some.is (c.requires.guess l next),
      c.in_ok-fits.ensures.0 c.if-branch.true,
    )

pub returns-then-branch : goal.returns-then-branch
returns-then-branch g c =
    let run = c.in-Some.run' in (
      Take run,
      c.in_ok-take_step.ensures.ok,
      c.requires.met,
      λ l next. (subst (λ guess. IsTakenUp guess (Take run)) (sym c.in-Some.is) refl, c.requires.stale l next),
    )
