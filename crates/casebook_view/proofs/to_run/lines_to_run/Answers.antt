use Rattle.std.proofs.Common.{◌∙◌, ap, refl, subst}
use Rattle.retro_redo.specs.Repair.{numbers_with}
use Rattle.retro_redo.specs.declared.repair.Repair.{Repair}
use Rattle.retro_redo.specs.declared.verdict.Verdict.TheVariants.{Redone}
use Rattle.casebook_usage.specs.declared.obstacle.Obstacle.TheVariants.{Need}
use Rattle.casebook_view.specs.Unknown.{is_to_run, unknown_line}
use Rattle.casebook_view.specs.inner.Numbers.{AreNumbers}
use Rattle.casebook_view.proofs.FirstLemmas.{kept_at}
use Rattle.casebook_view.proofs.to_run.lines_to_run.Goals as goal

pub loop-number-preserved : goal.loop-number-preserved
loop-number-preserved c =
    let case = c.args.case.now in
    let numbers = c.as_slice.ensures.value ∙ c.in_ok-numbers.ensures
    ∙ ap (λ (repair : Repair). numbers_with Redone repair.lines.items) c.repair.ensures in
    kept_at (is_to_run case.recording case.repair) (λ n. unknown_line n Need) c.loop-number.found.items
    c.push_to_run.new.found.items c.args.observed.now c.loop-number.number-index _ _ c.loop-number-test.true refl
    c.loop-number.invariant
    (c.in_ok-push_to_run.ensures (subst (λ ns. AreNumbers ns c.in_ok-redone.redone) numbers c.in_ok-redone.ensures))
