use Rattle.std.proofs.Common.{MatchBool, None, refl, subst, ◌≡◌}
use Rattle.std.specs.Option.{IsSome}
use Rattle.retro_redo.specs.Moments.{text_now}
use Rattle.retro_redo.specs.Progress.{edit_in, recorded_now, repaired_now}
use Rattle.retro_redo.specs.declared.step.Step.TheVariants.{Cancel, Keep}
use Rattle.retro_redo.proofs.EditCases.{unmet_unedited}
use Rattle.retro_redo.proofs.Keeping.{IsDecided}
use Rattle.retro_redo.proofs.NextLines.{cancelled_next, decided_next, holds_next}
use Rattle.retro_redo.proofs.repairer.Repairer.settle.Goals as goal

-- only the steps of a stale line take a run
pub returns-then-is_cancelled : goal.returns-then-is_cancelled
returns-then-is_cancelled g c =
    let p = c.args.self.now in (
      Cancel,
      c.in_ok-take_step.ensures.ok,
      λ l next. tt,
      λ l next. (
        refl,
        subst (λ b. MatchBool b (text_now (edit_in p) l ≡ None) (IsSome (text_now (edit_in p) l)))
            c.if-is_cancelled.true (cancelled_next p c.args.line c.requires.next c.is_cancelled.result c.is_cancelled.ensures l next),
      ),
    )

pub returns-then-not-line : goal.returns-then-not-line
returns-then-not-line g c =
    let p = c.args.self.now in (
      Keep,
      c.in_ok-take_step-2.ensures.ok,
      λ l next. tt,
      λ l next.
          let runs = subst (λ b. MatchBool b (text_now (edit_in p) l ≡ None) (IsSome (text_now (edit_in p) l)))
          c.if-is_cancelled.false (cancelled_next p c.args.line c.requires.next c.is_cancelled.result c.is_cancelled.ensures l next) in
          let unmet = subst (IsDecided p l) c.if-not-line.true (decided_next p c.args.line c.requires.next l next) in
          let none = (unmet_unedited (edit_in p l.0) l.1.text l.1.notes (recorded_now p) (repaired_now p) runs unmet).0 in
          (refl, none, λ own. holds_next p c.args.line c.requires.next own l next none c.if-not-line.true),
    )

pub returns-then-branch : goal.returns-then-branch
returns-then-branch g c = (
  Keep,
  c.in_ok-take_step-3.ensures.ok,
  λ l next. tt,
  λ l next.
      let both = (c.in_ok-is_as_noted.ensures l next).0 c.if-branch.true in
      (refl, both.0, λ own. both.1),
)
