use Rattle.std.proofs.Common.{[], ap, ap₂, subst, sym, ◌++◌, ◌∷◌, ◌∙◌}
use Rattle.retro_tree.specs.Exact.{IsExact}
use Rattle.retro_tree.proofs.ExactOverlays.{exact_tight}
use Rattle.retro_keep.specs.Recorded.{recorded_before}
use Rattle.retro_redo.specs.Progress.{ProgressValue, recorded_now, repaired_now}
use Rattle.retro_redo.proofs.Before.{before_next}
use Rattle.retro_redo.proofs.Keeping.{steps_more}
use Rattle.retro_redo.proofs.NextLines.{decided_next, next_number_is, pair_of, settled_line}
use Rattle.retro_redo.proofs.StepUses.{keeps_same, settled_uses, unsettled_uses}
use Rattle.retro_redo.proofs.repairer.Repairer.take_step.Goals as goal

pub go_over-requires : goal.go_over-requires
go_over-requires c =
    let history = c.self.invariant.2 ∙ ap (λ (p : ProgressValue). p.recording) c.self.view_is in
    let before = ap (recorded_before c.args.line.number) history
    ∙ before_next c.args.self.now c.args.line.number c.noted_line.ensures.well_formed
    (next_number_is c.args.self.now c.args.line c.requires.next) in
    exact_tight c.self.inside.difference.overlay _ (repaired_now c.args.self.now)
    (subst (λ s. IsExact c.self.inside.difference.overlay s (repaired_now c.args.self.now)) (sym before)
    (subst (λ (p : ProgressValue). IsExact c.self.inside.difference.overlay (recorded_now p) (repaired_now p))
    c.self.view_is c.self.invariant.0.exact))

pub invariant_of-self-in_err-go_over : goal.invariant_of-self-in_err-go_over
invariant_of-self-in_err-go_over c =
    let history = c.self.invariant.2 ∙ ap (λ (p : ProgressValue). p.recording) c.self.view_is in
    let stays = c.in_err-go_over.ensures.err in (
      keeps_same _ c.self.inside.difference.overlay c.go_over.new.difference.overlay c.self.inside.lines.items
          c.reserve-2.new.self.items c.reserve.new.self.items c.self.invariant.0 c.reserve.ensures.items
          c.reserve-2.ensures.items stays.overlay,
      unsettled_uses c.args.self.now _ c.self.inside.difference c.go_over.new.difference c.self.inside.history.now
          (pair_of c.args.line) c.self.view_is c.self.invariant.1 c.noted_line.ensures.well_formed
          c.requires.next.next history c.reserve.new.self.items c.reserve.ensures.items stays,
      c.self.invariant.2,
    )

pub invariant_of-self-2 : goal.invariant_of-self-2
invariant_of-self-2 c =
    let next = c.requires.next.next in
    let well = c.noted_line.ensures.well_formed in
    let history = c.self.invariant.2 ∙ ap (λ (p : ProgressValue). p.recording) c.self.view_is in
    let before = ap (recorded_before c.args.line.number) history
    ∙ before_next c.args.self.now c.args.line.number well
    (next_number_is c.args.self.now c.args.line c.requires.next) in
    let pushed = c.push_reserved-2.ensures.items ∙ ap (λ steps. steps ++ c.args.step ∷ []) c.reserve.ensures.items in
    let left = c.push_reserved.ensures.items
    ∙ ap₂ (λ lines l. lines ++ l ∷ []) c.reserve-2.ensures.items
    (settled_line c.of.result c.args.line c.args.step c.of.ensures.number c.of.ensures.verdict c.of.ensures.met) in (
      steps_more (record {
        same = c.self.view_is;
        keeps = c.self.invariant.0;
        well = well;
        next = next;
        recorded = before;
        may = c.requires.may;
        run = c.check_run.ensures;
        exact = c.in_ok-go_over.ensures.exact;
        decided = decided_next c.args.self.now c.args.line c.requires.next (pair_of c.args.line) next;
      }) c.push_reserved-2.new.self.items c.push_reserved.new.self.items pushed left,
      settled_uses c.args.self.now _ c.self.inside.difference c.go_over.new.difference c.self.inside.history.now
          (pair_of c.args.line) c.self.view_is c.self.invariant.1 well next history c.args.step
          c.push_reserved-2.new.self.items pushed before c.self.invariant.0.exact c.in_ok-go_over.ensures.uses,
      c.self.invariant.2,
    )
