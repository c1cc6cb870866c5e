use Rattle.std.proofs.Common.{ap, subst, sym, ◌∙◌}
use Rattle.std.specs.FinMap as finmap
use Rattle.retro_redo.specs.Editing.{EditMap}
use Rattle.retro_redo.specs.Progress.{AreTakenNow, ProgressValue, edit_in}
use Rattle.retro_redo.proofs.KeptLines.{fewer_left}
use Rattle.retro_redo.proofs.NextLines.{number_found}
use Rattle.retro_redo.proofs.Taking.{taken_first, taken_next, taken_skipped}
use Rattle.retro_redo.proofs.repairing.settle_all.Goals as goal

pub loop-repairer-init : goal.loop-repairer-init
loop-repairer-init g c = record {
  recording = c.in_ok-repairer.ensures.recording;
  edits = c.in_ok-repairer.ensures.edits;
  met = taken_first c.in_ok-repairer.repairer c.in_ok-repairer.ensures.choices;
}

pub loop-repairer-smaller : goal.loop-repairer-smaller
loop-repairer-smaller g c =
    let one = c.in_ok-settle.ensures in
    fewer_left c.loop-repairer.repairer c.skip_unmet.new.self c.settle.new.self c.in-Some.line.number
    c.in_ok-line.ensures.ok (one.0, one.1, one.2)
    (number_found c.skip_unmet.new.self c.in_ok-line.field-0 c.in-Some.line c.in_ok-line.ensures.next c.in-Some.is)

pub loop-repairer-preserved : goal.loop-repairer-preserved
loop-repairer-preserved g c =
    let skip = c.in_ok-line.ensures.ok in
    let one = c.in_ok-settle.ensures in
    record {
      recording = ap (λ (x : ProgressValue). x.recording) one.1 ∙ skip.recording
          ∙ c.loop-repairer.invariant.recording;
      edits = λ n. ap (λ (x : ProgressValue). edit_in x n) one.1 ∙ ap (λ (m : EditMap). finmap.get m n) skip.edits
          ∙ c.loop-repairer.invariant.edits n;
      met = taken_next c.skip_unmet.new.self c.settle.new.self (one.0, one.1, one.2)
          (taken_skipped c.loop-repairer.repairer c.skip_unmet.new.self skip c.loop-repairer.invariant.met);
    }

pub returns-clause-met : goal.returns-clause-met
returns-clause-met g c =
    subst AreTakenNow (sym c.into_steps.ensures)
    (taken_skipped c.loop-repairer.repairer c.skip_unmet.new.self c.in_ok-line.ensures.ok
    c.loop-repairer.invariant.met)
