use Rattle.std.proofs.Common.{◌∙◌, ℕ, List, ap, subst, sym}
use Rattle.std.specs.FinMap as map
use Rattle.std.specs.Option.{option_map}
use Rattle.retro_keep.specs.Recording.{IsWellFormed}
use Rattle.retro_redo.specs.Progress.{AreTakenNow, ProgressValue, edit_in}
use Rattle.retro_redo.specs.declared.tally.Tally.{Tally}
use Rattle.retro_redo.proofs.Before.{next_below}
use Rattle.retro_redo.proofs.KeptLines.{fewer_left}
use Rattle.retro_redo.proofs.NextLines.{none_found, number_found}
use Rattle.retro_redo.proofs.Positions.{Line}
use Rattle.retro_redo.proofs.Taking.{taken_first, taken_next, taken_skipped}
use Rattle.retro_rounds.specs.inner.Rounds.{IsTallied}
use Rattle.retro_rounds.specs.declared.attempt.Attempt.{Attempt}
use Rattle.retro_rounds.proofs.Turns.{at_end, at_line, at_stop, few_jobs, none_waiting}
use Rattle.retro_rounds.proofs.OneLine.{settled_next}
use Rattle.retro_rounds.proofs.Underway.{IsUnderway, starts}
use Rattle.retro_rounds.proofs.repairing.settle_all.Goals as goal

pub loop-rounds-init : goal.loop-rounds-init
loop-rounds-init g c =
    let new = c.new-rounds.ensures in
    record {
      recording = c.in_ok-repairer.ensures.recording;
      edits = c.in_ok-repairer.ensures.edits;
      met = taken_first c.in_ok-repairer.repairer c.in_ok-repairer.ensures.choices;
      underway = subst (λ (x : ℕ × List ℕ × List Attempt × Tally).
          IsUnderway c.args.request.now.cuts.now c.in_ok-repairer.repairer x.0 x.1 x.2 x.3)
          (λ i. (sym new.end i, sym new.cuts i, sym new.attempts i, sym new.tally i))
          (starts c.in_ok-repairer.repairer c.args.request.now.cuts.now c.in_ok-repairer.ensures.choices c.requires.cuts);
    }

pub advance-requires-clause-unsettled : goal.advance-requires-clause-unsettled
advance-requires-clause-unsettled g c κs within =
    next_below c.skip_unmet.new.self c.in-Some.line.number (number_found c.skip_unmet.new.self c.in_ok-line.field-0 c.in-Some.line c.in_ok-line.ensures.next c.in-Some.is)

pub advance-requires-clause-over : goal.advance-requires-clause-over
advance-requires-clause-over g c κs within =
    none_waiting c.args.request.now.cuts.now c.skip_unmet.new.self c.pass_to.new.self
    (at_stop c.args.request.now.cuts.now c.loop-rounds.repairer c.skip_unmet.new.self c.loop-rounds.rounds
    c.pass_to.new.self c.in-Some.line.number c.loop-rounds.invariant.underway
    (subst IsWellFormed (sym c.loop-rounds.invariant.recording) c.lines.ensures.well_formed) c.in_ok-line.ensures.ok
    (number_found c.skip_unmet.new.self c.in_ok-line.field-0 c.in-Some.line c.in_ok-line.ensures.next c.in-Some.is) c.pass_to.ensures)

pub advance-requires-clause-few : goal.advance-requires-clause-few
advance-requires-clause-few g c κs within =
    few_jobs c.args.request.now.cuts.now c.skip_unmet.new.self c.pass_to.new.self
    (at_stop c.args.request.now.cuts.now c.loop-rounds.repairer c.skip_unmet.new.self c.loop-rounds.rounds
    c.pass_to.new.self c.in-Some.line.number c.loop-rounds.invariant.underway
    (subst IsWellFormed (sym c.loop-rounds.invariant.recording) c.lines.ensures.well_formed) c.in_ok-line.ensures.ok
    (number_found c.skip_unmet.new.self c.in_ok-line.field-0 c.in-Some.line c.in_ok-line.ensures.next c.in-Some.is) c.pass_to.ensures)

pub settle-requires-clause-attempts : goal.settle-requires-clause-attempts
settle-requires-clause-attempts g c =
    (at_line c.args.request.now.cuts.now c.loop-rounds.repairer c.skip_unmet.new.self c.loop-rounds.rounds
    c.pass_to.new.self c.advance.new.self c.in-Some.line.number c.loop-rounds.invariant.underway
    (subst IsWellFormed (sym c.loop-rounds.invariant.recording) c.lines.ensures.well_formed) c.in_ok-line.ensures.ok
    (number_found c.skip_unmet.new.self c.in_ok-line.field-0 c.in-Some.line c.in_ok-line.ensures.next c.in-Some.is) c.pass_to.ensures c.in_ok-advance.ensures).attempts

pub settle-requires-clause-sum : goal.settle-requires-clause-sum
settle-requires-clause-sum g c =
    (at_line c.args.request.now.cuts.now c.loop-rounds.repairer c.skip_unmet.new.self c.loop-rounds.rounds
    c.pass_to.new.self c.advance.new.self c.in-Some.line.number c.loop-rounds.invariant.underway
    (subst IsWellFormed (sym c.loop-rounds.invariant.recording) c.lines.ensures.well_formed) c.in_ok-line.ensures.ok
    (number_found c.skip_unmet.new.self c.in_ok-line.field-0 c.in-Some.line c.in_ok-line.ensures.next c.in-Some.is) c.pass_to.ensures c.in_ok-advance.ensures).sum

pub loop-rounds-smaller : goal.loop-rounds-smaller
loop-rounds-smaller g c =
    fewer_left c.loop-rounds.repairer c.skip_unmet.new.self c.settle.new.repairer c.in-Some.line.number
    c.in_ok-line.ensures.ok c.in_ok-settle.ensures.one (number_found c.skip_unmet.new.self c.in_ok-line.field-0 c.in-Some.line c.in_ok-line.ensures.next c.in-Some.is)

pub loop-rounds-preserved : goal.loop-rounds-preserved
loop-rounds-preserved g c =
    let skip = c.in_ok-line.ensures.ok in
    let one = c.in_ok-settle.ensures.one in
    let recording = skip.recording ∙ c.loop-rounds.invariant.recording in
    record {
      recording = ap (λ (x : ProgressValue). x.recording) one.1 ∙ recording;
      edits = λ n. ap (λ (x : ProgressValue). edit_in x n) one.1 ∙ ap (λ edits. map.get edits n) skip.edits
          ∙ c.loop-rounds.invariant.edits n;
      met = taken_next c.skip_unmet.new.self c.settle.new.repairer one
          (taken_skipped c.loop-rounds.repairer c.skip_unmet.new.self skip c.loop-rounds.invariant.met);
      underway = settled_next c.args.request.now.cuts.now c.skip_unmet.new.self c.settle.new.repairer c.advance.new.self
          c.settle.new.self c.in-Some.line.number
          (at_line c.args.request.now.cuts.now c.loop-rounds.repairer c.skip_unmet.new.self c.loop-rounds.rounds
          c.pass_to.new.self c.advance.new.self c.in-Some.line.number c.loop-rounds.invariant.underway
          (subst IsWellFormed (sym c.loop-rounds.invariant.recording) c.lines.ensures.well_formed) skip
          (number_found c.skip_unmet.new.self c.in_ok-line.field-0 c.in-Some.line c.in_ok-line.ensures.next c.in-Some.is) c.pass_to.ensures c.in_ok-advance.ensures)
          (subst IsWellFormed (sym recording) c.lines.ensures.well_formed)
          (number_found c.skip_unmet.new.self c.in_ok-line.field-0 c.in-Some.line c.in_ok-line.ensures.next c.in-Some.is) one c.in_ok-settle.ensures.counted;
    }

pub returns-clause-met : goal.returns-clause-met
returns-clause-met g c =
    subst AreTakenNow (sym c.into_steps.ensures)
    (taken_skipped c.loop-rounds.repairer c.skip_unmet.new.self c.in_ok-line.ensures.ok
    c.loop-rounds.invariant.met)

pub returns-clause-tally : goal.returns-clause-tally
returns-clause-tally g c =
    subst (λ (x : ProgressValue × Tally). IsTallied c.args.request.now.cuts.now x.0 x.1)
    (λ i. (sym c.into_steps.ensures i, sym c.finish.ensures i))
    (at_end c.args.request.now.cuts.now c.loop-rounds.repairer c.skip_unmet.new.self c.loop-rounds.rounds
    c.loop-rounds.invariant.underway
    (subst IsWellFormed (sym c.loop-rounds.invariant.recording) c.lines.ensures.well_formed) c.in_ok-line.ensures.ok
    (ap (option_map (λ (l : Line). l.0)) (none_found c.skip_unmet.new.self c.in_ok-line.field-0 c.in_ok-line.ensures.next c.in_default.is)))
