use Rattle.std.proofs.Common.{ap, inl, subst, refl, ◌∙◌}
use Rattle.std.specs.Option.{option_map}
use Rattle.std.specs.List.{AllByRecursion}
use Rattle.retro_keep.specs.Recording.{IsWellFormed}
use Rattle.retro_redo.specs.Progress.{edit_in}
use Rattle.retro_redo.proofs.Positions.{Line}
use Rattle.retro_rounds.specs.inner.Attempts.{IsAttempt}
use Rattle.retro_rounds.proofs.Shown.{guess_next}
use Rattle.retro_rounds.proofs.rounds.Rounds.settle.Goals as goal

pub settle-requires-in-Some-clause-guess : goal.settle-requires-in-Some-clause-guess
settle-requires-in-Some-clause-guess g c = λ l next.
    guess_next c.args.repairer.now c.args.line.number c.in-Some.attempt l
    (subst IsWellFormed (c.recording.ensures ∙ c.ground.ensures.recording) c.lines.ensures.well_formed)
    (ap (option_map (λ (k : Line). k.0)) c.requires.next.next) next c.in-Some.ensures.1
    (subst (AllByRecursion (IsAttempt (edit_in c.args.repairer.now) c.args.repairer.now.recording)) c.in-Some.ensures.0 c.requires.attempts).0

pub returns-in_ok-settle-in-None-clause-counted : goal.returns-in_ok-settle-in-None-clause-counted
returns-in_ok-settle-in-None-clause-counted g c = record {
  pieces = refl;
  by = inl (c.in-None.ensures.0, c.in-None.ensures.1, refl);
}
