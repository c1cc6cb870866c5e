use Rattle.std.proofs.Common.{sym, ◌∙◌, subst}
use Rattle.retro_keep.specs.Recording.{IsWellFormed}
use Rattle.retro_keep.proofs.Recorded.{finished, recorded_runs, whole_well_formed}
use Rattle.retro_keep.proofs.recorder.Recorder.finish.Goals as goal

pub of_well_formed-requires-clause-well_formed : goal.of_well_formed-requires-clause-well_formed
of_well_formed-requires-clause-well_formed c =
    subst (λ s. IsWellFormed (record { first = s; from = 1; lines = c.args.self.lines.items }))
    (sym (c.in_ok-first.ensures ∙ c.first.ensures.value))
    (whole_well_formed c.args.script.now c.args.self.lines.items c.first.ensures.lawful c.requires.lines_are
    c.requires.recorded)

pub returns-clause-outcome : goal.returns-clause-outcome
returns-clause-outcome c =
    let made = c.of_well_formed.result in
    recorded_runs c.args.script.now made (finished c.args.script.now made c.args.self.lines.items c.args.self.state
    c.in_ok-first.first c.of_well_formed.ensures (c.in_ok-first.ensures ∙ c.first.ensures.value) c.requires)
