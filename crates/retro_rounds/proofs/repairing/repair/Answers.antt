use Rattle.std.proofs.Common.{subst, sym}
use Rattle.retro_keep.specs.Edit.{edit_of}
use Rattle.retro_redo.proofs.Finishing.{repair_same, settled_same}
use Rattle.retro_rounds.specs.Tally.{IsTally}
use Rattle.retro_rounds.proofs.Tallied.{tallied}
use Rattle.retro_rounds.proofs.repairing.repair.Goals as goal

pub returns-clause-repair : goal.returns-clause-repair
returns-clause-repair g c =
    let settled = c.in_ok-settled in
    repair_same settled.settled.edits c.args.edits.now settled.settled.recording c.args.recording.now
    c.in_ok-repair.repair settled.ensures.edits settled.ensures.recording c.in_ok-repair.ensures.repair

pub returns-clause-settled : goal.returns-clause-settled
returns-clause-settled g c =
    let settled = c.in_ok-settled in
    settled_same settled.settled.edits c.args.edits.now settled.settled.recording c.args.recording.now
    settled.settled.choices c.in_ok-repair.repair settled.ensures.edits settled.ensures.recording
    c.in_ok-repair.ensures.settled settled.ensures.met

pub returns-clause-tally : goal.returns-clause-tally
returns-clause-tally g c =
    let settled = c.in_ok-settled in
    subst (IsTally (edit_of c.args.edits.now) c.args.cuts.now c.args.recording.now) (sym c.in_ok-repair.ensures.tally)
    (tallied c.args.cuts.now c.args.edits.now c.args.recording.now settled.settled settled.tally c.in_ok-repair.repair
    settled.ensures.edits settled.ensures.recording c.lines.ensures.well_formed c.in_ok-repair.ensures.settled
    settled.ensures.tally)
