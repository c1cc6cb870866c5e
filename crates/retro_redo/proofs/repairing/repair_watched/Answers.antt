use Rattle.retro_redo.proofs.Finishing.{repair_same, settled_same}
use Rattle.retro_redo.proofs.repairing.repair_watched.Goals as goal

pub returns-clause-repair : goal.returns-clause-repair
returns-clause-repair g c =
    let settled = c.in_ok-settled in
    repair_same settled.settled.edits c.args.edits.now settled.settled.recording c.args.recording.now
    c.in_ok-repair.repair settled.ensures.edits settled.ensures.recording c.in_ok-repair.ensures.repair

pub returns-clause-settled : goal.returns-clause-settled
returns-clause-settled g c =
    let settled = c.in_ok-settled in
    settled_same settled.settled.edits c.args.edits.now settled.settled.recording c.args.recording.now
    settled.settled.choices c.in_ok-repair.repair settled.ensures.edits settled.ensures.recording
    c.in_ok-repair.ensures.settled settled.ensures.met
