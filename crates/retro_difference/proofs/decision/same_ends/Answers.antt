use Rattle.retro_difference.proofs.Decisions.{same_after_file}
use Rattle.retro_difference.proofs.decision.same_ends.Goals as goal

pub returns : goal.returns
returns c = λ file. same_after_file c.same_bytes.result file c.args.end.now c.args.other.now c.same_bytes.ensures
