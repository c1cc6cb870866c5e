use Rattle.std.proofs.Common.{length}
use Rattle.casebook_check.proofs.stops.stop_of.Given as goal

abbrev pub decreases-loop-token : goal.decreases-loop-token
decreases-loop-token l = length l.reader
