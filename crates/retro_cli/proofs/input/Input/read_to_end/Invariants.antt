use Rattle.std.proofs.Common.{◌-◌}
use Rattle.std.specs.Io.KnownBytes.{Consumes}
use Rattle.retro_cli.specs.declared.input.TheConstants.{MOST_READS}
use Rattle.retro_cli.proofs.input.Input.read_to_end.Given as goal

abbrev pub invariant-loop-n : goal.invariant-loop-n
invariant-loop-n g l = Consumes (g.R.Read.remaining l.fn.self.reader) (g.R.Read.remaining l.self.reader) l.bytes.items

abbrev pub decreases-loop-n : goal.decreases-loop-n
decreases-loop-n g l = MOST_READS - l.self.reads
