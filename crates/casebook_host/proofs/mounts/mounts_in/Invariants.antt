-- The mounts of the rows so far.
use Rattle.std.proofs.Common.{◌≡◌}
use Rattle.casebook_host.specs.Mounts.{mount_of}
use Rattle.casebook_host.proofs.RowsSoFar.{said}
use Rattle.casebook_host.proofs.mounts.mounts_in.Given as goal

abbrev pub invariant-loop-row : goal.invariant-loop-row
invariant-loop-row l = l.mounts.items ≡ said mount_of l.row-items l.row-index
