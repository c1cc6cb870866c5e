-- The logins of the rows so far.
use Rattle.std.proofs.Common.{◌≡◌, map}
use Rattle.casebook_host.specs.Logins.{login_of}
use Rattle.casebook_host.specs.LoginViews.{login_value}
use Rattle.casebook_host.proofs.RowsSoFar.{said}
use Rattle.casebook_host.proofs.who.logins.Given as goal

abbrev pub invariant-loop-row : goal.invariant-loop-row
invariant-loop-row l = map login_value l.logins.items ≡ said login_of l.row-items l.row-index
