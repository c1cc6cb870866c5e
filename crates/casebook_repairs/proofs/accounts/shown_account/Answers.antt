use Rattle.std.proofs.Common.{subst}
use Rattle.casebook_account.specs.Accounts.{IsNotShown}
use Rattle.casebook_repairs.proofs.accounts.shown_account.Goals as goal

pub returns-in-Err-clause-err : goal.returns-in-Err-clause-err
returns-in-Err-clause-err c = record {
  fault = c.in-Err.fault;
  is_fault = subst (λ bytes. IsNotShown bytes c.in-Err.fault) c.as_slice.ensures.value c.in-Err.ensures.err;
  names = c.account_stop.ensures;
}
