use Rattle.std.proofs.Common.{refl}
use Rattle.std.proofs.lemmas.Result.{err_from_is_err_and}
use Rattle.casebook_account.specs.Accounts.{IsNotShown}
use Rattle.casebook_account.specs.declared.account_fault.AccountFault.TheVariants as accounts
use Rattle.casebook_repairs.specs.Stops.{StopsAsked}
use Rattle.casebook_cli.proofs.patches.patch_answer.Goals as goal

pub returns-in_err-text-clause-err : goal.returns-in_err-text-clause-err
returns-in_err-text-clause-err g c =
    let p = err_from_is_err_and c.from_residual-in_err-text.result c.from_residual-in_err-text.ensures.1 in
    rw (p.1, p.2)
    (StopsAsked.no_account (record { fault = accounts.NoMem; is_fault = IsNotShown.no_account tt; names = refl }))

pub returns-clause-ok : goal.returns-clause-ok
returns-clause-ok g c = record {
  is_text = record {
    asked = c.in_ok-asked.asked;
    is_asked = c.in_ok-asked.ensures.ok;
    is_patch = c.in_ok-text.ensures;
  };
  is_no_refusal = refl;
}
