use Rattle.std.proofs.Common.{refl, subst, sym}
use Rattle.std.proofs.lemmas.Result.{err_from_is_err_and}
use Rattle.casebook_account.specs.Accounts.{IsNotShown}
use Rattle.casebook_account.specs.declared.account_fault.AccountFault.TheVariants as accounts
use Rattle.casebook_repairs.specs.Stops.{StopsAsked}
use Rattle.casebook_cli.specs.Bytes.{IsBytesOf, no_bytes, not_repaired}
use Rattle.casebook_cli.proofs.bytes.bytes_answer.Goals as goal

pub returns-in_err-asked-clause-err : goal.returns-in_err-asked-clause-err
returns-in_err-asked-clause-err g c =
    let p = err_from_is_err_and c.from_residual.result c.from_residual.ensures.1 in
    rw (p.1, p.2) (not_repaired c.in_err-asked.ensures.err)

pub returns-in_err-bytes-clause-err : goal.returns-in_err-bytes-clause-err
returns-in_err-bytes-clause-err g c =
    let p = err_from_is_err_and c.from_residual-in_err-bytes.result c.from_residual-in_err-bytes.ensures.1 in
    rw (p.1, p.2) (no_bytes c.in_ok-asked.asked c.in_ok-asked.ensures.ok c.in_err-bytes.ensures.err)

pub returns-in_err-from_slice-clause-err : goal.returns-in_err-from_slice-clause-err
returns-in_err-from_slice-clause-err g c =
    let p =
    err_from_is_err_and c.from_residual-in_err-from_slice.result c.from_residual-in_err-from_slice.ensures.1 in
    rw (p.1, p.2)
    (not_repaired
    (StopsAsked.no_account (record { fault = accounts.NoMem; is_fault = IsNotShown.no_account tt; names = refl })))

pub returns-clause-ok : goal.returns-clause-ok
returns-clause-ok g c = record {
  is_text = record {
    asked = c.in_ok-asked.asked;
    is_asked = c.in_ok-asked.ensures.ok;
    are_bytes = subst (λ bytes. IsBytesOf c.args.request.bytes c.in_ok-asked.asked bytes)
        (sym c.in_ok-from_slice.ensures.items) c.in_ok-bytes.ensures.ok;
  };
  is_no_refusal = refl;
}
