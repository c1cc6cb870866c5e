use Rattle.std.proofs.Common.{◌≡◌, ◌∙◌, Option, Some, None, ap, option_map, refl, string_bytes, subst}
use Rattle.std.specs.Option.{unwrap_or}
use Rattle.std.proofs.lemmas.Result.{err_from_is_err_and}
use Rattle.casebook_account.specs.Accounts.{IsNotShown}
use Rattle.casebook_account.specs.declared.account_fault.AccountFault.TheVariants as accounts
use Rattle.casebook_cli.specs.Pages.{IsPageOf}
use Rattle.casebook_repairs.specs.Repairs.{asked_source}
use Rattle.casebook_repairs.specs.Stops.{StopsAsked}
use Rattle.casebook_cli.proofs.answers.repair_page.Goals as goal

-- what a title is, or else another one
shown_title : {A B : Type 0} (shown : A → B) (o : Option A) (other : A)
    → shown (unwrap_or o other) ≡ unwrap_or (option_map shown o) (shown other)
shown_title shown None other = refl
shown_title shown (Some x) other = refl

pub returns-clause-ok : goal.returns-clause-ok
returns-clause-ok g c = record {
  asked = c.in_ok-asked.asked;
  is_asked = c.in_ok-asked.ensures.ok;
  is_page =
      subst (λ title. IsPageOf (asked_source c.in_ok-asked.asked) c.in_ok-asked.asked.edits.items
      c.in_ok-asked.asked.recording c.in_ok-asked.asked.repair c.in_ok-asked.asked.labels title c.args.request.all
      (string_bytes c.in_ok-page_text.field-0))
      (ap (λ s. s.now) c.unwrap_or-title.ensures ∙ shown_title (λ s. s.now) c.args.request.title c.args.request.repair.log)
      c.in_ok-page_text.ensures;
}

pub returns-in_err-page_text-clause-err : goal.returns-in_err-page_text-clause-err
returns-in_err-page_text-clause-err g c =
    let p =
    err_from_is_err_and c.from_residual-in_err-page_text.result c.from_residual-in_err-page_text.ensures.1 in
    rw (p.1, p.2)
    (StopsAsked.no_account (record { fault = accounts.NoMem; is_fault = IsNotShown.no_account tt; names = refl }))
