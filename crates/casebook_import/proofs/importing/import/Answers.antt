use Rattle.std.proofs.Common.{◌≡◌, ◌≤◌, ◌^◌, Err, ap, inr, subst}
use Rattle.std.specs.Prelude.{Any}
use Rattle.std.proofs.lemmas.Result.{err_from_is_err_and}
use Rattle.casebook_import.specs.Effects.{session_number}
use Rattle.casebook_import.specs.declared.import_error.ImportError.TheVariants as errors
use Rattle.casebook_import.proofs.importing.import.Goals as goal

pub returns-in_err-lines-clause-many : goal.returns-in_err-lines-clause-many
returns-in_err-lines-clause-many c = λ is.
    let p =
    err_from_is_err_and c.from_residual-in_err-lines.result
    c.from_residual-in_err-lines.ensures.1 in
    let e : c.in_err-lines.field-0.0 ≡ errors.TooManySessions = cc (p.1, p.2, is) in
    inr (subst (λ lines. Any (λ line. 2 ^ 32 ≤ session_number line.owner) lines)
    c.as_slice-lines.ensures.value (c.in_err-lines.ensures.many (ap Err e)))
