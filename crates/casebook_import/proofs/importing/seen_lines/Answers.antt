use Rattle.std.proofs.Common.{◌≡◌, sym}
use Rattle.std.proofs.lemmas.Result.{err_from_is_err_and}
use Rattle.casebook_import.specs.Effects.{session_number}
use Rattle.casebook_import.specs.declared.import_error.ImportError.TheVariants as errors
use Rattle.casebook_import.proofs.Numbers.{too_many}
use Rattle.casebook_import.proofs.importing.seen_lines.Goals as goal

pub returns-in_err-one-clause-many : goal.returns-in_err-one-clause-many
returns-in_err-one-clause-many c = λ is.
    let p =
    err_from_is_err_and c.from_residual-in_err-one.result c.from_residual-in_err-one.ensures.1 in
    let e : c.in_err-one.field-0.0 ≡ errors.TooManySessions = cc (p.1, p.2, is) in (
      c.loop-line.line-index,
      c.line-item.result,
      c.loop-line-test.true,
      sym c.line-item.is,
      too_many c.in_err-one.field-0.0 (session_number c.line-item.result.owner) e
          c.in_err-one.ensures.err,
    )
