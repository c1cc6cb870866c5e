use Rattle.std.proofs.Common.{FitsSigned, inl, string_bytes, subst, w64}
use Rattle.std.proofs.lemmas.Int.{to_z-of_z}
use Rattle.casebook_about.specs.Time.{IsInstantText}
use Rattle.casebook_status.proofs.recorded.second_words.Goals as goal

pub returns-in-Ok : goal.returns-in-Ok
returns-in-Ok c =
    let fits : FitsSigned w64 c.args.second = c.ranges.second in
    inl (subst (λ second. IsInstantText second (string_bytes c.in-Ok.text))
    (to_z-of_z w64 c.args.second fits) c.in-Ok.ensures)
