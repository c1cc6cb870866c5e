use Rattle.std.proofs.Common.{FitsSigned, string_bytes, subst, w64}
use Rattle.std.proofs.lemmas.Int.{to_z-of_z}
use Rattle.casebook_about.specs.Time.{IsTimeText}
use Rattle.casebook_repairs.proofs.labels.add_time.Goals as goal

pub returns-in_ok-add_time-in-Ok-clause-ok : goal.returns-in_ok-add_time-in-Ok-clause-ok
returns-in_ok-add_time-in-Ok-clause-ok c =
    let good = c.well_formed in
    let fits : FitsSigned w64 c.args.time.second = search in
    record {
      text = string_bytes c.in-Ok.text;
      shown = subst (λ second. IsTimeText second (string_bytes c.in-Ok.text)) (to_z-of_z w64 c.args.time.second fits) c.in-Ok.ensures;
      added = c.in_ok-add_time-in-Ok.ensures.ok;
    }
