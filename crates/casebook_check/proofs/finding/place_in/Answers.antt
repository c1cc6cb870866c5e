use Rattle.std.proofs.Common.{◌+◌, ◌∙◌, ap}
use Rattle.casebook_check.specs.Place.{not_utf8, whole}
use Rattle.casebook_check.proofs.finding.place_in.Goals as goal

pub returns-in-Err-NotJson : goal.returns-in-Err-NotJson
returns-in-Err-NotJson c =
    rw c.in-Err-NotJson.is-1 (not_utf8 c.in-Err-NotJson.ensures.cases.0
    (ap (λ n. n + 1) (c.valid_up_to.ensures ∙ c.in-Err-NotJson.ensures.valid_len)))

pub returns-in-Err-default : goal.returns-in-Err-default
returns-in-Err-default c = whole
