use Rattle.std.proofs.Common.{ap}
use Rattle.std.specs.Prelude.{ok_or}
use Rattle.casebook_case.specs.declared.case_fault.CaseFault.TheVariants.{NotJson}
use Rattle.retro_log.proofs.Parsing.{is_json, no_json}
use Rattle.casebook_case.proofs.reading.parse.Goals as goal

pub returns-in_default : goal.returns-in_default
returns-in_default c =
    ap (λ o. ok_or o NotJson) (no_json c.args.bytes.now (λ utf8. absurd (c.in_default.ensures.cases.0 utf8)))

pub returns-in-Ok-from_str : goal.returns-in-Ok-from_str
returns-in-Ok-from_str c =
    ap (λ o. ok_or o NotJson)
    (is_json c.in-Ok.text.now c.args.bytes.now _ c.in-Ok.ensures.cases.0 c.in-Ok.ensures.cases.1
    c.in-Ok-from_str.ensures.ok)
