use Rattle.std.proofs.Common.{codes}
use Rattle.serde_json.specs.Find.{get}
use Rattle.serde_json.specs.View.{view}
use Rattle.casebook_cli.proofs.KindLemmas.{found, no_text, of_value}
use Rattle.casebook_cli.proofs.checks.is_for_script.Goals as goal

pub returns-in_default : goal.returns-in_default
returns-in_default c = no_text c.args.bytes.now c.in_default.ensures.cases.0

pub returns-in-Ok-from_str : goal.returns-in-Ok-from_str
returns-in-Ok-from_str c =
    let d = view c.in-Ok-from_str.value in
    of_value c.args.bytes.now c.in-Ok.text.now d c.is_some.result c.in-Ok.ensures.cases.0 c.in-Ok.ensures.cases.1
    c.in-Ok-from_str.ensures.ok
    (found (λ v. view v.now) c.get.result (get (codes "script") d) c.is_some.result c.is_some.ensures c.get.ensures)
