use Rattle.std.proofs.Common.{sym, subst}
use Rattle.retro_json.specs.ReadsAs.{ReadsAs}
use Rattle.retro_log.specs.inner.PartsView.{parts_view}
use Rattle.retro_log.proofs.Texts.{script_not_read, script_of_other, script_read}
use Rattle.retro_log.proofs.reading.script.read_script.Goals as goal

pub returns-in_default : goal.returns-in_default
returns-in_default c = script_not_read c.args.bytes.now (λ utf8. absurd (c.in_default.ensures utf8))

pub returns-in-Some : goal.returns-in-Some
returns-in-Some c =
    let found = rw c.in-Some.is at c.in_ok-parts.ensures.value in
    let reads =
    script_read c.in-Ok.text.now c.args.bytes.now found.0 (parts_view c.in-Some.parts) c.in-Ok.ensures.0 c.in-Ok.ensures.1
    found.1 found.2 in
    subst (λ meant. ReadsAs (λ r. r) c.script_of_parts.result meant) (sym reads) c.script_of_parts.ensures

pub returns-in-None : goal.returns-in-None
returns-in-None c =
    let found = rw c.in-None.is at c.in_ok-parts.ensures.value in
    script_of_other c.in-Ok.text.now c.args.bytes.now found.0 c.in-Ok.ensures.0 c.in-Ok.ensures.1 found.1 found.2
