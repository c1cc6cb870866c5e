use Rattle.std.proofs.Common.{◌≡◌, ◌∙◌, sym}
use Rattle.json.specs.Json as json
use Rattle.retro_value.proofs.Left.{whole_and_more}
use Rattle.retro_log.specs.inner.Parts.{parts_of}
use Rattle.retro_log.specs.inner.PartsView.{parts_view}
use Rattle.retro_log.proofs.Parts.{goes_on}
use Rattle.retro_log.proofs.reading.members.read_parts.Goals as goal

pub returns-then-is_some-clause-not_json : goal.returns-then-is_some-clause-not_json
returns-then-is_some-clause-not_json g c refused =
    let more =
    goes_on (λ parts ms. parts_view parts ≡ parts_of g.L.Line.kind g.L.Line.line_of ms) _ _ c.in_ok-found.found
    c.next.result c.in_ok-reader.reader c.read_object.new.reader c.next.new.self c.in_ok-found.ensures.value
    c.next.ensures.value (sym c.is_some.ensures ∙ c.if-is_some.true) in
    let none = whole_and_more (json.value 127 c.in_ok-reader.reader) more.0 more.1 c.next.new.self more.2 in
    rw c.in_ok-reader.ensures.ok at none
