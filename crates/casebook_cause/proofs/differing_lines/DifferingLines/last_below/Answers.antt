use Rattle.casebook_cause.proofs.PlaceEntries.{forward, last_none, last_some}
use Rattle.casebook_cause.proofs.differing_lines.DifferingLines.last_below.Goals as goal

pub range-lines-requires : goal.range-lines-requires
range-lines-requires c =
    forward c.args.place.now c.in_ok-copy.field-0 c.in_ok-copy-2.field-0 c.args.number c.in_ok-copy.ensures
    c.in_ok-copy-2.ensures

pub returns-in-Some : goal.returns-in-Some
returns-in-Some c =
    last_some c.args.self.now.lines c.args.place.now c.in_ok-copy.field-0 c.in_ok-copy-2.field-0 c.args.number
    c.in_ok-copy.ensures c.in_ok-copy-2.ensures c.range-lines.result (c.range-lines.ensures.in_range tt)
    c.in-Some.line.now c.next_back.new.self c.in-Some.ensures.steps

pub returns-in-None : goal.returns-in-None
returns-in-None c =
    last_none c.args.self.now.lines c.args.place.now c.in_ok-copy.field-0 c.in_ok-copy-2.field-0 c.args.number
    c.in_ok-copy.ensures c.in_ok-copy-2.ensures c.range-lines.result (c.range-lines.ensures.in_range tt)
    c.in-None.ensures.steps.0
