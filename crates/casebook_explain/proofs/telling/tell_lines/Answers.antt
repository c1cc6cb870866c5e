use Rattle.std.proofs.Common.{◌+◌, rules, subst}
use Rattle.casebook_explain.specs.inner.HasTold.{HasTold}
use Rattle.std.proofs.lemmas.Result.{err_from_is_err_and}
use Rattle.casebook_explain.specs.Shelves.{with_shelves}
use Rattle.casebook_explain.proofs.Faulty.{session_unknown, stuck_given}
use Rattle.casebook_explain.proofs.ToldLines.{told_next}
use Rattle.casebook_explain.proofs.telling.tell_lines.Goals as goal

-- src/telling.rt:155:13
pub returns-then-not-has_session-clause-fault : goal.returns-then-not-has_session-clause-fault
returns-then-not-has_session-clause-fault c =
    session_unknown c.validate.new.self c.args.lines.items c.next.new.self.rest.items
    c.in-Some.line c.loop-line.place c.loop-line.told.items c.loop-line.state
    (subst (λ rest. HasTold c.validate.new.self c.args.lines.items rest c.loop-line.place
    c.loop-line.told.items c.loop-line.state) (search rules) c.loop-line.invariant.told)
    (search rules) (with_shelves 1 c.args.lines.items c.args.first.now c.args.first.now)
    (search rules)

-- src/telling.rt:157:19
pub returns-in_err-tell_line-clause-fault : goal.returns-in_err-tell_line-clause-fault
returns-in_err-tell_line-clause-fault c =
    let p =
    err_from_is_err_and c.from_residual-in_err-tell_line.result
    c.from_residual-in_err-tell_line.ensures.1 in
    rw (p.1, p.2)
    (stuck_given c.validate.new.self c.args.lines.items c.next.new.self.rest.items
    c.in-Some.line c.loop-line.place c.loop-line.told.items c.loop-line.state
    c.in_err-tell_line.field-0.0
    (subst (λ rest. HasTold c.validate.new.self c.args.lines.items rest c.loop-line.place
    c.loop-line.told.items c.loop-line.state) (search rules) c.loop-line.invariant.told)
    c.in_err-tell_line.ensures.fault
    (with_shelves 1 c.args.lines.items c.args.first.now c.args.first.now) (search rules))

-- src/telling.rt:152:5
pub loop-line-preserved : goal.loop-line-preserved
loop-line-preserved c = record {
  count = search rules;
  told =
      subst (λ told. HasTold c.validate.new.self c.args.lines.items c.next.new.self.rest.items
      (c.loop-line.place + 1) told c.tell_line.new.state) (search rules)
      (told_next c.validate.new.self c.args.lines.items c.next.new.self.rest.items c.in-Some.line
      c.loop-line.place c.loop-line.told.items c.in_ok-tell_line.field-0 c.loop-line.state
      c.tell_line.new.state
      (subst (λ rest. HasTold c.validate.new.self c.args.lines.items rest c.loop-line.place
      c.loop-line.told.items c.loop-line.state) (search rules) c.loop-line.invariant.told)
      c.in_ok-tell_line.ensures.told c.in_ok-tell_line.ensures.sound c.in_ok-tell_line.ensures.state
      c.in_ok-tell_line.ensures.lawful c.in_ok-tell_line.ensures.sessions (search rules));
}
