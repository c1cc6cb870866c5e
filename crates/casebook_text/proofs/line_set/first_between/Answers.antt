use Rattle.casebook_text.proofs.LineSetLemmas.{none_between, none_from}
use Rattle.casebook_text.proofs.line_set.first_between.Goals as goal

pub returns-in_default-clause-none : goal.returns-in_default-clause-none
returns-in_default-clause-none c =
    none_between c.args.pairs.now c.args.first c.args.last c.range.result c.next.new.self c.in-Some.pair.now
    (c.range.ensures.in_range tt) c.in-Some.ensures.steps c.if-pair-last.false

pub returns-in_default-2-clause-none : goal.returns-in_default-2-clause-none
returns-in_default-2-clause-none c = λ pair from upto.
    none_from c.args.pairs.now c.args.first c.range.result (c.range.ensures.in_range tt)
    (rw c.in_default.is at c.next.ensures.steps).0 pair from
