use Rattle.std.proofs.Common.{sym, ◌∙◌}
use Rattle.casebook_words.proofs.CutLemmas.{cut_at, cut_nowhere}
use Rattle.casebook_words.proofs.cut.cut_end.Goals as goal

pub returns-then-may_begin-clause-value : goal.returns-then-may_begin-clause-value
returns-then-may_begin-clause-value c =
    cut_at c.args.bytes.now c.args.limit c.loop-back.back c.saturating_sub-end.result c.loop-back-test.true c.loop-back.invariant
    c.saturating_sub-end.ensures (sym c.may_begin.ensures ∙ c.if-may_begin.true)

pub returns-clause-value : goal.returns-clause-value
returns-clause-value c =
    cut_nowhere c.args.bytes.now c.args.limit c.loop-back.back c.loop-back-test.false c.loop-back.invariant
