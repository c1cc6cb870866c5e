use Rattle.std.proofs.Common.{sym, ◌∙◌}
use Rattle.casebook_words.proofs.Fronts.{lines_alike}
use Rattle.casebook_words.proofs.common_front.after_same.Goals as goal

pub returns-then-eq : goal.returns-then-eq
returns-then-eq c =
    lines_alike c.args.old.now c.args.new.now c.in-Some.one.rest.now c.in-Some-split_line.two.rest.now _ _
    c.in-Some.ensures.lines c.in-Some-split_line.ensures.lines (sym c.eq.ensures ∙ c.if-eq.true) c.in-Some.ensures.shorter
    c.in-Some-split_line.ensures.shorter
