use Rattle.casebook_text.proofs.LineSetLemmas.{all_of}
use Rattle.casebook_text.proofs.line_set.LineSet.of.Goals as goal

pub returns : goal.returns
returns c =
    all_of c.args.lines.now c.in_ok-in_order.field-0 c.in_ok-in_order_of_sessions.field-0 c.in_ok-in_order.ensures
    c.in_ok-in_order_of_sessions.ensures
