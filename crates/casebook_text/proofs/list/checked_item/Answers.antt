use Rattle.std.proofs.Common.{◌∙◌, sym}
use Rattle.casebook_text.proofs.ListLemmas.{accepted, not_accepted}
use Rattle.casebook_text.proofs.list.checked_item.Goals as goal

pub returns-then-has_any : goal.returns-then-has_any
returns-then-has_any c = λ lines all.
    accepted lines c.args.text.now c.in-Some.item c.in-Some.ensures
    (sym (c.has_any.ensures lines all) ∙ c.if-has_any.true)

pub returns-else-has_any : goal.returns-else-has_any
returns-else-has_any c = λ lines all.
    not_accepted lines c.args.text.now c.in-Some.item c.no_lines.result c.in-Some.ensures
    (sym (c.has_any.ensures lines all) ∙ c.if-has_any.false) c.no_lines.ensures
