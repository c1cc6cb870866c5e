use Rattle.std.proofs.Common.{string_bytes}
use Rattle.std.specs.Str.Iter.{chars_rest}
use Rattle.casebook_text.proofs.HtmlLemmas.{all_escaped, no_markup, unescapes}
use Rattle.casebook_text.proofs.html.escape.Goals as goal

pub returns-clause-value : goal.returns-clause-value
returns-clause-value c =
    all_escaped c.args.text.now (string_bytes c.loop-c.html) (chars_rest c.loop-c.c-iterator) c.in-None.ensures.steps.0.0
    c.loop-c.invariant

pub returns-clause-no_markup : goal.returns-clause-no_markup
returns-clause-no_markup c = no_markup c.args.text.now (string_bytes c.loop-c.html) (returns-clause-value c)

pub returns-clause-unescapes : goal.returns-clause-unescapes
returns-clause-unescapes c = unescapes c.args.text.now (string_bytes c.loop-c.html) (returns-clause-value c)
