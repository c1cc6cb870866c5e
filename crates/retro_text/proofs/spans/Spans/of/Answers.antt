use Rattle.std.proofs.Common.{◌++◌, ◌∷◌, [], length, drop, sym, ap, ◌∙◌, arith, rules, tests}
use Rattle.std.specs.List.{slice_split}
use Rattle.std.proofs.lemmas.List.{length_push}
use Rattle.std.proofs.lemmas.Iterator.Consumers.{YieldsList-turn, YieldsList-end}
use Rattle.std.proofs.lemmas.Iterator.Splits.{YieldsList-from_slice_split}
use Rattle.retro_text.specs.Spans.{is_separator, spans_after, spans_in}
use Rattle.retro_text.proofs.SpanSteps.{span_read, no_span, spans_read}
use Rattle.retro_text.proofs.spans.Spans.of.Goals as goal

pub loop-text-init : goal.loop-text-init
unfolding spans_in
loop-text-init c = search rules

pub returns-in_default : goal.returns-in_default
returns-in_default c =
    let spans = c.loop-text.spans.items in
    let texts = slice_split is_separator c.args.list.now in
    let n = length c.loop-text.yielded in
    let turn = YieldsList-turn (YieldsList-from_slice_split _ is_separator c.args.list.now (cc) (cc) (cc)
    (λ x r q k. search (rules, tests))) c.loop-text.yielded _
    c.loop-text.yielded_by _ _ c.in-Some.text c.in-Some.is c.next.ensures.steps in
    sym c.loop-text.invariant ∙ sym (no_span spans texts n c.in-Some.text.now turn.0 turn.1
    (sym c.in_default.is ∙ c.of.ensures))

pub loop-text-preserved : goal.loop-text-preserved
loop-text-preserved c =
    let spans = c.loop-text.spans.items in
    let texts = slice_split is_separator c.args.list.now in
    let n = length c.loop-text.yielded in
    let turn = YieldsList-turn (YieldsList-from_slice_split _ is_separator c.args.list.now (cc) (cc) (cc)
    (λ x r q k. search (rules, tests))) c.loop-text.yielded _
    c.loop-text.yielded_by _ _ c.in-Some.text c.in-Some.is c.next.ensures.steps in
    ap (λ all. spans_after all (drop (length (c.loop-text.yielded ++ c.in-Some.text ∷ [])) texts))
    c.in_ok-push.ensures.items
    ∙ ap (λ k. spans_after (spans ++ c.in-Some-of.span ∷ []) (drop k texts))
    (length_push c.loop-text.yielded c.in-Some.text)
    ∙ span_read spans texts n c.in-Some.text.now c.in-Some-of.span turn.0 turn.1 (sym c.in-Some-of.is ∙ c.of.ensures)
    ∙ c.loop-text.invariant

pub returns : goal.returns
returns c =
    let spans = c.loop-text.spans.items in
    let texts = slice_split is_separator c.args.list.now in
    let n = length c.loop-text.yielded in
    let end = YieldsList-end (YieldsList-from_slice_split _ is_separator c.args.list.now (cc) (cc) (cc)
    (λ x r q k. search (rules, tests))) c.loop-text.yielded _
    c.loop-text.yielded_by _ _ c.in-None.is c.next.ensures.steps in
    sym c.loop-text.invariant ∙ spans_read spans texts n (omega (arith, end.1))
