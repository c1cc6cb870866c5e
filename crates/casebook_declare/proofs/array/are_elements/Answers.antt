use Rattle.std.proofs.Common.{◌∙◌, ap, sym, length, List, ℕ, Bor}
use Rattle.std.specs.Prelude.{option_map}
use Rattle.casebook_declare.proofs.Elements.{elements_end, elements_more, elements_odd}
use Rattle.casebook_declare.proofs.Elements.{elements_over}
use Rattle.casebook_declare.proofs.array.are_elements.Goals as goal

pub returns-then-eq : goal.returns-then-eq
returns-then-eq c =
    let l = c.loop in
    sym (elements_end c.args.is_keyed l.is_first
    (length c.args.text.now) l.index l.rest.now c.loop-test.true
    (sym (rw c.as_slice.ensures at c.if-eq.ensures)))
    ∙ l.invariant

pub returns-in_default : goal.returns-in_default
returns-in_default c =
    let l = c.loop in
    sym (elements_odd c.args.is_keyed l.is_first
    (length c.args.text.now) l.index l.rest.now c.loop-test.true
    (sym (rw c.as_slice.ensures at c.if-eq.ensures))
    (sym c.in_ok-more.ensures ∙ ap (option_map (λ (r : Bor (List ℕ)). r.now)) c.in_default.is))
    ∙ l.invariant

pub loop-preserved : goal.loop-preserved
loop-preserved c =
    let l = c.loop in
    sym (elements_more c.args.is_keyed l.is_first
    (length c.args.text.now) l.index l.rest.now c.in-Some.more.now
    c.loop-test.true (sym (rw c.as_slice.ensures at c.if-eq.ensures))
    (sym c.in_ok-more.ensures ∙ ap (option_map (λ (r : Bor (List ℕ)). r.now)) c.in-Some.is))
    ∙ l.invariant

pub returns : goal.returns
returns c =
    let l = c.loop in
    sym (elements_over c.args.is_keyed l.is_first
    (length c.args.text.now) l.index l.rest.now c.loop-test.false)
    ∙ l.invariant
