use Rattle.std.proofs.Common.{◌≡◌, ◌==◌, ◌+◌, ◌++◌, ◌∷◌, [], ◌<◌, false, length, sym, ap, ◌∙◌, arith, rules, tests, subst}
use Rattle.std.specs.List.{slice_split, join_with_byte}
use Rattle.std.proofs.lemmas.List.{length_push, append_assoc}
use Rattle.std.proofs.lemmas.List.FromFn.{length-enumerate_from}
use Rattle.std.proofs.lemmas.Iterator.Consumers.{YieldsList-at, YieldsList-from_enumerate, YieldsList-turn}
use Rattle.std.proofs.lemmas.Iterator.Consumers.{YieldsList-end}
use Rattle.std.proofs.lemmas.Iterator.Splits.{YieldsList-from_slice_split}
use Rattle.retro_text.specs.Cut.{selected_items, separated}
use Rattle.retro_text.specs.Spans.{any_contains}
use Rattle.retro_text.specs.inner.Rising.{Covers}
use Rattle.retro_text.proofs.FieldLemmas.{joined_all, joined_from, field_selected, field_skipped, fields_end}
use Rattle.retro_text.proofs.FieldLemmas.{enumerated}
use Rattle.retro_text.proofs.cut.push_fields.Goals as goal

pub loop-index-init : goal.loop-index-init
loop-index-init c =
    let fields = slice_split (λ b. b == c.args.delimiter) c.args.line.now in (
      ap (λ text. c.args.out.now.items ++ text) (joined_all c.args.delimiter (selected_items c.args.spans.now fields)),
      c.new-sweep.ensures,
    )

pub loop-index-preserved-then-has : goal.loop-index-preserved-then-has
loop-index-preserved-then-has c =
    let d = c.args.delimiter in
    let spans = c.args.spans.now in
    let fields = slice_split (λ b. b == d) c.args.line.now in
    let n = length c.loop-index.yielded in
    let out = c.loop-index.out.items in
    let turn = YieldsList-turn (YieldsList-at c.into_iter-index-iterator.ensures.into_iter_gives
    (YieldsList-from_enumerate (YieldsList-at c.enumerate-index-items.ensures.source
    (YieldsList-from_slice_split _ (λ b. b == d) c.args.line.now c.split.ensures.rest c.split.ensures.done
    c.split.ensures.closure (λ x r q k. search (rules, tests)))) c.enumerate-index-items.ensures.count))
    c.loop-index.yielded _ c.loop-index.yielded_by _ _ (c.in-Some.index, c.in-Some.field) c.in-Some.is
    c.next.ensures.steps in
    let inside : n < length fields = omega (arith, turn.0, length-enumerate_from 0 fields) in
    let item = enumerated fields 0 n (c.in-Some.index, c.in-Some.field.now) inside turn.1 in
    let at : c.in-Some.index ≡ n = omega (arith, item.0) in
    let field = c.in-Some.field.now in
    let next = c.has.ensures spans (subst (λ k. Covers spans k c.loop-index.sweep.furthest c.loop-index.sweep.rest.now)
    (sym at) c.loop-index.invariant.1) in
    let chosen = ap (any_contains spans) (sym at) ∙ sym next.0 ∙ c.if-has.true in (
      ap (λ text. text ++ joined_from d false spans
          (length (c.loop-index.yielded ++ (c.in-Some.index, c.in-Some.field) ∷ [])) fields)
          c.in_ok-push_field.ensures
          ∙ ap (λ k. (out ++ separated d c.loop-index.is_first field) ++ joined_from d false spans k fields)
          (length_push c.loop-index.yielded (c.in-Some.index, c.in-Some.field))
          ∙ field_selected out d c.loop-index.is_first spans fields n field inside item.1 chosen
          ∙ c.loop-index.invariant.0,
      subst (λ k. Covers spans k c.has.new.self.furthest c.has.new.self.rest.now)
          (ap (λ k. k + 1) at ∙ sym (length_push c.loop-index.yielded (c.in-Some.index, c.in-Some.field))) next.1,
    )

pub loop-index-preserved : goal.loop-index-preserved
loop-index-preserved c =
    let d = c.args.delimiter in
    let spans = c.args.spans.now in
    let fields = slice_split (λ b. b == d) c.args.line.now in
    let n = length c.loop-index.yielded in
    let out = c.loop-index.out.items in
    let turn = YieldsList-turn (YieldsList-at c.into_iter-index-iterator.ensures.into_iter_gives
    (YieldsList-from_enumerate (YieldsList-at c.enumerate-index-items.ensures.source
    (YieldsList-from_slice_split _ (λ b. b == d) c.args.line.now c.split.ensures.rest c.split.ensures.done
    c.split.ensures.closure (λ x r q k. search (rules, tests)))) c.enumerate-index-items.ensures.count))
    c.loop-index.yielded _ c.loop-index.yielded_by _ _ (c.in-Some.index, c.in-Some.field) c.in-Some.is
    c.next.ensures.steps in
    let inside : n < length fields = omega (arith, turn.0, length-enumerate_from 0 fields) in
    let item = enumerated fields 0 n (c.in-Some.index, c.in-Some.field.now) inside turn.1 in
    let at : c.in-Some.index ≡ n = omega (arith, item.0) in
    let next = c.has.ensures spans (subst (λ k. Covers spans k c.loop-index.sweep.furthest c.loop-index.sweep.rest.now)
    (sym at) c.loop-index.invariant.1) in
    let skipped = ap (any_contains spans) (sym at) ∙ sym next.0 ∙ c.if-has.false in (
      ap (λ k. out ++ joined_from d c.loop-index.is_first spans k fields)
          (length_push c.loop-index.yielded (c.in-Some.index, c.in-Some.field))
          ∙ field_skipped out d c.loop-index.is_first spans fields n inside skipped
          ∙ c.loop-index.invariant.0,
      subst (λ k. Covers spans k c.has.new.self.furthest c.has.new.self.rest.now)
          (ap (λ k. k + 1) at ∙ sym (length_push c.loop-index.yielded (c.in-Some.index, c.in-Some.field))) next.1,
    )

pub returns : goal.returns
returns c =
    let d = c.args.delimiter in
    let spans = c.args.spans.now in
    let fields = slice_split (λ b. b == d) c.args.line.now in
    let n = length c.loop-index.yielded in
    let out = c.loop-index.out.items in
    let end = YieldsList-end (YieldsList-at c.into_iter-index-iterator.ensures.into_iter_gives
    (YieldsList-from_enumerate (YieldsList-at c.enumerate-index-items.ensures.source
    (YieldsList-from_slice_split _ (λ b. b == d) c.args.line.now c.split.ensures.rest c.split.ensures.done
    c.split.ensures.closure (λ x r q k. search (rules, tests)))) c.enumerate-index-items.ensures.count))
    c.loop-index.yielded _ c.loop-index.yielded_by _ _ c.in-None.is c.next.ensures.steps in
    c.in_ok-push.ensures.items
    ∙ ap (λ text. text ++ 10 ∷ [])
    (fields_end out _ d c.loop-index.is_first spans fields n (omega (arith, end.1, length-enumerate_from 0 fields))
    c.loop-index.invariant.0)
    ∙ append_assoc c.args.out.now.items (join_with_byte d (selected_items spans fields)) (10 ∷ [])
