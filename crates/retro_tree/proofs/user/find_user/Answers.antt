use Rattle.std.proofs.Common.{◌==◌, ◌+◌, length, drop, sym, ap, ◌∙◌, rules, tests, arith}
use Rattle.std.specs.List.{slice_split}
use Rattle.std.proofs.lemmas.List.{at_drop_all, length_push}
use Rattle.std.proofs.lemmas.Iterator.Consumers.{YieldsList-turn, YieldsList-end}
use Rattle.std.proofs.lemmas.Iterator.Splits.{YieldsList-from_slice_split}
use Rattle.retro_tree.specs.User.{find_user}
use Rattle.retro_tree.proofs.Users.{find_in, line_found, line_passed, at_line}
use Rattle.retro_tree.proofs.user.find_user.Goals as goal

pub returns-in-Some-2 : goal.returns-in-Some-2
unfolding find_user
returns-in-Some-2 c =
    let name = c.args.name.now in
    let lines = slice_split (λ b. b == 10) c.args.bytes.now in
    let turn = YieldsList-turn (YieldsList-from_slice_split _ _ c.args.bytes.now (cc) (cc) (cc)
    (λ x r q k. search (rules, tests))) c.loop-line.yielded _ c.loop-line.yielded_by _ _ c.in-Some.line
    c.in-Some.is c.next.ensures.steps in
    sym (line_found name c.in-Some.line.now (drop (length c.loop-line.yielded + 1) lines) c.in-Some-2.user
    (sym c.in_ok-user.ensures ∙ c.in-Some-2.is))
    ∙ sym (at_line name lines (length c.loop-line.yielded) c.in-Some.line.now turn)
    ∙ c.loop-line.invariant

pub loop-line-preserved : goal.loop-line-preserved
loop-line-preserved c =
    let name = c.args.name.now in
    let lines = slice_split (λ b. b == 10) c.args.bytes.now in
    let turn = YieldsList-turn (YieldsList-from_slice_split _ _ c.args.bytes.now (cc) (cc) (cc)
    (λ x r q k. search (rules, tests))) c.loop-line.yielded _ c.loop-line.yielded_by _ _ c.in-Some.line
    c.in-Some.is c.next.ensures.steps in
    ap (λ n. find_in name (drop n lines)) (length_push c.loop-line.yielded c.in-Some.line)
    ∙ sym (line_passed name c.in-Some.line.now (drop (length c.loop-line.yielded + 1) lines)
    (sym c.in_ok-user.ensures ∙ c.in_default.is))
    ∙ sym (at_line name lines (length c.loop-line.yielded) c.in-Some.line.now turn)
    ∙ c.loop-line.invariant

pub returns : goal.returns
unfolding find_user
returns c =
    let name = c.args.name.now in
    let lines = slice_split (λ b. b == 10) c.args.bytes.now in
    let end = YieldsList-end (YieldsList-from_slice_split _ (λ b. b == 10) c.args.bytes.now (cc) (cc) (cc)
    (λ x r q k. search (rules, tests))) c.loop-line.yielded _ c.loop-line.yielded_by _ _ c.in-None.is
    c.next.ensures.steps in
    sym (at_drop_all (find_in name) lines (length c.loop-line.yielded) (omega (arith, end.1))) ∙ c.loop-line.invariant
