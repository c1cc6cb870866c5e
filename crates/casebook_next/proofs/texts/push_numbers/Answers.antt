use Rattle.std.proofs.Common.{◌≡◌, ◌++◌, ◌-◌, ◌∙◌, ap, arith}
use Rattle.std.specs.List.{range_with_len}
use Rattle.casebook_next.proofs.Ranges.{one_more}
use Rattle.casebook_next.proofs.texts.push_numbers.Goals as goal

pub loop-number-preserved : goal.loop-number-preserved
loop-number-preserved c =
    one_more c.args.numbers.now.items c.loop-number.numbers.items c.push.new.self.items c.args.first
    c.loop-number.number c.loop-number.auto.number c.loop-number.invariant c.in_ok-push.ensures.items

pub returns : goal.returns
returns c =
    let n = c.loop-number.number in
    let same : n ≡ c.args.end =
    omega (arith, c.loop-number-test.false, c.loop-number.auto.number-end c.requires) in
    c.loop-number.invariant
    ∙ ap (λ m. c.args.numbers.now.items ++ range_with_len c.args.first (m - c.args.first)) same
