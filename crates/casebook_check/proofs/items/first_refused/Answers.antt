use Rattle.std.proofs.Common.{◌≡◌, Some, true}
use Rattle.retro_value.specs.Borrowed.{value_data}
use Rattle.casebook_check.specs.Items.{item_refusal}
use Rattle.casebook_check.proofs.First.{found_at, sought_on}
use Rattle.casebook_check.proofs.items.first_refused.Goals as goal

pub returns-then-refused-clause-first : goal.returns-then-refused-clause-first
returns-then-refused-clause-first c =
    found_at (λ one. item_refusal c.args.kind c.args.key one ≡ Some c.args.refusal) value_data c.args.items.now
    c.loop-index.index _ c.index-items-index.result c.loop-index-test.true c.index-items-index.is
    (c.in_ok-refused.ensures.0 c.if-refused.true) c.loop-index.invariant

pub loop-index-preserved : goal.loop-index-preserved
loop-index-preserved c =
    sought_on (λ one. item_refusal c.args.kind c.args.key one ≡ Some c.args.refusal) value_data c.args.items.now
    c.loop-index.index _ c.index-items-index.result c.loop-index-test.true c.index-items-index.is
    (λ p. let yes : c.in_ok-refused.refused ≡ true = c.in_ok-refused.ensures.1 p in absurd (cc))
    c.loop-index.invariant
