use Rattle.std.proofs.Common.{◌≡◌, ◌∙◌, map, true}
use Rattle.retro_value.specs.Borrowed.{value_data}
use Rattle.casebook_check.specs.Items.{IsStranger}
use Rattle.casebook_check.proofs.First.{sought_on}
use Rattle.casebook_check.proofs.sessions.first_stranger.Goals as goal

pub loop-index-preserved : goal.loop-index-preserved
loop-index-preserved c =
    sought_on (IsStranger (map value_data c.args.rows.now)) value_data c.args.items.now c.loop-index.index _
    c.index-items-index.result c.loop-index-test.true c.index-items-index.is
    (λ (sid, number, none). let yes : c.is_stranger.result ≡ true =
    c.is_stranger.ensures.1 (sid, number, c.in_ok-sids.ensures sid ∙ none) in absurd (cc))
    c.loop-index.invariant
