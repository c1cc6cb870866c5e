use Rattle.std.proofs.Common.{nat_le, rules, ◌∙◌}
use Rattle.std.proofs.lemmas.List.Sorted.{IsPartitionedBy-leb, IsPartitionPoint-from_clause}
use Rattle.retro_history.proofs.Numbers.{item_at, first_by_place, non_decreasing}
use Rattle.retro_history.proofs.rising.first_above.Goals as goal

pub returns : goal.returns
returns c =
    let numbers = c.args.numbers.now in
    let after = c.args.after in
    let parted = IsPartitionPoint-from_clause (λ n. nat_le n after) numbers c.partition_point-index.result
    c.partition_point-index.ensures.partitioned
    (IsPartitionedBy-leb (λ n. n) numbers after (non_decreasing numbers c.requires))
    (λ a r g called. search rules) in
    c.copied.ensures
    ∙ item_at numbers c.partition_point-index.result c.get.result c.get.ensures.lookup
    ∙ first_by_place after numbers c.partition_point-index.result parted
