use Rattle.std.proofs.Common.{nat_le, nat_lt, rules}
use Rattle.std.proofs.lemmas.List.Sorted.{IsPartitionedBy-ltb, IsPartitionPoint-from_clause}
use Rattle.retro_keep.specs.Recording.{number_in}
use Rattle.retro_keep.proofs.Searching.{non_decreasing}
use Rattle.retro_keep.proofs.Trim.{at_least, others_last, passed_first}
use Rattle.retro_keep.proofs.split.count_before.Goals as goal

pub returns-clause-before : goal.returns-clause-before
returns-clause-before c =
    let lines = c.args.lines.now in
    let number = c.args.number in
    let parted = IsPartitionPoint-from_clause (λ l. nat_lt l.0 number) lines c.partition_point.result
    c.partition_point.ensures.partitioned
    (IsPartitionedBy-ltb number_in lines number (non_decreasing number_in lines c.requires))
    (λ a r g called. search rules) in
    passed_first (λ l. nat_lt l.0 number) (λ l. nat_le number l.0) (λ l. at_least number l.0) lines
    c.partition_point.result c.partition_point.ensures.bound parted.0 parted.1

pub returns-clause-after : goal.returns-clause-after
returns-clause-after c =
    let lines = c.args.lines.now in
    let number = c.args.number in
    let parted = IsPartitionPoint-from_clause (λ l. nat_lt l.0 number) lines c.partition_point.result
    c.partition_point.ensures.partitioned
    (IsPartitionedBy-ltb number_in lines number (non_decreasing number_in lines c.requires))
    (λ a r g called. search rules) in
    others_last (λ l. nat_lt l.0 number) (λ l. nat_le number l.0) (λ l. at_least number l.0) lines
    c.partition_point.result c.partition_point.ensures.bound parted.0 parted.1
