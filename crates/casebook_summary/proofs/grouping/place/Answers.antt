use Rattle.casebook_summary.proofs.GroupLemmas.{placed_all, placed_values}
use Rattle.casebook_summary.proofs.grouping.place.Goals as goal

pub returns-clause-placed : goal.returns-clause-placed
returns-clause-placed c =
    placed_all c.args.firsts.now.entries c.insert.new.self.entries c.len-place.result c.args.notice.now
    c.in_ok-copy_notice.field-0 c.len-place.ensures.len c.in_ok-copy_notice.ensures c.in_ok-insert.ensures.entries
    c.requires

pub returns-clause-values : goal.returns-clause-values
returns-clause-values c =
    placed_values c.args.firsts.now.entries c.insert.new.self.entries c.len-place.result c.args.notice.now
    c.in_ok-copy_notice.field-0 c.len-place.ensures.len c.in_ok-copy_notice.ensures c.in_ok-insert.ensures.entries
    c.requires
