use Rattle.casebook_status.proofs.Ends.{ends_are}
use Rattle.casebook_status.proofs.recorded.ends_of.Goals as goal

pub returns-in-len2-up : goal.returns-in-len2-up
returns-in-len2-up c =
    ends_are c.args.lines.now c.first-item.result c.last-item.result _ _ c.in-len2-up.len_at_least
    c.first-item.is c.last-item.is
