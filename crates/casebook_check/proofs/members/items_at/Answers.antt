use Rattle.std.proofs.Common.{sym}
use Rattle.retro_value.specs.Borrowed.{value_data}
use Rattle.casebook_check.proofs.Lists.{items_there}
use Rattle.casebook_check.proofs.members.items_at.Goals as goal

pub returns-in-Some : goal.returns-in-Some
returns-in-Some c =
    items_there (value_data c.args.value.now) (value_data c.in-Some.list.now) c.args.key c.items_in.result
    (sym c.in-Some.ensures) c.items_in.ensures
