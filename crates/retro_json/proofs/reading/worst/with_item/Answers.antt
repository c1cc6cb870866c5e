use Rattle.retro_json.proofs.Worst.{item_added, item_refused}
use Rattle.retro_json.proofs.reading.worst.with_item.Goals as goal

pub returns : goal.returns
returns g c =
    item_added (λ v. v.items) c.args.items c.args.item c.in-Ok.value.0 c.push.new.self c.in-Ok.value.1 c.in-Ok.ensures
    c.in_ok-push.ensures.items

pub returns-in-Err : goal.returns-in-Err
returns-in-Err g c = item_refused (λ v. v.items) c.args.items c.args.item c.in-Err.refusal c.in-Err.ensures
