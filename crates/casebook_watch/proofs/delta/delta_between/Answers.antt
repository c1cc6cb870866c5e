use Rattle.std.proofs.Common.{◌≡◌, ◌∙◌, ap, rules}
use Rattle.casebook_watch.specs.Delta.{after_changes, delta}
use Rattle.casebook_watch.proofs.Leading.{delta_leads}
use Rattle.casebook_watch.proofs.delta.delta_between.Goals as goal

pub returns-clause-leads : goal.returns-clause-leads
returns-clause-leads c =
    let is : c.loop-path-2.changes.items
    ≡ delta c.args.before.now c.args.after.now = search rules in
    ap (after_changes c.args.before.now) is ∙ delta_leads c.args.before.now c.args.after.now
