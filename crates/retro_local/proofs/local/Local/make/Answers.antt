use Rattle.retro_local.proofs.Noting.{invariant_made}
use Rattle.retro_local.proofs.local.Local.make.Goals as goal

pub invariant_of-self-in-Ok : goal.invariant_of-self-in-Ok
invariant_of-self-in-Ok g c =
    let may = rw (← c.self.view_is) at c.requires in
    let applied = rw c.in_ok-copy.ensures at c.in-Ok.ensures.ok in
    invariant_made c.self.inside.notes.items c.push.new.self.items c.args.change c.self.inside.overlay c.apply.new.self
    (g.V.View.state c.self.inside.view.now) c.in_ok-push.ensures.items c.self.invariant may applied
