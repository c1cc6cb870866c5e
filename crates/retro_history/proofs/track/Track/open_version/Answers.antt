use Rattle.std.proofs.Common.{sym, subst}
use Rattle.std.specs.Prelude.{length}
use Rattle.retro_history.specs.inner.Version.{EndsAt}
use Rattle.retro_history.proofs.Buffers.{pushed_fits}
use Rattle.retro_history.proofs.track.Track.open_version.Goals as goal

pub invariant_of-self-then-self-number : goal.invariant_of-self-then-self-number
invariant_of-self-then-self-number c =
    pushed_fits c.self.inside.earlier.items c.push.new.versions.items c.self.inside.last
    c.next-self-inside.result c.self.inside.buffer.items c.self.invariant c.in_ok-push.ensures.ok
    (subst (EndsAt (length c.self.inside.buffer.items)) (sym c.next-self-inside.ensures.place)
    c.self.invariant.last)
