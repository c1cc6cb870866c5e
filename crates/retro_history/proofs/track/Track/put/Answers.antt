use Rattle.std.proofs.Common.{sym, subst}
use Rattle.retro_history.specs.inner.Version.{RangesFit}
use Rattle.retro_history.specs.declared.track.Track.TheInside.{Inside}
use Rattle.retro_history.proofs.Buffers.{pushed_fits, whole_of, whole_fits}
use Rattle.retro_history.proofs.track.Track.put.Goals as goal
use Rattle.retro_history.proofs.track.Track.put.Goals.{then-self-number+in_ok-push, else-self-number}

pub invariant_of-self-2 : goal.invariant_of-self-2
invariant_of-self-2 c =
    elim c.if-self-number.branch [
      | then-self-number+in_ok-push w ↦
          subst (λ (a : Inside). RangesFit a.earlier.items (whole_of c.args.number c.args.value) a.buffer.items)
          (sym w.self-inside-is)
          (pushed_fits c.self.inside.earlier.items w.push.new.versions.items c.self.inside.last
          (whole_of c.args.number c.args.value) c.self.inside.buffer.items c.self.invariant
          w.in_ok-push.ensures.ok tt)
      | else-self-number w ↦
          subst (λ (a : Inside). RangesFit a.earlier.items (whole_of c.args.number c.args.value) a.buffer.items)
          (sym w.self-inside-is)
          (whole_fits c.self.inside.earlier.items c.self.inside.last c.self.inside.buffer.items c.args.number
          c.args.value c.self.invariant)
    ]
