use Rattle.std.proofs.Common.{ap, ◌∙◌}
use Rattle.retro_history.specs.inner.Tracks.{TrackValue, version_grown}
use Rattle.retro_history.proofs.Buffers.{extended_fits, extended_track, with_place}
use Rattle.retro_history.proofs.track.Track.extend_last.Goals as goal

pub invariant_of-self : goal.invariant_of-self
invariant_of-self c =
    extended_fits c.self.inside.earlier.items c.self.inside.last c.self.inside.last c.self.inside.buffer.items
    c.extend.new.buffer.items c.self.invariant c.in_err-self-inside.ensures.kept c.in_err-self-inside.ensures.err

pub invariant_of-self-2 : goal.invariant_of-self-2
invariant_of-self-2 c =
    extended_fits c.self.inside.earlier.items c.self.inside.last
    (with_place c.in_ok-self-inside.field-0 c.self.inside.last) c.self.inside.buffer.items
    c.extend.new.buffer.items c.self.invariant c.in_ok-self-inside.ensures.kept c.in_ok-self-inside.ensures.end

pub returns : goal.returns
returns c =
    extended_track c.self.inside.earlier.items c.self.inside.last c.in_ok-self-inside.field-0
    c.self.inside.buffer.items c.extend.new.buffer.items c.args.more.now c.self.invariant
    c.in_ok-self-inside.ensures.kept c.in_ok-self-inside.ensures.value
    ∙ ap (λ (t : TrackValue). record { earlier = t.earlier; last = version_grown c.args.more.now t.last })
    c.self.view_is
