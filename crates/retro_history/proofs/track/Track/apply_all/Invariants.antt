use Rattle.std.proofs.Common.{◌≡◌, drop, map}
use Rattle.retro_history.specs.inner.Tracks.{track_by}
use Rattle.retro_history.proofs.track.Track.apply_all.Given as goal

abbrev pub invariant-loop-change : goal.invariant-loop-change
invariant-loop-change l =
    track_by l.number (map (λ change. change.now) (drop l.change-index l.changes)) l.self
    ≡ track_by l.number (map (λ change. change.now) l.changes) l.fn.self
