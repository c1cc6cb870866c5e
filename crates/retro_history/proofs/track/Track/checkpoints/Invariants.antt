use Rattle.std.proofs.Common.{◌≡◌, ◌++◌, drop, map}
use Rattle.retro_history.specs.inner.Tracks.{checkpoint_numbers}
use Rattle.retro_history.specs.inner.Version.{version_value}
use Rattle.retro_history.proofs.track.Track.checkpoints.Given as goal

abbrev pub invariant-loop-version : goal.invariant-loop-version
invariant-loop-version l =
    l.numbers.items ++ checkpoint_numbers (map (version_value l.self-inside.buffer.items)
    (drop l.version-index l.self-inside.earlier.items))
    ≡ checkpoint_numbers (map (version_value l.self-inside.buffer.items) l.self-inside.earlier.items)
