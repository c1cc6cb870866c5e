use Rattle.std.proofs.Common.{◌≡◌, drop}
use Rattle.std.specs.List.{list_any}
use Rattle.retro_redo.specs.inner.Altered.{is_near, kept_paths}
use Rattle.retro_redo.proofs.altered_paths.AlteredPaths.is_kept_near.Given as goal

abbrev pub invariant-loop-i : goal.invariant-loop-i
invariant-loop-i l =
    list_any (is_near l.self) (kept_paths (drop l.i l.lines) (drop l.i l.choices))
    ≡ list_any (is_near l.self) (kept_paths l.lines l.choices)
