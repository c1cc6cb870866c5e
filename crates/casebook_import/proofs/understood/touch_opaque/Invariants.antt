-- Whether one of the paths that are left touches such a text, as one of all does.
use Rattle.std.proofs.Common.{◌≡◌, drop}
use Rattle.casebook_import.specs.Understood.{touch_opaque}
use Rattle.casebook_import.proofs.understood.touch_opaque.Given as goal

abbrev pub invariant-loop-path : goal.invariant-loop-path
invariant-loop-path l =
    touch_opaque l.state (drop l.path-index l.paths) ≡ touch_opaque l.state l.paths
