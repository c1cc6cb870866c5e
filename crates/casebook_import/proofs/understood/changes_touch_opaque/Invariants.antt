-- Whether one of the changes that are left touches such a text, as one of all does.
use Rattle.std.proofs.Common.{◌≡◌, drop, map}
use Rattle.casebook_typed.specs.Values.{change_value}
use Rattle.casebook_import.specs.Understood.{touch_opaque}
use Rattle.casebook_import.proofs.understood.changes_touch_opaque.Given as goal

abbrev pub invariant-loop-change : goal.invariant-loop-change
invariant-loop-change l =
    touch_opaque l.state (map (λ change. change.path) (map change_value (drop l.change-index l.changes)))
    ≡ touch_opaque l.state (map (λ change. change.path) (map change_value l.changes))
