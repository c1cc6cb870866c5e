-- The changes that are left lead to what all lead to.
use Rattle.std.proofs.Common.{◌≡◌, drop, map}
use Rattle.casebook_typed.specs.Values.{change_value}
use Rattle.casebook_import.specs.Effects.{with_nodes}
use Rattle.casebook_import.proofs.effects.set_nodes.Given as goal

abbrev pub invariant-loop-change : goal.invariant-loop-change
invariant-loop-change l =
    with_nodes l.contents (map change_value (drop l.change-index l.changes)) l.effect
    ≡ with_nodes l.contents (map change_value l.changes) l.fn.effect
