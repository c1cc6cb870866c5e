use Rattle.std.proofs.Common.{◌≡◌, length, map}
use Rattle.std.specs.List.{list_any}
use Rattle.retro_syntax.specs.View.{item_view}
use Rattle.casebook_profile.specs.Commands as C
use Rattle.casebook_profile.proofs.commands.has_input.Given as goal

abbrev pub invariant-loop-rest : goal.invariant-loop-rest
invariant-loop-rest l =
    list_any C.is_input (map item_view l.rest) ≡ list_any C.is_input (map item_view l.items)

abbrev pub decreases-loop-rest : goal.decreases-loop-rest
decreases-loop-rest l = length l.rest
