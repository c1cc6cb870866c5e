use Rattle.std.proofs.Common.{◌≡◌, length, map}
use Rattle.std.specs.List.{list_any}
use Rattle.retro_tree.specs.Order.{text_eq}
use Rattle.casebook_profile.proofs.scope.has_name.Given as goal

abbrev pub invariant-loop-rest : goal.invariant-loop-rest
invariant-loop-rest l =
    list_any (text_eq l.name) (map (λ n. n.now) l.rest) ≡ list_any (text_eq l.name) (map (λ n. n.now) l.names)

abbrev pub decreases-loop-rest : goal.decreases-loop-rest
decreases-loop-rest l = length l.rest
