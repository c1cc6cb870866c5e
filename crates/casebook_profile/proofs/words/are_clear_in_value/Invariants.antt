use Rattle.std.proofs.Common.{◌≡◌, length, map}
use Rattle.std.specs.List.{list_all}
use Rattle.retro_syntax.specs.View.{piece_view}
use Rattle.casebook_profile.specs.Words as W
use Rattle.casebook_profile.specs.inner.Scopes.{scope_view}
use Rattle.casebook_profile.proofs.words.are_clear_in_value.Given as goal

abbrev pub invariant-loop-rest : goal.invariant-loop-rest
invariant-loop-rest l =
    list_all (W.is_clear_in_value (scope_view l.scope)) (map piece_view l.rest) ≡ list_all (W.is_clear_in_value (scope_view l.scope)) (map piece_view l.pieces)

abbrev pub decreases-loop-rest : goal.decreases-loop-rest
decreases-loop-rest l = length l.rest
