use Rattle.std.proofs.Common.{◌≡◌, length, map}
use Rattle.std.specs.List.{list_any}
use Rattle.retro_syntax.specs.View.{piece_view}
use Rattle.casebook_profile.specs.Words as W
use Rattle.casebook_profile.proofs.words.any_has_other.Given as goal

abbrev pub invariant-loop-rest : goal.invariant-loop-rest
invariant-loop-rest l =
    list_any (W.has_other_piece) (map piece_view l.rest) ≡ list_any (W.has_other_piece) (map piece_view l.pieces)

abbrev pub decreases-loop-rest : goal.decreases-loop-rest
decreases-loop-rest l = length l.rest
