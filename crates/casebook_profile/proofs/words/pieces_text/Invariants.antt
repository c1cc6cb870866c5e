-- The text so far, and that of the pieces that are left.
use Rattle.std.proofs.Common.{◌≡◌, drop, map}
use Rattle.std.specs.Prelude.{string_bytes, Some}
use Rattle.retro_syntax.specs.View.{piece_view}
use Rattle.casebook_profile.specs.Words as W
use Rattle.casebook_profile.proofs.words.pieces_text.Given as goal

abbrev pub invariant-loop-piece : goal.invariant-loop-piece
invariant-loop-piece l =
    W.text_before (Some (string_bytes l.text)) (W.pieces_text (map piece_view (drop l.piece-index l.pieces)))
    ≡ W.pieces_text (map piece_view l.pieces)
