-- The texts of the pieces so far are appended, and the others are still to append.
use Rattle.std.proofs.Common.{ℕ, List, map, drop}
use Rattle.std.specs.Prelude.{string_bytes}
use Rattle.retro_tree.specs.declared.state.State.{State}
use Rattle.retro_local.specs.Runs.{Continues, Extends}
use Rattle.retro_syntax.specs.View.{piece_view}
use Rattle.retro_shell.specs.Expansion.{text_with}
use Rattle.retro_shell.proofs.expansion.push_pieces.Given as goal

abbrev pub invariant-loop-piece : goal.invariant-loop-piece
invariant-loop-piece g l = record {
  extends : Extends l.context.place.sid l.initial.local l.local;
  continues : Continues {X = State × List ℕ} l.initial.local l.local
      (λ s. (s, text_with l.context s (string_bytes l.initial.text) (map piece_view l.pieces)))
      (λ s. (s, text_with l.context s (string_bytes l.text) (map piece_view (drop l.piece-index l.pieces))));
}
