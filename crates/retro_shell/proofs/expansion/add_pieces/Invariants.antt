-- The pieces so far are added, and the others are still to add.
use Rattle.std.proofs.Common.{map, drop}
use Rattle.retro_tree.specs.declared.state.State.{State}
use Rattle.retro_local.specs.Runs.{Continues, Extends}
use Rattle.retro_syntax.specs.View.{piece_view}
use Rattle.retro_shell.specs.Expansion.{add_pieces}
use Rattle.retro_shell.specs.Fields.{Fields}
use Rattle.retro_shell.proofs.expansion.add_pieces.Given as goal

abbrev pub invariant-loop-piece : goal.invariant-loop-piece
invariant-loop-piece g l = record {
  extends : Extends l.context.place.sid l.initial.local l.local;
  continues : Continues {X = State × Fields} l.initial.local l.local
      (λ s. (s, add_pieces l.context s (map piece_view l.pieces) l.initial.fields))
      (λ s. (s, add_pieces l.context s (map piece_view (drop l.piece-index l.pieces)) l.fields));
}
