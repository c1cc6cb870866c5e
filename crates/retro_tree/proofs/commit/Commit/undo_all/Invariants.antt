use Rattle.std.proofs.Common.{◌≡◌, reverse, vec_len}
use Rattle.retro_tree.specs.inner.CommitSteps.{undo_all, CanUndoAll}
use Rattle.retro_tree.proofs.commit.Commit.undo_all.Given as goal

abbrev pub invariant-loop-undo : goal.invariant-loop-undo
invariant-loop-undo l = record {
  can : CanUndoAll (reverse l.self.undos.items) l.state;
  same : undo_all (reverse l.self.undos.items) l.state ≡ undo_all (reverse l.fn.self.undos.items) l.fn.state;
}

abbrev pub decreases-loop-undo : goal.decreases-loop-undo
decreases-loop-undo l = vec_len l.self.undos
