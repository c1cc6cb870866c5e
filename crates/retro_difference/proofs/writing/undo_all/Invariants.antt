-- What the loop keeps, and its measure.
use Rattle.std.proofs.Common.{◌≡◌, reverse, vec_len}
use Rattle.retro_difference.specs.inner.Undo.{undone_all}
use Rattle.retro_difference.proofs.writing.undo_all.Given as goal

abbrev pub invariant-loop-undo : goal.invariant-loop-undo
invariant-loop-undo l =
    undone_all (reverse l.undos.items) l.overlay ≡ undone_all (reverse l.fn.undos.items) l.fn.overlay

abbrev pub decreases-loop-undo : goal.decreases-loop-undo
decreases-loop-undo l = vec_len l.undos
