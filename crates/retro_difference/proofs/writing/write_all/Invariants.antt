-- What the loop keeps.
use Rattle.std.proofs.Common.{◌≡◌, reverse}
use Rattle.std.specs.FinMap as map
use Rattle.retro_difference.specs.inner.Write.{wrote_all}
use Rattle.retro_difference.specs.inner.Undo.{undone_all}
use Rattle.retro_difference.proofs.writing.write_all.Given as goal

abbrev pub invariant-loop-cell : goal.invariant-loop-cell
invariant-loop-cell l = record {
  undone : undone_all (reverse l.undos.items) l.overlay ≡ undone_all (reverse l.fn.undos.items) l.fn.overlay;
  rest : wrote_all l.cell-iterator l.overlay ≡ wrote_all (map.entries l.fn.writes) l.fn.overlay;
}
