use Rattle.std.proofs.Common.{◌≡◌, ◌≤◌, ◌++◌, length}
use Rattle.std.proofs.Math.ListN.{drop}
use Rattle.std.specs.Prelude.{IfSome}
use Rattle.casebook_folder.specs.Parts.{PartsStayBesides}
use Rattle.casebook_folder.specs.Rows.{removals}
use Rattle.casebook_folder.proofs.applying.remove_all.Given as goal

abbrev pub invariant-loop-left : goal.invariant-loop-left
invariant-loop-left g l = record {
  within : l.left ≤ length l.rows;
  same : g.F.Folder.first l.folder ≡ g.F.Folder.first l.fn.folder;
  made : g.F.Folder.made l.folder ≡ g.F.Folder.made l.fn.folder ++ removals (drop l.left l.rows);
  parts : IfSome (g.F.Folder.first l.fn.folder) (λ first. PartsStayBesides l.rows
      (g.F.Folder.parts l.fn.folder) (g.F.Folder.parts l.folder));
}

abbrev pub decreases-loop-left : goal.decreases-loop-left
decreases-loop-left g l = l.left
