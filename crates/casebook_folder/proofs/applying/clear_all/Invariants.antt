use Rattle.std.proofs.Common.{◌≡◌}
use Rattle.std.specs.Prelude.{IfSome}
use Rattle.std.proofs.Math.ListN.{take}
use Rattle.casebook_folder.specs.Parts.{HaveNoParts, PartsStayBesides}
use Rattle.casebook_folder.proofs.applying.clear_all.Given as goal

abbrev pub invariant-loop-row : goal.invariant-loop-row
invariant-loop-row g l = record {
  same : g.F.Folder.first l.folder ≡ g.F.Folder.first l.fn.folder;
  made : g.F.Folder.made l.folder ≡ g.F.Folder.made l.fn.folder;
  parts : IfSome (g.F.Folder.first l.fn.folder) (λ first. PartsStayBesides l.rows
      (g.F.Folder.parts l.fn.folder) (g.F.Folder.parts l.folder));
  none : IfSome (g.F.Folder.first l.fn.folder) (λ first. HaveNoParts (g.F.Folder.parts l.folder)
      (take l.row-index l.rows));
}
