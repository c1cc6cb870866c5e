use Rattle.std.proofs.Common.{◌≡◌, ◌++◌, List}
use Rattle.std.proofs.Math.ListN.{drop}
use Rattle.std.specs.Prelude.{IfSome}
use Rattle.casebook_folder.specs.Parts.{PartsStayBesides}
use Rattle.casebook_folder.specs.Rows.{writings}
use Rattle.casebook_folder.specs.Steps.{Step}
use Rattle.casebook_folder.proofs.applying.write_all.Given as goal

abbrev pub invariant-loop-row : goal.invariant-loop-row
invariant-loop-row g l = record {
  same : g.F.Folder.first l.folder ≡ g.F.Folder.first l.fn.folder;
  prefix : (done : List Step)
      × (g.F.Folder.made l.folder ≡ g.F.Folder.made l.fn.folder ++ done)
      × (writings l.rows ≡ done ++ writings (drop l.row-index l.rows));
  parts : IfSome (g.F.Folder.first l.fn.folder) (λ first. PartsStayBesides l.rows
      (g.F.Folder.parts l.fn.folder) (g.F.Folder.parts l.folder));
}
