use Rattle.std.specs.Prelude.{IfSome}
use Rattle.casebook_folder.specs.Steps.{after_steps}
use Rattle.casebook_folder.proofs.Leftover.{Along}
use Rattle.casebook_folder.proofs.remaining.rows_left.Given as goal

abbrev pub invariant-loop-row : goal.invariant-loop-row
invariant-loop-row g l =
    IfSome (g.F.Folder.first l.fn.folder) (λ first. Along l.rows l.left.items l.row-index (after_steps (g.F.Folder.made l.fn.folder) first))
