-- The texts so far, and those of the rows that are left.
use Rattle.std.proofs.Common.{◌≡◌, ◌++◌, drop, map}
use Rattle.casebook_account.specs.Lacks.{unseen_in}
use Rattle.casebook_account.specs.Machine.{printed}
use Rattle.casebook_account.proofs.lacks.unseen_in.Given as goal

abbrev pub invariant-loop-row : goal.invariant-loop-row
invariant-loop-row l =
    l.texts.items ++ map printed (map (λ row. row.now) (drop l.row-index l.row-items))
    ≡ unseen_in l.text
