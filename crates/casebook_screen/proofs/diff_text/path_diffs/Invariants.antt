-- The diffs so far, before any of those that are left.
use Rattle.std.proofs.Common.{ℕ, List, ◌++◌, drop}
use Rattle.casebook_screen.specs.Diffs.{AreParts, IsPathDiff}
use Rattle.casebook_screen.proofs.diff_text.path_diffs.Given as goal

abbrev pub invariant-loop-restoration : goal.invariant-loop-restoration
invariant-loop-restoration l =
    (rest : List (List ℕ)) → AreParts (λ x. IsPathDiff l.before l.after x.path) (drop l.restoration-index l.restorations) rest
    → AreParts (λ x. IsPathDiff l.before l.after x.path) l.restorations (l.lines.items ++ rest)
