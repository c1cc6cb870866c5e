-- All bytes so far are kept.
use Rattle.std.proofs.Common.{All}
use Rattle.std.specs.Prelude.{IfSome}
use Rattle.casebook_case.specs.Written.{IsKept}
use Rattle.casebook_case.proofs.importing.kept_of.Given as goal

abbrev pub invariant-loop-digest : goal.invariant-loop-digest
invariant-loop-digest g l =
    IfSome (g.S.SpoolSource.holds l.source) (λ files. All (IsKept files) l.all.items)
