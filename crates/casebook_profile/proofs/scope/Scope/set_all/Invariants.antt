-- The variables so far, and those of the assignments that are left.
use Rattle.std.proofs.Common.{◌≡◌, drop, map}
use Rattle.casebook_profile.specs.Scope as S
use Rattle.casebook_profile.specs.inner.Scopes.{scope_view}
use Rattle.casebook_profile.proofs.scope.Scope.set_all.Given as goal

abbrev pub invariant-loop-assignment : goal.invariant-loop-assignment
invariant-loop-assignment l =
    S.with_set (map (λ a. a.name) (drop l.assignment-index l.all)) (scope_view l.self)
    ≡ S.with_set (map (λ a. a.name) l.all) (scope_view l.initial.self)
