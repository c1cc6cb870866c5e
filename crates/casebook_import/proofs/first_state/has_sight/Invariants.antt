-- Whether one of the paths that are left has a sight, as one of all has.
use Rattle.std.proofs.Common.{◌≡◌, drop}
use Rattle.std.specs.FinMap as finmap
use Rattle.std.specs.List.{list_any}
use Rattle.std.specs.Prelude.{is_some}
use Rattle.casebook_import.proofs.first_state.has_sight.Given as goal

abbrev pub invariant-loop-path : goal.invariant-loop-path
invariant-loop-path l =
    list_any (λ q. is_some (finmap.get l.sights q)) (drop l.path-index l.paths)
    ≡ list_any (λ q. is_some (finmap.get l.sights q)) l.paths
