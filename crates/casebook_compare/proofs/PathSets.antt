-- Sets of paths, with one path more.
use Rattle.std.proofs.Common.{◌≡◌, ◌∙◌, Bool, true, false, List, cond, refl, sym, ap}
use Rattle.std.specs.Prelude.{◌||◌}
use Rattle.std.specs.BTreeMap.{is_at}
use Rattle.std.specs.Cmp.{eq_by_cmp_equiv}
use Rattle.retro_path.specs.Order.{path_cmp, path_eq, path_ties, path_total}
use Rattle.retro_path.specs.Path.{PathValue}
use Rattle.casebook_compare.specs.inner.PathSets.{has_path}

added_test : (a b c : Bool) → a ≡ c → cond a true b ≡ (b || c)
added_test true true c e = refl
added_test true false c e = e
added_test false true c e = refl
added_test false false c e = e

-- whether the new path ties with another one
tie : (path p : PathValue) → is_at (path_cmp path) p ≡ path_eq p path
tie path p = (eq_by_cmp_equiv path_total).symm path p ∙ sym (path_ties p path)

pub added_path : (old new : List PathValue) (path twin : PathValue) → twin ≡ path
    → ((q : PathValue) → has_path q new ≡ cond (is_at (path_cmp twin) q) true (has_path q old)) → (p : PathValue)
    → has_path p new ≡ (has_path p old || path_eq p path)
added_path old new path twin same updates p =
    updates p
    ∙ added_test (is_at (path_cmp twin) p) (has_path p old) (path_eq p path)
    (ap (λ q. is_at (path_cmp q) p) same ∙ tie path p)
