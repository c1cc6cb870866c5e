-- Texts and paths that are found equal are one.
use Rattle.std.proofs.Common.{◌≡◌, ◌↔◌, ℕ, List, sym, ap, ◌∙◌}
use Rattle.std.specs.Prelude.{IsTrue}
use Rattle.std.specs.Cmp.Lexicographic.{nat_list_eq_equiv}
use Rattle.retro_tree.specs.Order.{text_eq, path_eq, path_equiv, path_exact, path_ties}
use Rattle.retro_tree.specs.Path.{PathValue}
use Rattle.retro_tree.proofs.Small.{tied, same_text}

pub texts_same : (x y : List ℕ) → IsTrue (text_eq x y) ↔ (x ≡ y)
texts_same x y = (same_text x y, λ e. ap (λ z. text_eq z y) e ∙ nat_list_eq_equiv.refl y)

pub paths_same : (x y : PathValue) → IsTrue (path_eq x y) ↔ (x ≡ y)
paths_same x y = (
  λ e. path_exact x y (tied _ (sym (path_ties x y) ∙ e)),
  λ e. ap (λ z. path_eq z y) e
      ∙ path_equiv.refl y,
)

pub ruleset sames = (texts_same, paths_same)
