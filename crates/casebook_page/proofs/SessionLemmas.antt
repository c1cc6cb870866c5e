-- Lines by session.
use Rattle.std.proofs.Common.{◌≡◌, ◌∙◌, ◌==◌, ℕ, Bool, true, false, cond, List, [], ◌∷◌, ◌++◌, Some, ap, map, refl, sym}
use Rattle.std.specs.BTreeMap.{BTreeMap, get, is_at}
use Rattle.std.specs.Cmp.{unsigned_ties}
use Rattle.std.specs.List.{filter}
use Rattle.std.specs.Option.{option_map, unwrap_or}
use Rattle.std.specs.Ordering.{nat_cmp}
use Rattle.std.proofs.lemmas.Bool.{eqb-true}
use Rattle.std.proofs.lemmas.List.{append-nil, map-append}
use Rattle.casebook_page.specs.declared.session_lines.Placed.{Placed}
use Rattle.casebook_page.specs.inner.SessionLines.{is_of, line_in}

-- a line was added to its session
module _ {V : Type 0} (items : V → List Placed) where
  pub grown : (old new : BTreeMap ℕ V) (placed : Placed) (n : ℕ) (v : V)
      → ((q : ℕ) → get nat_cmp new q ≡ cond (is_at (nat_cmp placed.line.session) q) (Some v) (get nat_cmp old q))
      → items v ≡ unwrap_or (option_map items (get nat_cmp old placed.line.session)) [] ++ placed ∷ []
      → map line_in (unwrap_or (option_map items (get nat_cmp new n)) [])
      ≡ map line_in (unwrap_or (option_map items (get nat_cmp old n)) []) ++ filter (is_of n) (placed.line ∷ [])
  grown old new placed n v updates is =
      ap (λ e. map line_in (unwrap_or (option_map items e) [])) (updates n)
      ∙ ap (λ b. map line_in (unwrap_or (option_map items (cond b (Some v) (get nat_cmp old n))) []))
      (sym (unsigned_ties placed.line.session n))
      ∙ by_test (placed.line.session == n) refl
    where
      by_test : (b : Bool) → (placed.line.session == n) ≡ b
          → map line_in (unwrap_or (option_map items (cond b (Some v) (get nat_cmp old n))) [])
          ≡ map line_in (unwrap_or (option_map items (get nat_cmp old n)) []) ++ cond b (placed.line ∷ []) []
      by_test true e =
          ap (map line_in) is
          ∙ map-append line_in (unwrap_or (option_map items (get nat_cmp old placed.line.session)) []) (placed ∷ [])
          ∙ ap (λ m. map line_in (unwrap_or (option_map items (get nat_cmp old m)) []) ++ placed.line ∷ [])
          (eqb-true placed.line.session n e)
      by_test false e = sym (append-nil (map line_in (unwrap_or (option_map items (get nat_cmp old n)) [])))
