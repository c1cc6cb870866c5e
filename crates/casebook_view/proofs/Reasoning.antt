-- Chains of causes.
use Rattle.std.proofs.Common.{◌≡◌, ℕ, suc, List, [], ◌∷◌, ◌++◌, ap, sym, ◌∙◌}
use Rattle.std.proofs.Common.{Some, None}
use Rattle.std.proofs.lemmas.List.{append-nil, append_assoc}
use Rattle.casebook_view.specs.CaseLines.{reason_at}
use Rattle.casebook_view.specs.Reasons.{cause_in, chain_by, chain_from}
use Rattle.casebook_view.specs.declared.case_line.CaseLine.{CaseLine}

module _ (lines : List CaseLine) (left at : ℕ) (found all : List ℕ)
    (so_far : found ++ chain_from left lines at ≡ all) where
  pub chain_more : (k m : ℕ) → left ≡ suc k → cause_in (reason_at at lines) ≡ Some m
      → (found ++ m ∷ []) ++ chain_from k lines m ≡ all
  chain_more k m more cause =
      let next : chain_from left lines at ≡ m ∷ chain_from k lines m =
      ap (λ n. chain_from n lines at) more ∙ ap (λ o. chain_by o (chain_from k lines)) cause in
      append_assoc found (m ∷ []) (chain_from k lines m) ∙ ap (λ t. found ++ t) (sym next) ∙ so_far

  pub chain_stops : (k : ℕ) → left ≡ suc k → cause_in (reason_at at lines) ≡ None → found ≡ all
  chain_stops k more cause =
      let next : chain_from left lines at ≡ [] =
      ap (λ n. chain_from n lines at) more ∙ ap (λ o. chain_by o (chain_from k lines)) cause in
      sym (ap (λ t. found ++ t) next ∙ append-nil found) ∙ so_far

  pub chain_ends : left ≡ 0 → found ≡ all
  chain_ends none =
      sym (ap (λ n. found ++ chain_from n lines at) none ∙ append-nil found) ∙ so_far
