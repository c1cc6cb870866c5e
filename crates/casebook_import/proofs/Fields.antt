-- Rows of fields, made field by field.
use Rattle.std.proofs.Common.{◌≡◌, ap, sym, ℕ, List, [], ◌∷◌, ◌++◌, append_assoc, append-nil}
use Rattle.casebook_rows.specs.Rows.{row_text, tab}

pub one_field : (start a : List ℕ) → start ++ tab ∷ a ≡ row_text start (a ∷ [])
one_field start a = ap (λ t. start ++ tab ∷ t) (sym (append-nil a))

pub four_fields : (start a b c d : List ℕ)
    → (((start ++ tab ∷ a) ++ tab ∷ b) ++ tab ∷ c) ++ tab ∷ d
    ≡ row_text start (a ∷ b ∷ c ∷ d ∷ [])
four_fields start a b c d = simp (append_assoc, append-nil)
