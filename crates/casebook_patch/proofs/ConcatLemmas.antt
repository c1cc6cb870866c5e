-- The lines of a text have all its bytes.
use Rattle.std.proofs.Common.{◌≡◌, ◌∷◌, ℕ, List, [], true, false, Some, refl, ap, ◌∙◌, cond}
use Rattle.std.proofs.Common.{nat_eq, map}
use Rattle.std.specs.Prelude.{option_map}
use Rattle.std.specs.List.{concat}
use Rattle.casebook_patch.specs.Lines.{IsText, grown, lines_of}
use Rattle.casebook_patch.specs.Parts.{PartValue, patched, turned}
use Rattle.casebook_patch.specs.Changes.{AreBetween, bytes_after}

concat-grown : (b : ℕ) (lines : List (List ℕ)) → concat (grown b lines) ≡ b ∷ concat lines
concat-grown b [] = refl
concat-grown b (line ∷ lines) = refl

pub concat-lines_of : (bytes : List ℕ) → concat (lines_of bytes) ≡ bytes
concat-lines_of [] = refl
concat-lines_of (b ∷ bytes) =
    elim (nat_eq b 10) as (λ t. concat (cond t ((b ∷ []) ∷ lines_of bytes) (grown b (lines_of bytes))) ≡ b ∷ bytes) [
      | true ↦ ap (λ bs. b ∷ bs) (concat-lines_of bytes)
      | false ↦ concat-grown b (lines_of bytes) ∙ ap (λ bs. b ∷ bs) (concat-lines_of bytes)
    ]

made_bytes : (parts : List PartValue) (old new : List ℕ) → patched 0 parts (lines_of old) ≡ Some (lines_of new)
    → bytes_after parts old ≡ Some new
made_bytes parts old new made = ap (option_map concat) made ∙ ap Some (concat-lines_of new)

pub between : (old new : List ℕ) (parts : List PartValue) (old_lines new_lines : List (List ℕ)) → IsText old → IsText new
    → old_lines ≡ lines_of old → new_lines ≡ lines_of new
    → patched 0 parts old_lines ≡ Some new_lines → patched 0 (map turned parts) new_lines ≡ Some old_lines
    → AreBetween old new parts
between old new parts old_lines new_lines old_text new_text old_is new_is forward backward = record {
  old_text = old_text;
  new_text = new_text;
  forward = made_bytes parts old new (rw (old_is, new_is) at forward);
  backward = made_bytes (map turned parts) new old (rw (old_is, new_is) at backward);
}
