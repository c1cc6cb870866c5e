-- The texts of modelled lines, by edits that are the same for each number.
use Rattle.std.proofs.Common.{◌≡◌, ℕ, List, [], ◌∷◌, Option, ap, map, refl}
use Rattle.std.specs.List.{filter}
use Rattle.retro_keep.specs.Recording.{RecordingValue}
use Rattle.retro_keep.specs.declared.edit.Edit.{Edit}
use Rattle.casebook_account.specs.declared.machine_line.MachineLine.{MachineLine}
use Rattle.casebook_next.specs.Next.{based_text, is_modelled, modelled_texts}

module _ (f g : ℕ → Option Edit) (same : (n : ℕ) → f n ≡ g n) where
  same_lines : (lines : List MachineLine) → filter (is_modelled f) lines ≡ filter (is_modelled g) lines
  same_lines [] = refl
  same_lines (l ∷ lines) = rw (same l.first, same_lines lines) refl

  pub same_texts : (r : RecordingValue) (lines : List MachineLine) → modelled_texts f r lines ≡ modelled_texts g r lines
  same_texts r lines = ap (map (based_text r)) (same_lines lines)
