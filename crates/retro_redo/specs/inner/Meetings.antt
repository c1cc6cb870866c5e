-- The numbers of edited lines, and whether an edited line is met.
use Rattle.std.specs.Prelude.{◌≡◌, ◌⊎◌, ℕ, ◌≤◌, Bool, true, false, List, Option, Some, None}
use Rattle.retro_keep.specs.Edit.{is_among}
use Rattle.retro_keep.specs.declared.edit.Edit.{Edit}
use Rattle.retro_keep.specs.declared.edit.Edit.TheVariants.{Cancel, Replace}

-- whether a line is met, by its edit and by whether it uses a cell in which two states differ
abbrev pub is_met_by : Option Edit → Bool → Bool
is_met_by None is_used = is_used
is_met_by (Some (Cancel n)) is_used = false
is_met_by (Some (Replace n text)) is_used = true

-- The edited numbers from one to another were added.
pub record AddsEdited (is_edited : ℕ → Bool) (from last : ℕ) (old new : List ℕ) : Type 0 where
  pub kept : (n : ℕ) → is_among old n ≡ true → is_among new n ≡ true
  pub only : (n : ℕ) → is_among new n ≡ true
      → (is_among old n ≡ true) ⊎ ((from ≤ n) × (n ≤ last) × (is_edited n ≡ true))
  pub added : (n : ℕ) → from ≤ n → n ≤ last → is_edited n ≡ true → is_among new n ≡ true
