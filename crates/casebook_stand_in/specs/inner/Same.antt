-- Comparisons of two states, cell by cell.
use Rattle.std.specs.Prelude.{◌≡◌, ◌≢◌, List, [], ◌∷◌}
use Rattle.retro_tree.specs.Cell.{value}
use Rattle.retro_tree.specs.declared.cell.Cell.{Cell}
use Rattle.retro_tree.specs.declared.overlay_entry.OverlayEntry.{OverlayEntry}
use Rattle.retro_tree.specs.declared.state.State.{State}
use Rattle.casebook_stand_in.specs.declared.explain_error.ExplainError.{ExplainError}
use Rattle.casebook_stand_in.specs.declared.explain_error.ExplainError.TheVariants as errors

-- two states have the same value in the cell of each entry
abbrev pub AreSame : State → State → List (Cell × OverlayEntry) → Type 0
AreSame s t [] = Unit {0}
AreSame s t (e ∷ es) = (value e.0 s ≡ value e.0 t) × AreSame s t es

-- an error names a cell in which two states differ
abbrev pub NamesUnlike : ExplainError → State → State → Type 0
NamesUnlike errors.NoMem s t = Unit {0}
NamesUnlike (errors.Unexplained c) s t = value c s ≢ value c t
NamesUnlike (errors.Unwritten c) s t = ⊥
