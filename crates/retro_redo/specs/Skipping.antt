-- Lines that a repair keeps without reading them.
use Rattle.std.specs.Prelude.{◌≡◌, ◌⊎◌, ◌≤◌, ℕ, zero, suc, List, [], ◌∷◌, ◌++◌, Option, None, IsSome, drop, length}
use Rattle.std.specs.Prelude.{replicate}
use Rattle.retro_tree.specs.Exact.{IsExact}
use Rattle.retro_tree.specs.Notes.{after, AgreeOn}
use Rattle.retro_tree.specs.Overlay.{OverlayMap}
use Rattle.retro_tree.specs.declared.state.State.{State}
use Rattle.retro_keep.specs.declared.edit.Edit.{Edit}
use Rattle.retro_keep.specs.declared.noted.Noted.{Noted}
use Rattle.retro_difference.specs.Meeting.{Met}
use Rattle.retro_redo.specs.Progress.{ProgressValue, edit_in, recorded_now, repaired_now}
use Rattle.retro_redo.specs.declared.step.Step.TheVariants.{Keep}

-- a repair stops at a line that is edited, and at one that uses a cell in which two states differ
abbrev pub IsStop : (ℕ → Option Edit) → ℕ × Noted → State → State → Type 0
IsStop edit l s t = IsSome (edit l.0) ⊎ Met l.1.notes s t

-- The first n lines are neither edited nor met, each in the states before it. The next one, if
-- there is one, is edited or met.
abbrev pub AreUnmet : (ℕ → Option Edit) → ℕ → List (ℕ × Noted) → State → State → Type 0
AreUnmet edit zero [] s t = Unit {0}
AreUnmet edit zero (l ∷ lines) s t = IsStop edit l s t
AreUnmet edit (suc n) [] s t = ⊥
AreUnmet edit (suc n) (l ∷ lines) s t =
    (edit l.0 ≡ None) × AgreeOn l.1.notes s t
    × AreUnmet edit n lines (after l.1.notes s) (after l.1.notes t)

-- the progress with some more lines, each of them kept
abbrev pub with_kept : ProgressValue → ℕ → ProgressValue
with_kept p n =
    record { recording = p.recording; edits = p.edits; choices = p.choices ++ replicate n Keep }

-- The next lines are kept, up to the first one that is edited or met. An overlay that was exact is
-- so before each of these lines, and after the last of them.
pub record IsSkip (p q : ProgressValue) : Type 0 where
  pub count : ℕ
  pub recording : q.recording ≡ p.recording
  pub edits : q.edits ≡ p.edits
  pub choices : q.choices ≡ p.choices ++ replicate count Keep
  pub unmet : AreUnmet (edit_in p) count (drop (length p.choices) p.recording.lines) (recorded_now p)
      (repaired_now p)
  pub exact : (n : ℕ) → n ≤ count → (overlay : OverlayMap) → IsExact overlay (recorded_now p) (repaired_now p)
      → IsExact overlay (recorded_now (with_kept p n)) (repaired_now (with_kept p n))
