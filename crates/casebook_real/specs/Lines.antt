-- Lines that were typed on a machine, the texts that a recording has for each of them, and what
-- becomes of them in a repair. Edits are given by the numbers of texts.
use Rattle.std.specs.Prelude.{◌≡◌, ◌<◌, ◌≤◌, ℕ, Bool, true, false, List, [], ◌∷◌, Option, map, is_some, IsTrue}
use Rattle.std.specs.List.{All, flat_map, list_all, list_any}
use Rattle.retro_tree.specs.declared.note.Note.{Note}
use Rattle.retro_tree.specs.declared.state.State.{State}
use Rattle.retro_keep.specs.Edit.{edited}
use Rattle.retro_keep.specs.Recording.{RecordingValue, script_line}
use Rattle.retro_keep.specs.Runs.{outcome}
use Rattle.retro_keep.specs.Script.{have_sessions}
use Rattle.retro_keep.specs.declared.edit.Edit.{Edit}
use Rattle.retro_keep.specs.declared.noted.Noted.{Noted}
use Rattle.retro_keep.specs.declared.script.ScriptLine.{ScriptLine}

-- Where the texts of a line do what the line did. Those of an observed line do so where all that
-- they noted is as it was. The only text of a modelled line is the typed one, and does so where
-- these notes hold: they are about its session's functions, aliases and options.
pub data Basis : Type 0 where
  Observed : Basis
  Modelled : List Note → Basis

-- A line as it was typed, and the texts that a recording has for it, one after the other. If a
-- repair replaces them, the typed line is the one that the new ones stand for.
pub record TypedLine : Type 0 where
  pub typed : ScriptLine
  pub texts : List (ℕ × Noted)
  pub basis : Basis

-- the texts of lines, one after the other
abbrev pub texts_of : List TypedLine → List (ℕ × Noted)
texts_of = flat_map (λ l. l.texts)

abbrev pub session_of : TypedLine → ℕ
session_of l = l.typed.sid

-- whether all texts of an observed line are named as such, by their numbers
abbrev pub are_named : (ℕ → Bool) → Basis → List (ℕ × Noted) → Bool
are_named observed Observed texts = list_all (λ text. observed text.0) texts
are_named observed (Modelled notes) texts = true

-- Lines are those of a recording: their texts are its lines, in order, their sessions exist, and
-- the texts of all observed lines are named.
pub record AreLinesOf (r : RecordingValue) (observed : ℕ → Bool) (lines : List TypedLine) : Type 0 where
  pub texts : texts_of lines ≡ r.lines
  pub sessions : IsTrue (have_sessions r.first (map session_of lines))
  pub named : IsTrue (list_all (λ l. are_named observed l.basis l.texts) lines)

-- a number parts the texts of lines from those of the rest
pub record Parts (n : ℕ) (lines rest : List TypedLine) : Type 0 where
  pub before : All (λ text. text.0 < n) (texts_of lines)
  pub from : All (λ text. n ≤ text.0) (texts_of rest)

-- ---- in a repair

-- what becomes of a line: no text of it is edited, all are left out, or others run in their place
pub data Fate : Type 0 where
  Unedited : Fate
  LeftOut : Fate
  Replaced : Fate

-- the texts that run in the place of a line's
abbrev pub texts_now : (ℕ → Option Edit) → TypedLine → List ScriptLine
texts_now edit l = edited edit (map script_line l.texts)

abbrev pub is_edited : (ℕ → Option Edit) → List (ℕ × Noted) → Bool
is_edited edit texts = list_any (λ text. is_some (edit text.0)) texts

-- by whether one of its texts is edited, and the texts that run in their place
abbrev pub fate_by : Bool → List ScriptLine → Fate
fate_by false now = Unedited
fate_by true [] = LeftOut
fate_by true (text ∷ texts) = Replaced

abbrev pub fate : (ℕ → Option Edit) → TypedLine → Fate
fate edit l = fate_by (is_edited edit l.texts) (texts_now edit l)

abbrev pub unless_left_out : Fate → ScriptLine → List ScriptLine
unless_left_out Unedited typed = typed ∷ []
unless_left_out LeftOut typed = []
unless_left_out Replaced typed = typed ∷ []

-- all lines as they were typed, but those that are left out
abbrev pub remaining_lines : (ℕ → Option Edit) → List TypedLine → List ScriptLine
remaining_lines edit = flat_map (λ l. unless_left_out (fate edit l) l.typed)

-- a line, and the repaired state before it
pub record Placed : Type 0 where
  pub line : TypedLine
  pub before : State

-- each line with the repaired state before it, from a state on
abbrev pub placed : (ℕ → Option Edit) → List TypedLine → State → List Placed
placed edit [] t = []
placed edit (l ∷ lines) t =
    record { line = l; before = t } ∷ placed edit lines (outcome (texts_now edit l) t).0
