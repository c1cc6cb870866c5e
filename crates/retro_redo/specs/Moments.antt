-- Two runs side by side: of all lines of a recording, and of its edited lines. Edits are given by
-- the numbers of lines.
use Rattle.std.specs.Prelude.{◌≡◌, ℕ, List, [], ◌∷◌, MatchBool, Option, Some, None, unwrap_or, if◌then◌else◌}
use Rattle.std.specs.List.{flat_map}
use Rattle.retro_tree.specs.Order.{text_eq}
use Rattle.retro_tree.specs.Notes.{AgreeOn, Holds}
use Rattle.retro_tree.specs.declared.note.Note.{Note}
use Rattle.retro_tree.specs.declared.state.State.{State}
use Rattle.retro_shell.specs.Line.{line}
use Rattle.retro_keep.specs.Edit.{text_run}
use Rattle.retro_keep.specs.declared.edit.Edit.{Edit}
use Rattle.retro_keep.specs.declared.edit.Edit.TheVariants.{Cancel, Replace}
use Rattle.retro_keep.specs.declared.noted.Noted.{Noted}
use Rattle.retro_difference.specs.Meeting.{Met}
use Rattle.retro_redo.specs.declared.compensation.Compensation.{Compensation}
use Rattle.retro_redo.specs.declared.verdict.SettledLine.{SettledLine}
use Rattle.retro_redo.specs.declared.verdict.Verdict.{Verdict}
use Rattle.retro_redo.specs.declared.verdict.Verdict.TheVariants.{Cancelled, Redone, Kept}

-- a recorded line, with the states before it in the run of all lines and in the repaired run
pub record Moment : Type 0 where
  pub number : ℕ
  pub noted : Noted
  pub recorded : State
  pub repaired : State

-- the text that a recorded line runs in the repaired run, or None if it runs none
abbrev pub text_now : (ℕ → Option Edit) → ℕ × Noted → Option (List ℕ)
text_now edit l = text_run (edit l.0) l.1.text

-- the text of a new run of a line: the one that it runs in the repaired run, or its own if it runs
-- none
abbrev pub new_text : (ℕ → Option Edit) → ℕ × Noted → List ℕ
new_text edit l = unwrap_or (text_now edit l) l.1.text

-- the state after a session has run a text, or none
abbrev pub state_of_run : ℕ → Option (List ℕ) → State → State
state_of_run sid None t = t
state_of_run sid (Some text) t = (line sid text t).0

-- the state after a line of the repaired run
abbrev pub next_repaired : (ℕ → Option Edit) → ℕ × Noted → State → State
next_repaired edit l t = state_of_run l.1.sid (text_now edit l) t

-- each line with the states before it, from a pair of states on
abbrev pub moments : (ℕ → Option Edit) → List (ℕ × Noted) → State → State → List Moment
moments edit [] s t = []
moments edit (l ∷ lines) s t =
    record { number = l.0; noted = l.1; recorded = s; repaired = t }
    ∷ moments edit lines (line l.1.sid l.1.text s).0 (next_repaired edit l t)

-- ---- what the two runs print

-- what a session prints that runs a text, or none
abbrev pub output_of_run : ℕ → Option (List ℕ) → State → List ℕ
output_of_run sid None t = []
output_of_run sid (Some text) t = (line sid text t).1

-- what a line prints in the run of all lines, and in the repaired run
abbrev pub printed_before : Moment → List ℕ
printed_before m = (line m.noted.sid m.noted.text m.recorded).1

abbrev pub printed_now : (ℕ → Option Edit) → Moment → List ℕ
printed_now edit m = output_of_run m.noted.sid (text_run (edit m.number) m.noted.text) m.repaired

-- a line that prints something else in the repaired run, with both texts
pub record CompensationValue : Type 0 where
  pub number : ℕ
  pub before : List ℕ
  pub now : List ℕ

-- the same, as code has it
abbrev pub compensation_view : Compensation → CompensationValue
compensation_view c = record { number = c.number; before = c.before.now; now = c.now.now }

-- a compensation, if the texts differ
abbrev pub compensation : ℕ → List ℕ → List ℕ → List CompensationValue
compensation number before now =
    if text_eq before now then [] else record { number = number; before = before; now = now } ∷ []

-- the lines whose output differs, in order, with both texts
abbrev pub compensations : (ℕ → Option Edit) → List Moment → List CompensationValue
compensations edit ms =
    flat_map (λ m. compensation m.number (printed_before m) (printed_now edit m)) ms

-- ---- which lines are met, and which are stale

-- A line with these notes is met if a cell of them differs between two states, and always if its
-- text is replaced. A cancelled line is never met.
abbrev pub IsMetBy : Option Edit → List Note → State → State → Type 0
IsMetBy None notes s t = Met notes s t
IsMetBy (Some (Cancel n)) notes s t = ⊥
IsMetBy (Some (Replace n text)) notes s t = Unit {0}

-- what is known of a line that isn't met
abbrev pub IsUnmetBy : Option Edit → List Note → State → State → Type 0
IsUnmetBy None notes s t = AgreeOn notes s t
IsUnmetBy (Some (Cancel n)) notes s t = Unit {0}
IsUnmetBy (Some (Replace n text)) notes s t = ⊥

-- A line with these notes is stale if they don't hold in a state, and always if its text is
-- replaced. A cancelled line is never stale.
abbrev pub IsStaleBy : Option Edit → List Note → State → Type 0
IsStaleBy None notes t = ¬ (Holds notes t)
IsStaleBy (Some (Cancel n)) notes t = ⊥
IsStaleBy (Some (Replace n text)) notes t = Unit {0}

-- a line is met by the two states before it
abbrev pub IsMet : (ℕ → Option Edit) → Moment → Type 0
IsMet edit m = IsMetBy (edit m.number) m.noted.notes m.recorded m.repaired

-- A line that runs no text is cancelled, the stale lines and no others are redone, and the rest is
-- kept: the lines that nothing edits and whose notes hold in the repaired state.
abbrev pub IsVerdict : (ℕ → Option Edit) → Moment → Verdict → Type 0
IsVerdict edit m Cancelled = text_run (edit m.number) m.noted.text ≡ None
IsVerdict edit m Redone = IsStaleBy (edit m.number) m.noted.notes m.repaired
IsVerdict edit m Kept = (edit m.number ≡ None) × Holds m.noted.notes m.repaired

-- what a repair did with a line: its number, the verdict on it, and whether it is met
abbrev pub IsSettledLine : (ℕ → Option Edit) → Moment → SettledLine → Type 0
IsSettledLine edit m l =
    (l.number ≡ m.number) × IsVerdict edit m l.verdict × MatchBool l.is_met (IsMet edit m) (¬ (IsMet edit m))

-- the same of each line, in order
abbrev pub AreSettledLines : (ℕ → Option Edit) → List Moment → List SettledLine → Type 0
AreSettledLines edit [] lines = lines ≡ []
AreSettledLines edit (m ∷ ms) [] = ⊥
AreSettledLines edit (m ∷ ms) (l ∷ lines) = IsSettledLine edit m l × AreSettledLines edit ms lines
