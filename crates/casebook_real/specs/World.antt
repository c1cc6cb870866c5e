-- What typed lines really do, and what a repair of their recording takes for granted of it.
use Rattle.std.specs.Prelude.{◌≡◌, ℕ, List, [], ◌∷◌, Option, map, IsTrue}
use Rattle.std.specs.FinMap as finmap
use Rattle.std.specs.List.{All}
use Rattle.retro_tree.specs.Lawful.{IsLawful}
use Rattle.retro_tree.specs.Notes.{Holds}
use Rattle.retro_tree.specs.declared.state.State.{State}
use Rattle.retro_shell.specs.Line.{line}
use Rattle.retro_keep.specs.Recording.{script_line}
use Rattle.retro_keep.specs.Runs.{outcome}
use Rattle.retro_keep.specs.declared.edit.Edit.{Edit}
use Rattle.retro_keep.specs.declared.noted.Noted.{Noted}
use Rattle.retro_keep.specs.declared.script.ScriptLine.{ScriptLine}
use Rattle.casebook_real.specs.Lines.{Basis, Observed, Modelled, Unedited, Replaced, TypedLine, fate, placed}
use Rattle.casebook_real.specs.Lines.{texts_now}

-- what typed lines really make of states
abbrev pub Meaning : Type 0
Meaning = ScriptLine → State → State

-- the state after really running lines, one by one
abbrev pub run_all : Meaning → List ScriptLine → State → State
run_all real [] s = s
run_all real (typed ∷ lines) s = run_all real lines (real typed s)

-- a line can be run in a state: the state is lawful and has the line's session
pub record IsReady (sid : ℕ) (s : State) : Type 0 where
  pub lawful : IsLawful s
  pub known : IsTrue (finmap.contains_key s.sessions sid)

-- the notes of texts hold, those of each text in the state after the texts before it
abbrev pub HoldInTurn : List (ℕ × Noted) → State → Type 0
HoldInTurn [] s = Unit {0}
HoldInTurn (text ∷ texts) s =
    Holds text.1.notes s × HoldInTurn texts (line text.1.sid text.1.text s).0

-- a state is one in which the texts of a line do what the line did
abbrev pub HasBasis : Basis → List (ℕ × Noted) → State → Type 0
HasBasis Observed texts s = HoldInTurn texts s
HasBasis (Modelled notes) texts s = Holds notes s

-- In each such state in which the line can be run, it really does what its texts do.
abbrev pub DoesAsRecorded : Meaning → TypedLine → Type 0
DoesAsRecorded real l =
    (s : State) → IsReady l.typed.sid s → HasBasis l.basis l.texts s
    → real l.typed s ≡ (outcome (map script_line l.texts) s).0

-- ---- in a repair

-- the notes of a modelled line hold in a state
abbrev pub HasNotes : Basis → State → Type 0
HasNotes Observed t = Unit {0}
HasNotes (Modelled notes) t = Holds notes t

-- What is asked of the world, for lines that a repair runs from a state on, by what becomes of
-- them: a line that nothing edits does as it was recorded, wherever it has its basis; the notes of
-- such a modelled one hold in the repaired state before it; and a replaced line really does in the
-- repaired state before it what the texts do that run in the place of its own.
pub record World (real : Meaning) (edit : ℕ → Option Edit) (lines : List TypedLine) (first : State)
    : Type 0 where
  pub effects : All (λ l. fate edit l ≡ Unedited → DoesAsRecorded real l) lines
  pub modelled : All (λ p. fate edit p.line ≡ Unedited → HasNotes p.line.basis p.before)
      (placed edit lines first)
  pub runs : All (λ p. fate edit p.line ≡ Replaced
      → real p.line.typed p.before ≡ (outcome (texts_now edit p.line) p.before).0)
      (placed edit lines first)
