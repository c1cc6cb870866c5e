-- Which text of a recording is the first that has to be run for real. `observed` says of each
-- number whether it is that of a text of an observed line.
use Rattle.std.specs.Prelude.{◌≡◌, ◌≤◌, ℕ, Bool, ◌&&◌, List, ◌∷◌, ◌++◌, Option, Some, None}
use Rattle.std.specs.Prelude.{IsTrue, is_none, option_map}
use Rattle.std.specs.List.{All, find}
use Rattle.retro_tree.specs.Notes.{Holds}
use Rattle.retro_keep.specs.declared.edit.Edit.{Edit}
use Rattle.retro_redo.specs.Moments.{Moment}
use Rattle.retro_redo.specs.Repair.{is_verdict}
use Rattle.retro_redo.specs.declared.repair.Repair.{Repair}
use Rattle.retro_redo.specs.declared.verdict.SettledLine.{SettledLine}
use Rattle.retro_redo.specs.declared.verdict.Verdict.TheVariants.{Redone}

-- ---- by verdicts

-- whether a text has to be run for real: the repair ran it again, no edit replaces it, and it is
-- one of an observed line
abbrev pub must_be_run : (ℕ → Option Edit) → (ℕ → Bool) → SettledLine → Bool
must_be_run edit observed l =
    is_verdict Redone l.verdict && is_none (edit l.number) && observed l.number

-- the number of the first one of some texts that has to be run for real
abbrev pub first_to_run : (ℕ → Option Edit) → (ℕ → Bool) → List SettledLine → Option ℕ
first_to_run edit observed lines = option_map (λ l. l.number) (find (must_be_run edit observed) lines)

abbrev pub next_to_run : (ℕ → Option Edit) → (ℕ → Bool) → Repair → Option ℕ
next_to_run edit observed repair = first_to_run edit observed repair.lines.items

-- a number is that of the next text that has to be run for real or is below it, or there is none
abbrev pub IsUpTo : Option ℕ → ℕ → Type 0
IsUpTo None n = Unit {0}
IsUpTo (Some next) n = n ≤ next

-- ---- by notes

-- A text has to be run for real: it is an observed one that nothing edits, and one of its notes,
-- needs included, doesn't hold in the repaired state before it.
pub record MustBeRun (edit : ℕ → Option Edit) (observed : ℕ → Bool) (m : Moment) : Type 0 where
  pub named : IsTrue (observed m.number)
  pub unedited : edit m.number ≡ None
  pub fails : ¬ (Holds m.noted.notes m.repaired)

-- If a text is an observed one that nothing edits, its notes hold in the repaired state before it.
abbrev pub Stands : (ℕ → Option Edit) → (ℕ → Bool) → Moment → Type 0
Stands edit observed m =
    IsTrue (observed m.number) → edit m.number ≡ None → Holds m.noted.notes m.repaired

-- a number is that of the first text that has to be run for real: all texts before it stand
pub record IsFirst (edit : ℕ → Option Edit) (observed : ℕ → Bool) (ms : List Moment) (n : ℕ) : Type 0 where
  pub before : List Moment
  pub moment : Moment
  pub later : List Moment
  pub parts : ms ≡ before ++ moment ∷ later
  pub number : moment.number ≡ n
  pub stand : All (Stands edit observed) before
  pub must : MustBeRun edit observed moment

-- the number of the first text that has to be run for real, or None if all texts stand
abbrev pub IsNext : (ℕ → Option Edit) → (ℕ → Bool) → List Moment → Option ℕ → Type 0
IsNext edit observed ms None = All (Stands edit observed) ms
IsNext edit observed ms (Some n) = IsFirst edit observed ms n
