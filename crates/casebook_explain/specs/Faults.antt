-- What faults say.
use Rattle.std.specs.Prelude.{◌≡◌, ◌≤◌, ◌-◌, ◌^◌, ℕ, false, List, length, Option, None, Some}
use Rattle.std.specs.Prelude.{slice_get, take, ⊤}
use Rattle.std.specs.FinMap as finmap
use Rattle.retro_tree.specs.Lawful.{IsLawful}
use Rattle.retro_tree.specs.declared.state.State.{State}
use Rattle.casebook_stand_in.specs.Explained.{IsModelled}
use Rattle.casebook_explain.specs.Told.{AreTold, state_at_end}
use Rattle.casebook_explain.specs.declared.seen_line.SeenLine.{SeenLine}
use Rattle.casebook_explain.specs.declared.tell_fault.LineFault.{LineFault}
use Rattle.casebook_explain.specs.declared.tell_fault.LineFault.TheVariants as line_faults
use Rattle.casebook_explain.specs.declared.tell_fault.TellFault.{TellFault}
use Rattle.casebook_explain.specs.declared.tell_fault.TellFault.TheVariants as faults
use Rattle.casebook_explain.specs.declared.told.ToldLine.{ToldLine}

-- whether a line is there, and its session doesn't exist
abbrev pub HasUnknownSession : State → Option SeenLine → Type 0
HasUnknownSession first None = ⊥
HasUnknownSession first (Some line) = finmap.contains_key first.sessions line.effect.sid ≡ false

-- whether a line is there, and isn't modelled in the state before it
abbrev pub IsUnmodelled : Option SeenLine → State → Type 0
IsUnmodelled None s = ⊥
IsUnmodelled (Some line) s = IsModelled line.typed line.effect s → ⊥

-- The lines before a line can be told, as these lines, and then the line isn't modelled.
pub record IsStuck (first : State) (lines : List SeenLine) (before : ℕ) : Type 0 where
  pub told : List ToldLine
  pub are_told : AreTold (take before lines) told first
  pub unmodelled : IsUnmodelled (slice_get lines before) (state_at_end (take before lines) told first)

-- what is wrong with a line, by how many lines there are before it
abbrev pub IsLineFault : State → List SeenLine → ℕ → LineFault → Type 0
IsLineFault first lines before line_faults.UnknownSession =
    HasUnknownSession first (slice_get lines before)
IsLineFault first lines before (line_faults.Unwritten cell) = IsStuck first lines before
IsLineFault first lines before (line_faults.Unexplained cell) = IsStuck first lines before

-- What each fault says of the first state, which has the shelves of the lines, and of the lines.
abbrev pub IsTellFault : State → List SeenLine → TellFault → Type 0
IsTellFault first lines faults.NoMem = ⊤
IsTellFault first lines faults.LawlessState = IsLawful first → ⊥
IsTellFault first lines (faults.Line place fault) =
    (1 ≤ place) × IsLineFault first lines (place - 1) fault
IsTellFault first lines faults.TooManyLines = 2 ^ 32 ≤ length lines

-- What the fault of a line at a place says, if its session exists, in the state before it.
abbrev pub IsFaultAt : ℕ → SeenLine → State → TellFault → Type 0
IsFaultAt place line s faults.NoMem = ⊤
IsFaultAt place line s faults.LawlessState = ⊥
IsFaultAt place line s (faults.Line p line_faults.UnknownSession) = ⊥
IsFaultAt place line s (faults.Line p _) =
    (p ≡ place) × (IsModelled line.typed line.effect s → ⊥)
IsFaultAt place line s faults.TooManyLines = ⊥
