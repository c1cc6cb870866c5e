-- Scripts: a first state, and the lines that are run from it.
use Rattle.std.specs.Prelude.{ℕ, Bool, true, not, ◌&&◌, List, [], ◌∷◌, map, Option, Some, None, Result, Ok, Err, IsTrue}
use Rattle.std.specs.Prelude.{nat_lt, if◌then◌else◌, ⊤}
use Rattle.std.specs.List.{list_all}
use Rattle.std.specs.FinMap as map
use Rattle.retro_tree.specs.Limits.{within_limits}
use Rattle.retro_tree.specs.Lawful.{IsLawful, is_lawful}
use Rattle.retro_tree.specs.OutOfMemory.{UnlessOutOfMemory}
use Rattle.retro_tree.specs.declared.state.State.{State}
use Rattle.retro_keep.specs.declared.script.ScriptLine.{ScriptLine}
use Rattle.retro_keep.specs.declared.script.LinesFault.{LinesFault}
use Rattle.retro_keep.specs.declared.script.LinesFault.TheVariants as lines_faults
use Rattle.retro_keep.specs.declared.script.ScriptFault.{ScriptFault}
use Rattle.retro_keep.specs.declared.script.ScriptFault.TheVariants.{NumbersNotRising, UnknownSession, LawlessTree}
use Rattle.retro_keep.specs.declared.script.ScriptFault.TheVariants.{OverLimit, NoMem}

-- what a script holds
pub record ScriptValue : Type 0 where
  pub first : State
  pub lines : List ScriptLine

abbrev pub number_of : ScriptLine → ℕ
number_of line = line.number

abbrev pub sid_of : ScriptLine → ℕ
sid_of line = line.sid

-- each number is above the one before it, the first above n
abbrev pub rises_from : ℕ → List ℕ → Bool
rises_from n [] = true
rises_from n (number ∷ numbers) = nat_lt n number && rises_from number numbers

-- each session exists
abbrev pub have_sessions : State → List ℕ → Bool
have_sessions state sids = list_all (map.contains_key state.sessions) sids

-- whether lines with these numbers and sessions fit a first state, or the first refusal
abbrev pub lines_tested : State → List ℕ → List ℕ → Result ⊤ LinesFault
lines_tested first numbers sids =
    if not (rises_from 0 numbers) then Err lines_faults.NumbersNotRising
    else if not (have_sessions first sids) then Err lines_faults.UnknownSession
    else Ok tt

-- the script of a lawful state and lines, or the first refusal
unfoldable pub script_of_lines : State → List ScriptLine → Result ScriptValue LinesFault
script_of_lines first lines =
    if not (rises_from 0 (map number_of lines)) then Err lines_faults.NumbersNotRising
    else if not (have_sessions first (map sid_of lines)) then Err lines_faults.UnknownSession
    else Ok (record { first = first; lines = lines })

abbrev pub script_fault : LinesFault → ScriptFault
script_fault lines_faults.NumbersNotRising = NumbersNotRising
script_fault lines_faults.UnknownSession = UnknownSession

abbrev pub with_script_fault : Result ScriptValue LinesFault → Result ScriptValue ScriptFault
with_script_fault (Ok script) = Ok script
with_script_fault (Err fault) = Err (script_fault fault)

-- the script of any state and lines, or the first refusal
unfoldable pub script_of : State → List ScriptLine → Result ScriptValue ScriptFault
script_of first lines =
    if not (within_limits first) then Err OverLimit
    else if not (is_lawful first) then Err LawlessTree
    else with_script_fault (script_of_lines first lines)

-- what each script keeps: a lawful first state, numbers that rise from 1 on, and sessions that
-- exist
pub record IsScript (script : ScriptValue) : Type 0 where
  pub lawful : IsLawful script.first
  pub rising : IsTrue (rises_from 0 (map number_of script.lines))
  pub known : IsTrue (have_sessions script.first (map sid_of script.lines))

-- the refusal of a fault, or None if memory ran out
abbrev pub refused : ScriptFault → Option (Result ScriptValue ScriptFault)
refused NumbersNotRising = Some (Err NumbersNotRising)
refused UnknownSession = Some (Err UnknownSession)
refused LawlessTree = Some (Err LawlessTree)
refused OverLimit = Some (Err OverLimit)
refused NoMem = None

-- the script that a definition says, or its refusal
abbrev pub Makes : Result ScriptValue ScriptFault → Result ScriptValue ScriptFault → Type 0
Makes result meant = UnlessOutOfMemory Ok refused result meant
