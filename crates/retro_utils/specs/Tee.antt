-- `tee` (XCU tee).
use Rattle.std.specs.Prelude.{ℕ, List, [], ◌∷◌, ◌++◌, map, Result, Ok, Err, codes}
use Rattle.retro_tree.specs.Path.{PathValue}
use Rattle.retro_tree.specs.declared.state.State.{State}
use Rattle.retro_utils.specs.Operands.{after_outcome, located, then_done}
use Rattle.retro_utils.specs.Outcomes.{nothing_done, with_fault, with_output}
use Rattle.retro_utils.specs.Output.{appended, opened}
use Rattle.retro_utils.specs.Reading.{input_in}
use Rattle.retro_utils.specs.declared.done.Done.{Done}
use Rattle.retro_utils.specs.declared.input.Input.{Input}
use Rattle.retro_utils.specs.declared.mode.Mode.{Mode}
use Rattle.retro_utils.specs.declared.opened.Opened.{Opened}
use Rattle.retro_utils.specs.declared.reason.Reason.{Reason}

-- the files that are open, as their operands and paths, and the faults on the other operands
abbrev pub Files : Type 0
Files = List (List ℕ × PathValue) × Done

abbrev pub files_view : Opened → Files
files_view o = (map (λ f. (f.0.now, f.1)) o.files.items, o.done)

abbrev pub path_opened : PathValue → State × Result (Unit {0}) Reason → State × Result PathValue Reason
path_opened p (s, Ok done) = (s, Ok p)
path_opened p (s, Err reason) = (s, Err reason)

abbrev pub open_at : Mode → Result PathValue Reason → State → State × Result PathValue Reason
open_at mode (Ok p) s = path_opened p (opened mode p s)
open_at mode (Err reason) s = (s, Err reason)

-- the file that an operand names opened, with its path
unfoldable pub open_operand : ℕ → Mode → List ℕ → State → State × Result PathValue Reason
open_operand sid mode operand s = open_at mode (located sid operand s) s

abbrev pub with_file : List ℕ → Result PathValue Reason → Files → Files
with_file operand (Ok p) (files, done) = (files ++ (operand, p) ∷ [], done)
with_file operand (Err reason) (files, done) = (files, with_fault (codes "tee") operand reason done)

abbrev pub then_files : List ℕ → Files → State × Result PathValue Reason
    → (Files → State → State × Files) → State × Files
then_files operand files (s, outcome) rest = rest (with_file operand outcome files) s

-- the file of each operand opened in turn
abbrev pub open_all : ℕ → Mode → List (List ℕ) → Files → State → State × Files
open_all sid mode [] files s = (s, files)
open_all sid mode (x ∷ xs) files s = then_files x files (open_operand sid mode x s) (open_all sid mode xs)

-- bytes appended to each open file in turn
abbrev pub append_all : List ℕ → List (List ℕ × PathValue) → Done → State → State × Done
append_all text [] done s = (s, done)
append_all text ((x, p) ∷ files) done s =
    then_done (after_outcome (codes "tee") x done (appended text p s)) (append_all text files)

-- the input is the output too; an empty one is written to no file
unfoldable pub write_all : List ℕ → Files → State → State × Done
write_all [] (files, done) s = (s, done)
write_all (b ∷ text) (files, done) s = append_all (b ∷ text) files (with_output (b ∷ text) done) s

abbrev pub tee_input : Input → State × Files → State × Done
tee_input input (s, files) = write_all (input_in input s) files s

-- the input is read once all files are open
unfoldable pub tee : ℕ → Mode → List (List ℕ) → Input → State → State × Done
tee sid mode operands input s = tee_input input (open_all sid mode operands ([], nothing_done 0) s)
