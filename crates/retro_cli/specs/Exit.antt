-- How the program ends: the exit of a run, its status, and its line on standard error.
use Rattle.std.specs.Prelude.{ℕ, List, [], ◌++◌, Bool, true, false, Result, Ok, Err, codes}
use Rattle.std.specs.Prelude.{decimal}
use Rattle.retro_cli.specs.declared.ending.Ending.{Ending}
use Rattle.retro_cli.specs.declared.ending.Ending.TheVariants as endings
use Rattle.retro_cli.specs.declared.exit.Exit.{Exit}
use Rattle.retro_cli.specs.declared.exit.Exit.TheVariants as exits
use Rattle.retro_cli.specs.declared.stop.Stop.{Stop}
use Rattle.retro_cli.specs.declared.stop.Stop.TheVariants as stops

abbrev pub exit_of : Result Ending Stop → Exit
exit_of (Ok endings.Done) = exits.Done
exit_of (Ok endings.CheckNo) = exits.CheckNo
exit_of (Err stops.NoMem) = exits.OutOfMemory
exit_of (Err (stops.Refused number)) = exits.Refused number
exit_of (Err stops.ReadFailed) = exits.ReadFailed
exit_of (Err stops.WriteFailed) = exits.WriteFailed

abbrev pub status_of : Exit → ℕ
status_of exits.Done = 0
status_of exits.CheckNo = 4
status_of (exits.Refused number) = 1
status_of exits.OutOfMemory = 2
status_of exits.ReadFailed = 3
status_of exits.WriteFailed = 3

abbrev pub message_of : Exit → List ℕ
message_of exits.Done = []
message_of exits.CheckNo = []
message_of (exits.Refused number) = codes "retro: refused " ++ (decimal number ++ codes "\n")
message_of exits.OutOfMemory = codes "retro: out of memory\n"
message_of exits.ReadFailed = codes "retro: read failed\n"
message_of exits.WriteFailed = codes "retro: write failed\n"

-- whether an answer was written whole before such an exit
abbrev pub has_answered : Exit → Bool
has_answered exits.Done = true
has_answered exits.CheckNo = true
has_answered (exits.Refused number) = false
has_answered exits.OutOfMemory = false
has_answered exits.ReadFailed = false
has_answered exits.WriteFailed = false

-- whether nothing is written to the output before such an exit
abbrev pub writes_nothing : Exit → Bool
writes_nothing exits.Done = false
writes_nothing exits.CheckNo = false
writes_nothing (exits.Refused number) = true
writes_nothing exits.OutOfMemory = true
writes_nothing exits.ReadFailed = true
writes_nothing exits.WriteFailed = false
