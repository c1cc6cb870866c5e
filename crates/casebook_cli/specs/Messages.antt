-- Lines for standard error.
use Rattle.std.specs.Prelude.{ℕ, ◌==◌, List, [], ◌++◌, codes, decimal, if◌then◌else◌}
use Rattle.retro_json.specs.Numbers.{refusal_number}
use Rattle.retro_json.specs.declared.fault.Part.{Part}
use Rattle.retro_json.specs.declared.fault.Part.TheVariants as parts
use Rattle.retro_json.specs.declared.fault.Refusal.{Refusal}
use Rattle.retro_json.specs.declared.fault.Refusal.TheVariants as refusals
use Rattle.casebook_text.specs.SafeLine.{safe_bytes}
use Rattle.casebook_text.specs.declared.list_fault.ItemFault.{ItemFault}
use Rattle.casebook_text.specs.declared.list_fault.ItemFault.TheVariants as items
use Rattle.casebook_text.specs.declared.list_fault.ListFault.{ListFault}
use Rattle.casebook_text.specs.declared.list_fault.ListFault.TheVariants as lists
use Rattle.casebook_about.specs.declared.fault.AboutFault.{AboutFault}
use Rattle.casebook_about.specs.declared.fault.AboutFault.TheVariants as faults
use Rattle.casebook_about.specs.declared.fault.Part.TheVariants as about_parts
use Rattle.casebook_request.specs.Problems.{problem_words}
use Rattle.casebook_cli.specs.declared.exit.Exit.{Exit}
use Rattle.casebook_cli.specs.declared.exit.Exit.TheVariants as exits
use Rattle.casebook_folder_cli.specs.FileFaults.{fault_line}
use Rattle.casebook_recorder_cli.specs.Faults.{fault_line as recorder_line}
use Rattle.casebook_recording.specs.Refusals.{refusal_words as case_words}
use Rattle.casebook_repairs.specs.declared.documents.Hindrance.{Hindrance}
use Rattle.casebook_repairs.specs.declared.documents.Hindrance.TheVariants as hindrances
use Rattle.casebook_repairs.specs.declared.searched.SearchedPart.{SearchedPart}
use Rattle.casebook_repairs.specs.declared.searched.SearchedPart.TheVariants.{Text, Outputs}
use Rattle.casebook_repairs.specs.declared.stop.Stop.{Stop}
use Rattle.casebook_repairs.specs.declared.stop.Stop.TheVariants as stops

-- ---- in words

unfoldable pub searched_words : SearchedPart → List ℕ
searched_words Text = codes "--text: not a regular expression, or too large a one"
searched_words Outputs = codes "--shown: not a regular expression, or too large a one"

unfoldable pub part_words : Part → List ℕ
part_words parts.Document = codes "no object, or a key is missing"
part_words parts.Version = codes "its version isn't a number"
part_words parts.Tree = codes "a directory or file has a wrong form"
part_words parts.Sessions = codes "a session has a wrong form"
part_words parts.Lines = codes "a line has a wrong form"

unfoldable pub refusal_words : Refusal → List ℕ
refusal_words refusals.NumbersNotRising = codes "the numbers of lines don't rise"
refusal_words refusals.UnknownSession = codes "a line has a session that isn't listed"
refusal_words refusals.LawlessTree = codes "the files or a change of them aren't possible"
refusal_words refusals.OverLimit = codes "a name, a file or a value is too long"
refusal_words refusals.NotJson = codes "no JSON text"
refusal_words (refusals.WrongShape part) = part_words part
refusal_words refusals.UnknownKey = codes "a key isn't one of such a document"
refusal_words refusals.BadHex = codes "a text isn't pairs of hexadecimal digits"
refusal_words refusals.BadVersion = codes "a version that isn't known"

-- a text and a number
abbrev pub counted : List ℕ → ℕ → List ℕ
counted words number = words ++ decimal number

abbrev pub range_words : ℕ → ℕ → List ℕ
range_words n m = counted (codes "no line has a number from ") n ++ counted (codes " to ") m

unfoldable pub item_words : ItemFault → List ℕ
item_words items.NotAnItem = codes "not N, N-M, S:all, -N or -N-M"
item_words (items.NoLine n) = counted (codes "no line has the number ") n
item_words (items.EmptyRange n m) = range_words n m
item_words (items.EmptySession s) = counted (codes "no line is of session ") s

-- ---- lines

-- a text after the program's name
unfoldable pub said : List ℕ → List ℕ
said words = codes "casebook: " ++ words

-- a text about a document
unfoldable pub said_of : List ℕ → List ℕ → List ℕ
said_of name words = codes "casebook: " ++ safe_bytes name ++ codes ": " ++ words

-- the same without the program's name
unfoldable pub about : List ℕ → List ℕ → List ℕ
about name words = safe_bytes name ++ codes ": " ++ words

-- the number of a refusal
unfoldable pub number_words : ℕ → List ℕ
number_words number = codes " (refusal " ++ decimal number ++ codes ")"

-- why a document is refused, with the number of the refusal
unfoldable pub numbered_words : Refusal → List ℕ
numbered_words refusal = refusal_words refusal ++ number_words (refusal_number refusal)

unfoldable pub log_message : List ℕ → Refusal → List ℕ
log_message name refusal = said_of name (codes "not a log: ") ++ numbered_words refusal

-- why a repair is refused, by the number of the refusal
unfoldable pub repair_words : ℕ → List ℕ
repair_words number =
    if number == 21 then codes "no line has the number of a line to replace"
    else if number == 22 then codes "--cuts: no number, or a 0"
    else if number == 23 then codes "--workers: too many"
    else if number == 25 then codes "the log begins after a line to replace"
    else if number == 26 then codes "a line is to be cancelled or replaced twice"
    else codes "the repair is refused"

unfoldable pub repair_message : ℕ → List ℕ
repair_message number = said (repair_words number) ++ number_words number

unfoldable pub list_message : ListFault → List ℕ
list_message lists.NoMem = said (codes "out of memory")
list_message (lists.BadItem place fault) =
    said (codes "--cancel: item ") ++ decimal place ++ codes ": " ++ item_words fault

-- what is wrong with an about document
unfoldable pub about_words : AboutFault → List ℕ
about_words faults.NoMem = codes "out of memory"
about_words faults.NotJson = codes "no JSON text"
about_words faults.NotAbout = codes "no about document: \"about\" isn't 1"
about_words (faults.NotAList about_parts.Sessions) = codes "sessions: not a list"
about_words (faults.NotAList about_parts.Lines) = codes "lines: not a list"
about_words (faults.BadRow about_parts.Sessions place) = codes "sessions: not the number of a session and a name: row "
about_words (faults.BadRow about_parts.Lines place) = codes "lines: not the number of a line and a time: row "

-- where it is
abbrev pub about_place : AboutFault → List ℕ
about_place (faults.BadRow part place) = decimal place
about_place other = []

unfoldable pub about_message : List ℕ → AboutFault → List ℕ
about_message name fault = said_of name (about_words fault) ++ about_place fault

-- what hinders a document or a folder from being read
unfoldable pub hindrance_words : Hindrance → List ℕ
hindrance_words hindrances.Missing = codes "no such file"
hindrance_words hindrances.Directory = codes "a directory, not a file"
hindrance_words hindrances.NotPermitted = codes "reading it isn't permitted"
hindrance_words hindrances.Other = codes "can't be read"

-- why there is no answer
unfoldable pub stop_message : Stop → List ℕ
stop_message (stops.BadWords problem) = said (problem_words problem)
stop_message (stops.BadPattern searched) = said (searched_words searched)
stop_message stops.NoUser = said (codes "--user: no line is of a session with this name")
stop_message (stops.BadLog name refusal) = log_message name.now refusal
stop_message (stops.BadText name) = said_of name.now (codes "not UTF-8")
stop_message (stops.BadAbout name fault) = about_message name.now fault
stop_message (stops.BadTime number) = said (counted (codes "--about: no such time: line ") number)
stop_message (stops.BadList fault) = list_message fault
stop_message (stops.NoLine number) = said (counted (codes "--line: no line has the number ") number)
stop_message (stops.LineCancelled number) = said (counted (codes "--line: cancelled is line ") number)
stop_message (stops.UnknownOutput number) =
    said (counted (codes "--line: it isn't known what is printed by line ") number)
stop_message stops.NoFile = said (codes "PATH: there would be nothing at this path")
stop_message stops.NotAFile = said (codes "PATH: a directory would be at this path")
stop_message stops.NotKept = said (codes "PATH: what would be there isn't kept in the case")
stop_message (stops.BadRepair number) = repair_message number
stop_message stops.OutOfMemory = said (codes "out of memory")
stop_message (stops.ReadFailed name hindrance) = said_of name.now (hindrance_words hindrance)
stop_message (stops.NotADirectory name) = said_of name.now (codes "not a directory")
stop_message (stops.BadFile name fault) = said_of name.now (fault_line fault)
stop_message (stops.UndoFailed name) = said_of name.now (codes "this undo file can't be read or written")
stop_message (stops.BadUndo name) = said_of name.now (codes "not an undo file")
stop_message (stops.OtherUndo name) = said_of name.now (codes "the undo file of another restore")
stop_message (stops.FolderChanged name) = said_of name.now (codes "changed meanwhile; nothing was restored")
stop_message (stops.Unfinished name) =
    said_of name.now (codes "restored in part; run this again, or take it back by the undo file")
stop_message (stops.BadCase name refusal) = said_of name.now (case_words refusal)
stop_message (stops.Unshown name) = said_of name.now (codes "its lines can't be shown one by one")
stop_message (stops.Recorder name fault) = said_of name.now (recorder_line fault)

-- the line for standard error, empty if an answer was written
unfoldable pub message_of : Exit → List ℕ
message_of exits.Done = []
message_of exits.No = []
message_of (exits.Stopped stop) = stop_message stop
message_of exits.WriteFailed = said (codes "the answer can't be written")
