-- What the program does: what a run on words, documents and folders leaves.
use Rattle.std.specs.Prelude.{◌≡◌, ℕ, Bool, true, false, List, Option, Ok}
use Rattle.std.specs.Io.KnownBytes.{Appends}
use Rattle.casebook_folder_cli.specs.Folders.{AllFolders}
use Rattle.casebook_recorder_cli.specs.Spools.{AllSpools}
use Rattle.casebook_request.specs.Request.{Request, request_in}
use Rattle.casebook_cli.specs.Answers.{AnswerValue, Answers}
use Rattle.casebook_repairs.specs.Documents.{AllDocuments}
use Rattle.retro_edge.specs.Output.{AppendsPart}
use Rattle.casebook_cli.specs.Stops.{StopsWords}
use Rattle.casebook_cli.specs.declared.exit.Exit.{Exit}
use Rattle.casebook_cli.specs.declared.exit.Exit.TheVariants as exits

abbrev pub Text : Type 0
Text = List ℕ

-- The answer to words.
pub record AnswersWords (words : List Text) (at : AllDocuments) (folders : AllFolders) (spools : Option AllSpools) (colours : Bool)
    (answer : AnswerValue) : Type 0 where
  pub request : Request
  pub words_ask : request_in words ≡ Ok request
  pub answers : Answers colours at folders spools request answer

-- An answer was written whole, and the exit says whether it says no.
pub record Wrote (answer : AnswerValue) (is_no : Bool) (old new : Option Text) : Type 0 where
  pub says : answer.is_no ≡ is_no
  pub written : Appends old new answer.text

-- how the program ends that has an answer: `old` and `new` are what the writer held before and
-- after
abbrev pub Ends : AnswerValue → Option Text → Option Text → Exit → Type 0
Ends answer old new exits.Done = Wrote answer false old new
Ends answer old new exits.No = Wrote answer true old new
Ends answer old new exits.WriteFailed = AppendsPart old new answer.text
Ends answer old new (exits.Stopped stop) = ⊥

-- There is an answer, and the program ends so.
pub record Answered (words : List Text) (at : AllDocuments) (folders : AllFolders) (spools : Option AllSpools) (colours : Bool)
    (old new : Option Text) (exit : Exit) : Type 0 where
  pub answer : AnswerValue
  pub answers : AnswersWords words at folders spools colours answer
  pub ends : Ends answer old new exit

-- what a run on words, documents and folders leaves, with colours if they are wanted
abbrev pub Runs : List Text → AllDocuments → AllFolders → Option AllSpools → Bool → Option Text → Option Text → Exit → Type 0
Runs words at folders spools colours old new (exits.Stopped stop) = StopsWords words at folders spools stop
Runs words at folders spools colours old new exit = Answered words at folders spools colours old new exit
