-- What is wrong with a command line, in words.
use Rattle.std.specs.Prelude.{ℕ, List, codes}
use Rattle.casebook_folder_cli.specs.declared.request.FolderProblem.TheVariants as folder_problems
use Rattle.casebook_recorder_cli.specs.declared.request.RecorderProblem.TheVariants as recorder_problems
use Rattle.casebook_request.specs.declared.problem.Problem.{Problem}
use Rattle.casebook_request.specs.declared.problem.Problem.TheVariants as problems

unfoldable pub problem_words : Problem → List ℕ
problem_words problems.NotText = codes "a word of the command line isn't UTF-8"
problem_words problems.Words = codes "these words are no command with its options; see casebook help"
problem_words problems.Topic =
    codes "no help on this, but on lines show page cat patch check snapshot compare restore script observe import status log lists documents refusals profile"
problem_words problems.NoLog = codes "no LOG is given; see casebook help"
problem_words problems.NoCase = codes "no CASE is given; see casebook help log"
problem_words problems.InputTwice = codes "- is standard input, which can be named once"
problem_words problems.NoList = codes "no --cancel LIST is given; see casebook help show"
problem_words problems.Replace = codes "--replace: not a list like [[4,\"cat f\"]]"
problem_words problems.Workers = codes "--workers: not a number"
problem_words problems.Cuts = codes "--cuts: not numbers with commas between them"
problem_words problems.Session = codes "--session: not a number"
problem_words problems.From = codes "--from: not a number of a line, nor a time such as 2025-05-06 10:30"
problem_words problems.To = codes "--to: not a number of a line, nor a time such as 2025-05-06 10:30"
problem_words problems.NoTimes = codes "--from and --to: no line has a time; give --about FILE"
problem_words problems.Reads = codes "--reads: not a path from the root"
problem_words problems.Writes = codes "--writes: not a path from the root"
problem_words problems.Touches = codes "--touches: not a path from the root"
problem_words problems.Path = codes "PATH: not a path from the root"
problem_words problems.NoPath = codes "no PATH and no --line N is given; see casebook help cat"
problem_words problems.PathAndLine = codes "PATH and --line N are two answers; give one"
problem_words problems.Line = codes "--line: not a number of a line"
problem_words problems.Format = codes "--format: not text, tsv or numbers"
problem_words problems.RepairFormat = codes "--format: not text or json"
problem_words problems.MixedFormat = codes "--format json has no --why, --diff or --line"
problem_words (problems.Folder folder_problems.NoFolder) = codes "no FOLDER and no --tar FILE is given; see casebook help"
problem_words (problems.Folder folder_problems.SeveralSources) = codes "FOLDER and --tar are two sources; give one"
problem_words (problems.Folder folder_problems.MountsOfFile) = codes "--mounts needs a FOLDER"
problem_words (problems.Folder folder_problems.TakenDocument) =
    codes "--snapshot needs no FOLDER, --tar, --mounts, --at and --skip"
problem_words (problems.Folder folder_problems.At) = codes "--at: not a path from the root"
problem_words (problems.Folder folder_problems.Skip) = codes "--skip: not a path from the root"
problem_words (problems.Folder folder_problems.InputTwice) = codes "- is standard input, which can be named once"
problem_words (problems.Folder folder_problems.NoRoot) = codes "no --root FOLDER is given; see casebook help restore"
problem_words (problems.Folder folder_problems.Only) = codes "--only: not a path from the root"
problem_words (problems.Folder folder_problems.NoUndo) =
    codes "--apply needs --undo FILE, a file that isn't there yet"
problem_words (problems.Folder folder_problems.NoApply) = codes "--undo needs --apply where a LOG is given"
problem_words (problems.Folder folder_problems.Mixed) =
    codes "--undo without a LOG has --root and --apply alone"
problem_words (problems.Folder folder_problems.NoDocument) =
    codes "no DOCUMENT is given; see casebook help script"
problem_words (problems.Folder folder_problems.NoSessions) =
    codes "no --sessions FILE is given; see casebook help script"
problem_words (problems.Folder folder_problems.NoLines) =
    codes "no --lines FILE is given; see casebook help script"
problem_words (problems.Recorder recorder_problems.NoSpool) = codes "no SPOOL is given; see casebook help"
problem_words (problems.Recorder recorder_problems.NoFolder) =
    codes "--start needs a FOLDER after SPOOL; see casebook help observe"
problem_words (problems.Recorder recorder_problems.HasFolder) = codes "FOLDER needs --start"
problem_words (problems.Recorder recorder_problems.Folder) = codes "FOLDER: not a path from the root"
