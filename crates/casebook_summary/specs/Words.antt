-- What is said of repairs in words.
use Rattle.std.specs.Prelude.{ℕ, ◌==◌, Bool, true, false, List, ◌++◌, Option, Some, None, codes, if◌then◌else◌}
use Rattle.casebook_text.specs.SafeLine.{word_bytes}
use Rattle.casebook_usage.specs.declared.obstacle.Obstacle.{Obstacle}
use Rattle.casebook_view.specs.OtherAnswers.{AnswersValue}
use Rattle.casebook_view.specs.declared.why.Why.{Why}
use Rattle.casebook_view.specs.declared.why.Why.TheVariants.{Replaced, Query, RunAgain}
use Rattle.casebook_words.specs.Difference.{difference_words}
use Rattle.casebook_words.specs.Obstacles.{obstacle_text, obstacles_text}
use Rattle.casebook_words.specs.Words.{path_words, query_words}
use Rattle.casebook_summary.specs.declared.subject.Subject.{Subject}
use Rattle.casebook_summary.specs.declared.subject.Subject.TheVariants.{At, Directory, Variable, Status, Text, Again}

-- of lines that were played: Retro's shell, if the log is as its lines run
unfoldable pub played_words : Bool → List ℕ
played_words true = codes "Played in Retro's shell. Whether the machine did the same isn't known."
played_words false = codes "The log isn't as its lines run: what was recorded is only what its notes say."

-- why it isn't known what so many lines do
abbrev pub obstacle_words : Obstacle → ℕ → List ℕ
obstacle_words obstacle count = if count == 1 then obstacle_text obstacle else obstacles_text obstacle

-- what lines are told about
unfoldable pub subject_words : Subject → List ℕ
subject_words (At path) = path_words path
subject_words Directory = codes "the directory"
subject_words (Variable name) = codes "the variable " ++ word_bytes name
subject_words Status = codes "the status"
subject_words Text = codes "a replaced line"
subject_words Again = codes "run again with all others"

-- ---- why a line is run again

abbrev pub again_words : List ℕ
again_words = codes "run again with all others"

-- the query that fails, and how its answers differ
unfoldable pub failing_words : Option AnswersValue → List ℕ
failing_words None = again_words
failing_words (Some found) = query_words found.ask ++ difference_words found.recorded found.repaired

-- its text is replaced; or a query fails, with both its answers; or all lines are run again
unfoldable pub why_words : Why → Option AnswersValue → List ℕ
why_words Replaced found = codes "its text is replaced"
why_words (Query i) found = failing_words found
why_words RunAgain found = again_words
