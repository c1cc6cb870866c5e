-- Lines that aren't as a log notes them, in words.
use Rattle.std.specs.Prelude.{◌≡◌, ℕ, List, [], ◌∷◌, ◌++◌, Option, Some, None, MatchOption, codes, decimal, nat_eq}
use Rattle.std.specs.Prelude.{if◌then◌else◌}
use Rattle.std.specs.Cmp.Lexicographic.{pointwise}
use Rattle.retro_tree.specs.declared.answer.Answer.{Answer}
use Rattle.retro_tree.specs.declared.answer.Answer.TheVariants as answers
use Rattle.retro_tree.specs.declared.ask.Ask.{Ask}
use Rattle.retro_tree.specs.declared.node.Node.TheVariants as nodes
use Rattle.retro_tree.specs.declared.note.Note.{Note}
use Rattle.retro_tree.specs.declared.note.Note.TheVariants.{Asked, Made}
use Rattle.retro_keep.specs.declared.noted.Noted.{Noted}
use Rattle.retro_shell.specs.Runs.{RunValue}
use Rattle.casebook_words.specs.Cut.{cut_words}
use Rattle.casebook_words.specs.Difference.{difference_words}
use Rattle.casebook_about.specs.Labels.{name_words}
use Rattle.casebook_words.specs.Words.{note_words, query_words}
use Rattle.casebook_about.specs.declared.labels.Labels.{Labels}
use Rattle.casebook_check.specs.Difference.{IsFirstDifference, item_at}

-- how many bytes of a line are shown
abbrev pub text_limit : ℕ
text_limit = 59

-- which line isn't as noted
unfoldable pub head_words : Labels → ℕ → Noted → List ℕ
head_words labels number noted =
    codes "line " ++ decimal number ++ codes " of " ++ name_words noted.sid labels
    ++ codes " isn't as noted: " ++ cut_words text_limit noted.text

-- a note, or that there are no more of them
abbrev pub note_or_end : Option Note → List ℕ
note_or_end None = codes "nothing more"
note_or_end (Some note) = note_words note

unfoldable pub both_notes : Option Note → Option Note → List ℕ
both_notes one two = note_or_end one ++ codes " / " ++ note_or_end two

-- two queries with their answers: how the answers differ, if both queries are said alike
unfoldable pub asked_words : Ask → Answer → Ask → Answer → List ℕ
asked_words q a p b =
    if pointwise nat_eq (query_words q) (query_words p) then query_words q ++ difference_words a b
    else both_notes (Some (Asked q a)) (Some (Asked p b))

-- two notes at one place, of which the lists may have no such notes
unfoldable pub notes_words : Option Note → Option Note → List ℕ
notes_words (Some (Asked q a)) (Some (Asked p b)) = asked_words q a p b
notes_words one two = both_notes one two

unfoldable pub outputs_words : List ℕ → List ℕ → List ℕ
outputs_words one two =
    codes "output" ++ difference_words (answers.Bytes (nodes.File one)) (answers.Bytes (nodes.File two))

-- how what is noted and what a run notes differ at an index, or how what they print does
unfoldable pub otherwise_words : Option ℕ → Noted → RunValue → List ℕ
otherwise_words (Some index) noted run = notes_words (item_at index noted.notes) (item_at index run.notes)
otherwise_words None noted run = outputs_words noted.output run.output

abbrev pub front_words : List ℕ
front_words = codes "    noted / run again: "

abbrev pub unlike_lines : Labels → ℕ → Noted → RunValue → Option ℕ → List (List ℕ)
unlike_lines labels number noted run index =
    head_words labels number noted ∷ (front_words ++ otherwise_words index noted run) ∷ []

-- the index of the first note that isn't the same, or None if all are
abbrev pub IsOtherwiseAt : Noted → RunValue → Option ℕ → Type 0
IsOtherwiseAt noted run index =
    MatchOption index (noted.notes ≡ run.notes) (IsFirstDifference noted.notes run.notes)

-- the lines that say how a run isn't as noted
pub record AreUnlikeLines (labels : Labels) (number : ℕ) (noted : Noted) (run : RunValue) (lines : List (List ℕ))
    : Type 0 where
  pub index : Option ℕ
  pub where_it_is : IsOtherwiseAt noted run index
  pub text : lines ≡ unlike_lines labels number noted run index
