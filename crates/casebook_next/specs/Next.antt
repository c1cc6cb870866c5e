-- Which line of a machine is the first that has to be run for real in a repair of its recording.
-- Edits are given by the numbers of texts.
use Rattle.std.specs.Prelude.{◌≡◌, ℕ, Bool, false, not, ◌&&◌, List, Option, Some, None, if◌then◌else◌}
use Rattle.std.specs.Prelude.{is_none, map, nat_le, nat_lt, option_and_then, option_map}
use Rattle.std.specs.List.{filter, find, flat_map, slice_get}
use Rattle.retro_path.specs.Path.{PathValue}
use Rattle.retro_tree.specs.declared.note.Note.{Note}
use Rattle.retro_tree.specs.declared.note.Note.TheVariants.{Asked, Made}
use Rattle.retro_keep.specs.Edit.{edit_of, is_among}
use Rattle.retro_keep.specs.Recording.{RecordingValue, noted_at}
use Rattle.retro_keep.specs.declared.edit.Edit.{Edit}
use Rattle.retro_redo.specs.declared.repair.Repair.{Repair}
use Rattle.casebook_account.specs.Edits.{text_numbers}
use Rattle.casebook_account.specs.declared.machine_line.MachineLine.{MachineLine}
use Rattle.casebook_cause.specs.Cause.{notes_of}
use Rattle.casebook_explain.specs.Places.{shell_path}
use Rattle.casebook_explain.specs.Told.{asks_file}
use Rattle.casebook_real.specs.Based.{HasItsBasis, IsFirstWithout}
use Rattle.casebook_real.specs.Next.{next_to_run}
use Rattle.casebook_real.specs.declared.based.BasedText.{BasedText}

-- the numbers of the texts of all observed lines
abbrev pub observed_texts : List MachineLine → List ℕ
observed_texts lines = flat_map text_numbers (filter (λ l. l.is_observed) lines)

-- ---- what modelled lines rest on

-- whether a note is the query for what a file holds
abbrev pub is_about : PathValue → Note → Bool
is_about path (Asked q a) = asks_file path q
is_about path (Made c) = false

-- whether a line is modelled, and its text isn't edited
abbrev pub is_modelled : (ℕ → Option Edit) → MachineLine → Bool
is_modelled edit l = not l.is_observed && is_none (edit l.first)

-- the text of a modelled line, with what it rests on: the functions, aliases and options of its
-- session, which a recording keeps in a file
abbrev pub based_text : RecordingValue → MachineLine → BasedText
based_text r l = record {
  number = l.first;
  basis = filter (is_about (shell_path l.session)) (notes_of (noted_at l.first r.lines));
}

abbrev pub modelled_texts : (ℕ → Option Edit) → RecordingValue → List MachineLine → List BasedText
modelled_texts edit r lines = map (based_text r) (filter (is_modelled edit) lines)

-- ---- the next line

-- the number of the text at an index
abbrev pub number_at : List BasedText → Option ℕ → Option ℕ
number_at texts index = option_map (λ t. t.number) (option_and_then (slice_get texts) index)

abbrev pub least : ℕ → ℕ → ℕ
least m n = if nat_le m n then m else n

-- the lesser of two numbers, of which some may be missing
abbrev pub lesser : Option ℕ → Option ℕ → Option ℕ
lesser None n = n
lesser (Some m) None = Some m
lesser (Some m) (Some n) = Some (least m n)

-- whether a line has the text with a number
abbrev pub has_text : ℕ → MachineLine → Bool
has_text n l = nat_le l.first n && nat_lt n l.end

abbrev pub line_with : List MachineLine → Option ℕ → Option MachineLine
line_with lines None = None
line_with lines (Some n) = find (has_text n) lines

-- The line of a machine that has to be run for real next: the one that has the first text of an
-- observed line that a repair ran again, though nothing edits it, or of a modelled line that rests on
-- what would be another.
pub record IsNextLine (edits : List Edit) (r : RecordingValue) (lines : List MachineLine) (repair : Repair)
    (next : Option MachineLine) : Type 0 where
  pub index : Option ℕ
  pub is_first : IsFirstWithout (HasItsBasis repair.recording) (modelled_texts (edit_of edits) r lines) index
  pub is : next ≡ line_with lines
      (lesser (next_to_run (edit_of edits) (is_among (observed_texts lines)) repair)
      (number_at (modelled_texts (edit_of edits) r lines) index))
