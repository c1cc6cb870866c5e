-- The next line of a repair, as any line that is known to be the next one.
use Rattle.std.proofs.Common.{◌≡◌, ◌∙◌, Bool, false, List, Option, Some, None, MatchBool, MatchOption, ap, refl, subst, sym, ℕ}
use Rattle.std.specs.Option.{IsSome, is_some, option_copied, option_map, unwrap_or}
use Rattle.std.proofs.lemmas.Bool.{false≢true}
use Rattle.retro_tree.specs.Notes.{Holds}
use Rattle.retro_keep.specs.Edit.{text_run}
use Rattle.retro_keep.specs.Recording.{IsRecordingOf, script_in}
use Rattle.retro_keep.specs.declared.edit.Edit.{Edit}
use Rattle.retro_redo.specs.Moments.{new_text, text_now}
use Rattle.retro_redo.specs.NextLine.{IsNextLine}
use Rattle.retro_redo.specs.Progress.{ProgressValue, edit_in, next_line, next_number, repaired_now, verdict_of}
use Rattle.retro_redo.specs.declared.line.Line.{Line as NextLine}
use Rattle.retro_redo.specs.declared.step.Step.{Step}
use Rattle.retro_redo.specs.declared.verdict.SettledLine.{SettledLine}
use Rattle.retro_redo.proofs.Keeping.{IsDecided, line_by}
use Rattle.retro_redo.proofs.Positions.{Line}

-- ---- a line that was handed out

abbrev pub IsFound : ProgressValue → Option NextLine → Type 0
IsFound p o = MatchOption o (next_line p ≡ None) (IsNextLine p)

pub found_is : (p : ProgressValue) (o : Option NextLine) (n : NextLine) → IsFound p o → o ≡ Some n → IsNextLine p n
found_is p o n h is = subst (IsFound p) is h

pub number_found : (p : ProgressValue) (o : Option NextLine) (n : NextLine) → IsFound p o → o ≡ Some n
    → next_number p ≡ Some n.number
number_found p o n h is = ap (option_map (λ (l : Line). l.0)) (found_is p o n h is).next

pub none_found : (p : ProgressValue) (o : Option NextLine) → IsFound p o → o ≡ None → next_line p ≡ None
none_found p o h is = subst (IsFound p) is h

pub is_found : (p : ProgressValue) (number : ℕ) (o : Option NextLine) → IsFound p o → next_number p ≡ Some number
    → IsSome o
is_found p number (Some n) h next = refl
is_found p number None h next =
    absurd (false≢true (ap is_some (sym (ap (option_map (λ (l : Line). l.0)) h) ∙ next)))

-- ---- a line that is the next one

-- the line as it was recorded, with its number
abbrev pub pair_of : NextLine → Line
pair_of n = (n.number, n.noted.now)

module _ (p : ProgressValue) (n : NextLine) (is : IsNextLine p n) where
  pub next_number_is : next_number p ≡ Some n.number
  next_number_is = ap (option_map (λ (l : Line). l.0)) is.next

  pub same_line : (l : Line) → next_line p ≡ Some l → pair_of n ≡ l
  same_line l next =
      let both : ◌≡◌ {A = Option Line} (Some (pair_of n)) (Some l) = sym is.next ∙ next in
      cc

  pub decided_next : (l : Line) → next_line p ≡ Some l → IsDecided p l n.is_met
  decided_next l next = subst (λ (x : Line). IsDecided p x n.is_met) (same_line l next) is.met

  pub holds_next : IsRecordingOf (script_in p.recording) p.recording → (l : Line) → next_line p ≡ Some l
      → edit_in p l.0 ≡ None → n.is_met ≡ false → Holds l.1.notes (repaired_now p)
  holds_next own l next none not_met =
      let same = same_line l next in
      subst (λ (x : Line). Holds x.1.notes (repaired_now p)) same
      (is.holds own (ap (λ (x : Line). edit_in p x.0) same ∙ none) not_met)

  -- the text that it runs
  text_next : (l : Line) → next_line p ≡ Some l
      → text_run (option_copied n.edit) n.noted.now.text ≡ text_now (edit_in p) l
  text_next l next =
      ap (λ (o : Option Edit). text_run o n.noted.now.text) is.edit
      ∙ ap (text_now (edit_in p)) (same_line l next)

  pub cancelled_next : (b : Bool)
      → MatchBool b (text_run (option_copied n.edit) n.noted.now.text ≡ None)
      (IsSome (text_run (option_copied n.edit) n.noted.now.text))
      → (l : Line) → next_line p ≡ Some l
      → MatchBool b (text_now (edit_in p) l ≡ None) (IsSome (text_now (edit_in p) l))
  cancelled_next b h l next =
      subst (λ (t : Option (List ℕ)). MatchBool b (t ≡ None) (IsSome t)) (text_next l next) h

  -- the text of its new runs
  pub new_text_next : (text : List ℕ)
      → text ≡ unwrap_or (text_run (option_copied n.edit) n.noted.now.text) n.noted.now.text
      → text ≡ new_text (edit_in p) (pair_of n)
  new_text_next text h =
      h ∙ ap (λ (o : Option Edit). unwrap_or (text_run o n.noted.now.text) n.noted.now.text) is.edit

-- what a step leaves of a line, whose parts the code makes
pub settled_line : (l : SettledLine) (n : NextLine) (step : Step) → l.number ≡ n.number
    → l.verdict ≡ verdict_of step → l.is_met ≡ n.is_met → l ≡ line_by (pair_of n) step n.is_met
settled_line l n step number verdict met = λ i. record { number = number i; verdict = verdict i; is_met = met i }
