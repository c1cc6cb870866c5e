-- Edited texts: of lists of texts one after the other, and of lines that nothing edits.
use Rattle.std.proofs.Common.{◌≡◌, ◌∙◌, ◌||◌, ℕ, Bool, false, List, [], ◌∷◌, ◌++◌, Option, Some, None}
use Rattle.std.proofs.Common.{refl, sym, ap, map}
use Rattle.std.specs.Option.{is_some}
use Rattle.std.proofs.lemmas.Bool.{false≢true}
use Rattle.std.proofs.lemmas.List.{map-append}
use Rattle.retro_tree.specs.declared.state.State.{State}
use Rattle.retro_shell.specs.Line.{line}
use Rattle.retro_keep.specs.Edit.{edited, line_run, text_run}
use Rattle.retro_keep.specs.Recording.{script_line}
use Rattle.retro_keep.specs.Runs.{outcome}
use Rattle.retro_keep.specs.declared.edit.Edit.{Edit}
use Rattle.retro_keep.specs.declared.noted.Noted.{Noted}
use Rattle.retro_keep.specs.declared.script.ScriptLine.{ScriptLine}
use Rattle.retro_redo.specs.Moments.{next_repaired, state_of_run}
use Rattle.casebook_real.specs.Lines.{is_edited}

line_append : (l : ScriptLine) (text : Option (List ℕ)) (one two : List ScriptLine)
    → line_run l text ++ (one ++ two) ≡ (line_run l text ++ one) ++ two
line_append l None one two = refl
line_append l (Some text) one two = refl

edited_append : (edit : ℕ → Option Edit) (one two : List ScriptLine)
    → edited edit (one ++ two) ≡ edited edit one ++ edited edit two
edited_append edit [] two = refl
edited_append edit (l ∷ one) two =
    let text : Option (List ℕ) = text_run (edit l.number) l.text in
    ap (λ rest. line_run l text ++ rest) (edited_append edit one two)
    ∙ line_append l text (edited edit one) (edited edit two)

-- the edited lines of texts and of those after them
pub texts_append : (edit : ℕ → Option Edit) (one two : List (ℕ × Noted))
    → edited edit (map script_line (one ++ two))
    ≡ edited edit (map script_line one) ++ edited edit (map script_line two)
texts_append edit one two =
    ap (edited edit) (map-append script_line one two) ∙ edited_append edit (map script_line one) (map script_line two)

-- the state after lines and those after them
pub outcome_append : (one two : List ScriptLine) (t : State)
    → (outcome (one ++ two) t).0 ≡ (outcome two (outcome one t).0).0
outcome_append [] two t = refl
outcome_append (l ∷ one) two t = outcome_append one two (line l.sid l.text t).0

-- the state after a text that runs or doesn't, and those after it
first_outcome : (l : ℕ × Noted) (text : Option (List ℕ)) (rest : List ScriptLine) (t : State)
    → (outcome (line_run (script_line l) text ++ rest) t).0 ≡ (outcome rest (state_of_run l.1.sid text t)).0
first_outcome l None rest t = refl
first_outcome l (Some text) rest t = refl

pub first_edited : (edit : ℕ → Option Edit) (l : ℕ × Noted) (lines : List (ℕ × Noted)) (t : State)
    → (outcome (edited edit (map script_line (l ∷ lines))) t).0
    ≡ (outcome (edited edit (map script_line lines)) (next_repaired edit l t)).0
first_edited edit l lines t =
    first_outcome l (text_run (edit l.0) l.1.text) (edited edit (map script_line lines)) t

-- ---- texts that nothing edits

module _ (l : ℕ × Noted) where
  unedited_text : (o : Option Edit) (more : Bool) (rest same : List ScriptLine) → (is_some o || more) ≡ false
      → (more ≡ false → rest ≡ same) → line_run (script_line l) (text_run o l.1.text) ++ rest ≡ script_line l ∷ same
  unedited_text None more rest same e others = ap (λ ls. script_line l ∷ ls) (others e)
  unedited_text (Some edit) more rest same e others = absurd (false≢true (sym e))

pub unedited_texts : (edit : ℕ → Option Edit) (texts : List (ℕ × Noted)) → is_edited edit texts ≡ false
    → edited edit (map script_line texts) ≡ map script_line texts
unedited_texts edit [] e = refl
unedited_texts edit (l ∷ texts) e =
    unedited_text l (edit l.0) (is_edited edit texts) (edited edit (map script_line texts)) (map script_line texts) e
    (unedited_texts edit texts)
