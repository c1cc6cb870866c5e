-- The state before a number in a repaired recording.
use Rattle.std.proofs.Common.{◌≡◌, ◌∙◌, ◌≤◌, ◌<◌, ℕ, Bool, true, false, List, [], ◌∷◌, ◌++◌, Option, Some, None}
use Rattle.std.proofs.Common.{refl, sym, ap, arith, map, nat_lt}
use Rattle.std.specs.Bool.{if◌then◌else◌}
use Rattle.std.specs.List.{All}
use Rattle.std.proofs.lemmas.Bool.{le-ltb, lt-ltb}
use Rattle.std.proofs.lemmas.List.Elements.{All-head, All-tail}
use Rattle.retro_tree.specs.Notes.{after}
use Rattle.retro_tree.specs.declared.state.State.{State}
use Rattle.retro_shell.specs.Line.{line}
use Rattle.retro_keep.specs.Edit.{edited, line_run, text_run}
use Rattle.retro_keep.specs.Recorded.{lines_below, recorded_before}
use Rattle.retro_keep.specs.Recording.{AllRecorded, RecordingValue, last_state, script_line}
use Rattle.retro_keep.specs.Runs.{outcome}
use Rattle.retro_keep.specs.declared.edit.Edit.{Edit}
use Rattle.retro_keep.specs.declared.noted.Noted.{Noted}
use Rattle.retro_keep.specs.declared.script.ScriptLine.{ScriptLine}
use Rattle.retro_redo.specs.Moments.{state_of_run}
use Rattle.casebook_real.proofs.Texts.{first_edited}

abbrev Lines : Type 0
Lines = List (ℕ × Noted)

-- the lines as they are edited, with notes
abbrev AreEdited : (ℕ → Option Edit) → Lines → Lines → Type 0
AreEdited edit lines now = map script_line now ≡ edited edit (map script_line lines)

-- the first of the edited lines, if the first line runs a text
first_is : (k l : ℕ × Noted) (text : List ℕ) (ks : Lines) (more : List ScriptLine)
    → map script_line (k ∷ ks) ≡ line_run (script_line l) (Some text) ++ more
    → script_line k ≡ record { number = l.0; sid = l.1.sid; text = text }
first_is k l text ks more e = cc

-- no line from a number on is below it
none_below : (edit : ℕ → Option Edit) (n : ℕ) (lines now : Lines) → All (λ text. n ≤ text.0) lines
    → AreEdited edit lines now → lines_below n now ≡ []
none_below edit n [] [] least e = refl
none_below edit n [] (k ∷ now) least e = cc
none_below edit n (l ∷ lines) now least e =
    go (λ ks f. none_below edit n lines ks (All-tail (λ (text : ℕ × Noted). n ≤ text.0) l lines least) f)
    (text_run (edit l.0) l.1.text) now e
  where
    go : ((ks : Lines) → AreEdited edit lines ks → lines_below n ks ≡ []) → (o : Option (List ℕ)) (ks : Lines)
        → map script_line ks ≡ line_run (script_line l) o ++ edited edit (map script_line lines)
        → lines_below n ks ≡ []
    go rest None ks f = rest ks f
    go rest (Some text) [] f = cc
    go rest (Some text) (k ∷ ks) f =
        let number : k.0 ≡ l.0 = ap (λ s. s.number) (first_is k l text ks _ f) in
        let from : n ≤ l.0 = All-head (λ (text : ℕ × Noted). n ≤ text.0) l lines least in
        let past : nat_lt k.0 n ≡ false = le-ltb k.0 n (omega (arith, number, from)) in
        ap (λ (b : Bool). if b then k ∷ lines_below n ks else lines_below n ks) past
        ∙ rest ks cc

-- the state after the lines below a number, as they are edited
below_is : (edit : ℕ → Option Edit) (n : ℕ) (lines rest now : Lines) (t : State)
    → AreEdited edit (lines ++ rest) now → AllRecorded now t → All (λ text. text.0 < n) lines
    → All (λ text. n ≤ text.0) rest
    → last_state (lines_below n now) t ≡ (outcome (edited edit (map script_line lines)) t).0
below_is edit n [] rest now t e recorded less least =
    ap (λ ls. last_state ls t) (none_below edit n rest now least e)
below_is edit n (l ∷ lines) rest now t e recorded less least =
    go (λ ks u f again. below_is edit n lines rest ks u f again
    (All-tail (λ (text : ℕ × Noted). text.0 < n) l lines less) least)
    (text_run (edit l.0) l.1.text) now e recorded ∙ sym (first_edited edit l lines t)
  where
    go : ((ks : Lines) (u : State) → AreEdited edit (lines ++ rest) ks → AllRecorded ks u
        → last_state (lines_below n ks) u ≡ (outcome (edited edit (map script_line lines)) u).0)
        → (o : Option (List ℕ)) (ks : Lines)
        → map script_line ks ≡ line_run (script_line l) o ++ edited edit (map script_line (lines ++ rest))
        → AllRecorded ks t
        → last_state (lines_below n ks) t
        ≡ (outcome (edited edit (map script_line lines)) (state_of_run l.1.sid o t)).0
    go others None ks f recorded = others ks t f recorded
    go others (Some text) [] f recorded = cc
    go others (Some text) (k ∷ ks) f recorded =
        let first = first_is k l text ks _ f in
        let number : k.0 ≡ l.0 = ap (λ s. s.number) first in
        let sid : l.1.sid ≡ k.1.sid = sym (ap (λ s. s.sid) first) in
        let same : text ≡ k.1.text = sym (ap (λ s. s.text) first) in
        let reached : after k.1.notes t ≡ (line l.1.sid text t).0 =
        sym ((λ i. (line (sid i) (same i) t).0) ∙ ap (λ (p : State × List ℕ). p.0) recorded.0.means) in
        let tail : AreEdited edit (lines ++ rest) ks = cc in
        let lower : l.0 < n = All-head (λ (text : ℕ × Noted). text.0 < n) l lines less in
        let below : nat_lt k.0 n ≡ true = lt-ltb k.0 n (omega (arith, number, lower)) in
        ap (λ (b : Bool). last_state (if b then k ∷ lines_below n ks else lines_below n ks) t) below
        ∙ others ks (after k.1.notes t) tail recorded.1
        ∙ ap (λ u. (outcome (edited edit (map script_line lines)) u).0) reached

pub before_is : (edit : ℕ → Option Edit) (n : ℕ) (lines rest : Lines) (r : RecordingValue) (first : State)
    → AreEdited edit (lines ++ rest) r.lines → AllRecorded r.lines r.first → r.first ≡ first
    → All (λ text. text.0 < n) lines → All (λ text. n ≤ text.0) rest
    → recorded_before n r ≡ (outcome (edited edit (map script_line lines)) first).0
unfolding recorded_before
before_is edit n lines rest r first are recorded same less least =
    below_is edit n lines rest r.lines r.first are recorded less least
    ∙ ap (λ u. (outcome (edited edit (map script_line lines)) u).0) same
