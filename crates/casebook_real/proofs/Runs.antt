-- What the first lines of a repair come to, if each of them is right.
use Rattle.std.proofs.Common.{◌≡◌, ◌∙◌, ℕ, Bool, true, false, List, [], ◌∷◌, ◌++◌, Option, IsTrue}
use Rattle.std.proofs.Common.{refl, sym, ap, subst, map}
use Rattle.std.specs.FinMap as finmap
use Rattle.std.specs.List.{All}
use Rattle.std.proofs.lemmas.List.Elements.{All-head, All-tail}
use Rattle.retro_tree.specs.declared.state.State.{State}
use Rattle.retro_tree.proofs.Small.{first_true, both_true}
use Rattle.retro_keep.specs.Edit.{edited}
use Rattle.retro_keep.specs.Recording.{script_line}
use Rattle.retro_keep.specs.Runs.{outcome}
use Rattle.retro_keep.specs.Script.{have_sessions}
use Rattle.retro_keep.specs.declared.edit.Edit.{Edit}
use Rattle.retro_keep.specs.declared.script.ScriptLine.{ScriptLine}
use Rattle.casebook_real.specs.Lines.{Fate, Unedited, LeftOut, Replaced, Placed, TypedLine, fate, fate_by, is_edited}
use Rattle.casebook_real.specs.Lines.{placed, remaining_lines, session_of, texts_now, texts_of}
use Rattle.casebook_real.specs.Lines.{unless_left_out}
use Rattle.casebook_real.specs.World.{DoesAsRecorded, HasBasis, IsReady, Meaning, run_all}
use Rattle.casebook_real.proofs.Fits.{AreFit, fit_after, fit_here}
use Rattle.casebook_real.proofs.Texts.{outcome_append, texts_append, unedited_texts}

-- the repaired state after lines, from a state on
abbrev pub repaired_after : (ℕ → Option Edit) → List TypedLine → State → State
repaired_after edit lines t = (outcome (edited edit (map script_line (texts_of lines))) t).0

-- a line is right in the repaired state before it: it does there what runs in its place
abbrev pub IsRightBy : Meaning → Fate → TypedLine → List ScriptLine → State → Type 0
IsRightBy real Unedited l now t = HasBasis l.basis l.texts t
IsRightBy real LeftOut l now t = Unit {0}
IsRightBy real Replaced l now t = real l.typed t ≡ (outcome now t).0

abbrev pub IsRight : Meaning → (ℕ → Option Edit) → Placed → Type 0
IsRight real edit p = IsRightBy real (fate edit p.line) p.line (texts_now edit p.line) p.before

abbrev pub AsRecorded : Meaning → (ℕ → Option Edit) → TypedLine → Type 0
AsRecorded real edit l = fate edit l ≡ Unedited → DoesAsRecorded real l

one_line : (real : Meaning) (l : TypedLine) (t : State) (others : List ScriptLine) (b : Bool) (now : List ScriptLine)
    → (b ≡ false → now ≡ map script_line l.texts) → (fate_by b now ≡ Unedited → DoesAsRecorded real l) → IsRightBy real (fate_by b now) l now t
    → IsReady l.typed.sid t
    → run_all real others (outcome now t).0 ≡ run_all real (unless_left_out (fate_by b now) l.typed ++ others) t
one_line real l t others false now own does right ready =
    ap (λ ls. run_all real others (outcome ls t).0) (own refl) ∙ ap (run_all real others) (sym (does refl t ready right))
one_line real l t others true [] own does right ready = refl
one_line real l t others true (text ∷ now) own does right ready = ap (run_all real others) (sym right)

pub from_state : (real : Meaning) (edit : ℕ → Option Edit) (sids : List ℕ) (lines rest : List TypedLine) (t : State)
    → All (AsRecorded real edit) lines → All (IsRight real edit) (placed edit lines t)
    → ((s : State) → IsTrue (have_sessions s sids) → IsTrue (have_sessions s (map session_of lines)))
    → AreFit sids (edited edit (map script_line (texts_of (lines ++ rest)))) t
    → repaired_after edit lines t ≡ run_all real (remaining_lines edit lines) t
from_state real edit sids [] rest t does right among fit = refl
from_state real edit sids (l ∷ lines) rest t does right among fit =
    let p : Placed = record { line = l; before = t } in
    let now : List ScriptLine = texts_now edit l in
    let next : State = (outcome now t).0 in
    let after_lines = texts_of (lines ++ rest) in
    let parted : edited edit (map script_line (l.texts ++ after_lines))
    ≡ now ++ edited edit (map script_line after_lines) = texts_append edit l.texts after_lines in
    let fit_parts = subst (λ ls. AreFit sids ls t) parted fit in
    let here = fit_here sids _ t fit in
    let known = among t here.known in
    let ready : IsReady l.typed.sid t = record {
      lawful = here.lawful;
      known = first_true (finmap.contains_key t.sessions l.typed.sid) (have_sessions t (map session_of lines)) known;
    } in
    ap (λ ls. (outcome ls t).0) (texts_append edit l.texts (texts_of lines))
    ∙ outcome_append now (edited edit (map script_line (texts_of lines))) t
    ∙ from_state real edit sids lines rest next (All-tail (AsRecorded real edit) l lines does)
    (All-tail (IsRight real edit) p (placed edit lines next) right)
    (λ s all. both_true (finmap.contains_key s.sessions l.typed.sid) (have_sessions s (map session_of lines)) (among s all))
    (fit_after sids now (edited edit (map script_line after_lines)) t fit_parts)
    ∙ one_line real l t (remaining_lines edit lines) (is_edited edit l.texts) now (unedited_texts edit l.texts)
    (All-head (AsRecorded real edit) l lines does)
    (All-head (IsRight real edit) p (placed edit lines next) right) ready
