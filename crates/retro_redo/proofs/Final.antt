-- What a whole repair comes to, by one induction over the lines.
use Rattle.std.proofs.Common.{◌≡◌, ◌∙◌, ◌⊎◌, inl, inr, ℕ, List, [], ◌∷◌, ◌++◌, Option, Some, None, map, length}
use Rattle.std.proofs.Common.{refl, sym, ap, ap₂, subst, arith, IsTrue}
use Rattle.std.specs.FinMap as finmap
use Rattle.retro_tree.specs.Lawful.{IsLawful}
use Rattle.retro_tree.specs.Notes.{after, AgreeOn, AllAllowed, Holds}
use Rattle.retro_tree.specs.declared.note.Note.{Note}
use Rattle.retro_tree.specs.declared.state.State.{State}
use Rattle.retro_tree.proofs.NoteLaws.{holds_where_agreed, lawful_after}
use Rattle.retro_tree.proofs.Small.{first_true, both_true}
use Rattle.retro_shell.specs.Line.{line}
use Rattle.retro_shell.specs.Runs.{IsRun}
use Rattle.retro_keep.specs.Edit.{edited, line_run}
use Rattle.retro_keep.specs.Recording.{AllRecorded, IsRecorded, noted_of, run_value, script_line, sid_in}
use Rattle.retro_keep.specs.Runs.{Output, after_line, outcome, with_output}
use Rattle.retro_keep.specs.Script.{have_sessions}
use Rattle.retro_keep.specs.declared.edit.Edit.{Edit}
use Rattle.retro_keep.specs.declared.noted.Noted.{Noted}
use Rattle.retro_keep.specs.declared.script.ScriptLine.{ScriptLine}
use Rattle.retro_keep.proofs.Recorded.{known_after}
use Rattle.retro_redo.specs.Moments.{CompensationValue, IsStaleBy, IsVerdict, Moment, compensation, compensations, moments}
use Rattle.retro_redo.specs.Moments.{new_text, next_repaired, output_of_run, printed_before, printed_now, state_of_run}
use Rattle.retro_redo.specs.Moments.{text_now}
use Rattle.retro_redo.specs.Progress.{Settles, chosen, compensations_chosen, output_chosen}
use Rattle.retro_redo.specs.Progress.{settled, verdict_of}
use Rattle.retro_redo.specs.Final.{AreRight, IsFinal}
use Rattle.retro_redo.specs.declared.step.Step.{Step}
use Rattle.retro_redo.specs.declared.step.Step.TheVariants.{Cancel, Keep, Take}
use Rattle.retro_redo.proofs.EditCases.{own_text, stale_text}
use Rattle.retro_redo.proofs.Positions.{Line}

-- ---- one line

abbrev here : Line → State → State → Moment
here l s t = record { number = l.0; noted = l.1; recorded = s; repaired = t }

-- a line in a lawful state that has its session and in which its notes hold
record IsRunIn (noted : Noted) (t : State) : Type 0 where
  recorded : IsRecorded noted t
  lawful : IsLawful (after noted.notes t)
  allowed : AllAllowed noted.notes t

runs_in : (noted : Noted) (t : State) → IsRun (run_value noted) → IsLawful t
    → IsTrue (finmap.contains_key t.sessions noted.sid) → Holds noted.notes t → IsRunIn noted t
runs_in noted t run lawful has holds =
    let allowed = run.certified.allowed t lawful has holds in
    record {
      recorded = record { run = run; holds = holds; means = run.certified.means t lawful has holds };
      lawful = lawful_after noted.notes t lawful allowed;
      allowed = allowed;
    }

kept_holds : (s t : State) (notes : List Note) → Holds notes s → (AgreeOn notes s t ⊎ Holds notes t) → Holds notes t
kept_holds s t notes h (inl agreed) = holds_where_agreed notes s t agreed h
kept_holds s t notes h (inr holds) = holds

-- ---- the edited lines

edited_without : (edit : ℕ → Option Edit) (l : Line) (lines : List ScriptLine) → text_now edit l ≡ None
    → edited edit (script_line l ∷ lines) ≡ edited edit lines
edited_without edit l lines e =
    ap (λ (o : Option (List ℕ)). line_run (script_line l) o ++ edited edit lines) e

-- a line with another text
abbrev with_text : Line → List ℕ → ScriptLine
with_text l text = record { number = l.0; sid = l.1.sid; text = text }

edited_with : (edit : ℕ → Option Edit) (l : Line) (text : List ℕ) (lines : List ScriptLine)
    → text_now edit l ≡ Some text → edited edit (script_line l ∷ lines) ≡ with_text l text ∷ edited edit lines
edited_with edit l text lines e =
    ap (λ (o : Option (List ℕ)). line_run (script_line l) o ++ edited edit lines) e

outcome_first : (l : ScriptLine) (lines : List ScriptLine) (t : State) (now : State × List ℕ)
    (rest : State × List Output) → line l.sid l.text t ≡ now → outcome lines now.0 ≡ rest
    → outcome (l ∷ lines) t ≡ (rest.0, (l.number, now.1) ∷ rest.1)
outcome_first l lines t now rest e f =
    ap (λ p. after_line l.number p (outcome lines)) e ∙ ap (with_output l.number now.1) f

-- ---- the two runs side by side

on_way : (edit : ℕ → Option Edit) (l : Line) (lines : List Line) (s t s2 t2 : State)
    → (line l.1.sid l.1.text s).0 ≡ s2 → next_repaired edit l t ≡ t2
    → moments edit (l ∷ lines) s t ≡ here l s t ∷ moments edit lines s2 t2
on_way edit l lines s t s2 t2 e f = ap₂ (λ p q. here l s t ∷ moments edit lines p q) e f

compensated_first : (edit : ℕ → Option Edit) (l : Line) (s t : State) (ms : List Moment) (before now : List ℕ)
    (rest : List CompensationValue) → printed_before (here l s t) ≡ before → printed_now edit (here l s t) ≡ now
    → compensations edit ms ≡ rest
    → compensations edit (here l s t ∷ ms) ≡ compensation l.0 before now ++ rest
compensated_first edit l s t ms before now rest e f g =
    ap₂ (λ x y. compensation l.0 x y ++ compensations edit ms) e f ∙ ap (λ r. compensation l.0 before now ++ r) g

-- the next line and the rest, for any choice
record Meets (edit : ℕ → Option Edit) (l : Line) (step : Step) (s t : State) : Type 0 where
  recorded : (line l.1.sid l.1.text s).0 ≡ after l.1.notes s
  before : printed_before (here l s t) ≡ l.1.output
  repaired : next_repaired edit l t ≡ after (chosen step l.1) t
  now : printed_now edit (here l s t) ≡ output_chosen l.1 step
  verdict : IsVerdict edit (here l s t) (verdict_of step)

record Rest (edit : ℕ → Option Edit) (l : Line) (lines : List Line) (step : Step) (steps : List Step) (s t : State)
    : Type 0 where
  on_the_way : moments edit (l ∷ lines) s t ≡ settled (l ∷ lines) (step ∷ steps) s t
  compensated : compensations edit (moments edit (l ∷ lines) s t)
      ≡ compensations_chosen (l ∷ lines) (step ∷ steps)
  verdicts : AreRight edit (moments edit (l ∷ lines) s t) (step ∷ steps)

rest_of : (edit : ℕ → Option Edit) (l : Line) (lines : List Line) (step : Step) (steps : List Step) (s t : State)
    → Meets edit l step s t → IsFinal edit lines steps (after l.1.notes s) (after (chosen step l.1) t)
    → Rest edit l lines step steps s t
rest_of edit l lines step steps s t m rest =
    let way = on_way edit l lines s t (after l.1.notes s) (after (chosen step l.1) t) m.recorded m.repaired in
    record {
      on_the_way = way ∙ ap (λ ms. here l s t ∷ ms) rest.on_the_way;
      compensated = ap (compensations edit) way
          ∙ compensated_first edit l s t _ _ _ _ m.before m.now rest.compensated;
      verdicts = subst (λ ms. AreRight edit ms (step ∷ steps)) (sym way) (m.verdict, rest.verdicts);
    }

-- ---- the induction

pub settles_final : (edit : ℕ → Option Edit) (lines : List Line) (steps : List Step) (s t : State) → AllRecorded lines s
    → IsLawful t → IsTrue (have_sessions t (map sid_in lines)) → Settles edit lines steps s t
    → length steps ≡ length lines → IsFinal edit lines steps s t
settles_final edit [] [] s t recorded lawful known settles all = record {
  outcome_is = refl;
  on_the_way = refl;
  compensated = refl;
  verdicts = tt;
  lines_are = refl;
  recorded = tt;
}
settles_final edit [] (step ∷ steps) s t recorded lawful known settles all = absurd settles
settles_final edit (l ∷ lines) [] s t recorded lawful known settles all = absurd (omega (arith, all))
settles_final edit (l ∷ lines) (Cancel ∷ steps) s t recorded lawful known settles all =
    let was = recorded.0.means in
    let known_rest = both_true (finmap.contains_key t.sessions l.1.sid) (have_sessions t (map sid_in lines)) known in
    let rest = settles_final edit lines steps (after l.1.notes s) t recorded.1 lawful known_rest settles.2
    (omega (arith, all)) in
    let none : text_now edit l ≡ None = settles.0 in
    let left = edited_without edit l (map script_line lines) none in
    let sides = rest_of edit l lines Cancel steps s t (record {
      recorded = ap (λ (p : State × List ℕ). p.0) was;
      before = ap (λ (p : State × List ℕ). p.1) was;
      repaired = ap (λ (o : Option (List ℕ)). state_of_run l.1.sid o t) none;
      now = ap (λ (o : Option (List ℕ)). output_of_run l.1.sid o t) none;
      verdict = none;
    }) rest in
    record {
      outcome_is = ap (λ ls. outcome ls t) left ∙ rest.outcome_is;
      on_the_way = sides.on_the_way;
      compensated = sides.compensated;
      verdicts = sides.verdicts;
      lines_are = rest.lines_are ∙ sym left;
      recorded = rest.recorded;
    }
settles_final edit (l ∷ lines) (Keep ∷ steps) s t recorded lawful known settles all =
    let was = recorded.0.means in
    let has = first_true (finmap.contains_key t.sessions l.1.sid) (have_sessions t (map sid_in lines)) known in
    let known_rest = both_true (finmap.contains_key t.sessions l.1.sid) (have_sessions t (map sid_in lines)) known in
    let own : text_now edit l ≡ Some l.1.text = own_text edit l settles.0.0 in
    let holds : Holds l.1.notes t = kept_holds s t l.1.notes recorded.0.holds settles.0.1 in
    let run = runs_in l.1 t recorded.0.run lawful has holds in
    let now = run.recorded.means in
    let rest = settles_final edit lines steps (after l.1.notes s) (after l.1.notes t) recorded.1 run.lawful
    (known_after l.1.notes t (map sid_in lines) run.allowed known_rest) settles.2 (omega (arith, all)) in
    let left = edited_with edit l l.1.text (map script_line lines) own in
    let sides = rest_of edit l lines Keep steps s t (record {
      recorded = ap (λ (p : State × List ℕ). p.0) was;
      before = ap (λ (p : State × List ℕ). p.1) was;
      repaired = ap (λ (o : Option (List ℕ)). state_of_run l.1.sid o t) own ∙ ap (λ (p : State × List ℕ). p.0) now;
      now = ap (λ (o : Option (List ℕ)). output_of_run l.1.sid o t) own ∙ ap (λ (p : State × List ℕ). p.1) now;
      verdict = (settles.0.0, holds);
    }) rest in
    record {
      outcome_is = ap (λ ls. outcome ls t) left
          ∙ outcome_first (script_line l) (edited edit (map script_line lines)) t _ _ now rest.outcome_is;
      on_the_way = sides.on_the_way;
      compensated = sides.compensated;
      verdicts = sides.verdicts;
      lines_are = ap (λ ls. script_line l ∷ ls) rest.lines_are ∙ sym left;
      recorded = (run.recorded, rest.recorded);
    }
settles_final edit (l ∷ lines) (Take taken ∷ steps) s t recorded lawful known settles all =
    let was = recorded.0.means in
    let has = first_true (finmap.contains_key t.sessions l.1.sid) (have_sessions t (map sid_in lines)) known in
    let known_rest = both_true (finmap.contains_key t.sessions l.1.sid) (have_sessions t (map sid_in lines)) known in
    let stale : IsStaleBy (edit l.0) l.1.notes t = settles.0.0 in
    let same_sid : taken.sid ≡ l.1.sid = settles.0.1.0 in
    let same_text : taken.text ≡ new_text edit l = settles.0.1.1 in
    let runs : text_now edit l ≡ Some taken.text =
    stale_text edit l t stale ∙ ap (λ (text : List ℕ). Some text) (sym same_text) in
    let has_taken = ap (finmap.contains_key t.sessions) same_sid ∙ has in
    let run = runs_in (noted_of taken) t settles.1 lawful has_taken settles.0.2 in
    let now : line l.1.sid taken.text t ≡ (after taken.notes t, taken.output) =
    ap (λ (sid : ℕ). line sid taken.text t) (sym same_sid) ∙ run.recorded.means in
    let rest = settles_final edit lines steps (after l.1.notes s) (after taken.notes t) recorded.1 run.lawful
    (known_after taken.notes t (map sid_in lines) run.allowed known_rest) settles.2 (omega (arith, all)) in
    let left = edited_with edit l taken.text (map script_line lines) runs in
    let sides = rest_of edit l lines (Take taken) steps s t (record {
      recorded = ap (λ (p : State × List ℕ). p.0) was;
      before = ap (λ (p : State × List ℕ). p.1) was;
      repaired = ap (λ (o : Option (List ℕ)). state_of_run l.1.sid o t) runs ∙ ap (λ (p : State × List ℕ). p.0) now;
      now = ap (λ (o : Option (List ℕ)). output_of_run l.1.sid o t) runs ∙ ap (λ (p : State × List ℕ). p.1) now;
      verdict = stale;
    }) rest in
    let same_line : script_line (l.0, noted_of taken) ≡ with_text l taken.text =
    ap (λ (sid : ℕ). record { number = l.0; sid = sid; text = taken.text }) same_sid in
    record {
      outcome_is = ap (λ ls. outcome ls t) left
          ∙ outcome_first (with_text l taken.text) (edited edit (map script_line lines)) t _ _ now rest.outcome_is;
      on_the_way = sides.on_the_way;
      compensated = sides.compensated;
      verdicts = sides.verdicts;
      lines_are = ap₂ (λ x ls. x ∷ ls) same_line rest.lines_are ∙ sym left;
      recorded = (run.recorded, rest.recorded);
    }
