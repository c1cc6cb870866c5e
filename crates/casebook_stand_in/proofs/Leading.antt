-- Runs of texts, one after the other, over a state.
use Rattle.std.proofs.Common.{◌≡◌, ◌≢◌, ℕ, true, List, [], ◌∷◌, ◌++◌, sym, ap, ◌∙◌, subst, map}
use Rattle.std.specs.FinMap as finmap
use Rattle.retro_tree.specs.Cell.{value}
use Rattle.retro_tree.specs.Lawful.{IsLawful}
use Rattle.retro_tree.specs.Notes.{after, Holds, AllAllowed}
use Rattle.retro_tree.specs.Overlay.{OverlayMap, Fits}
use Rattle.retro_tree.specs.Commit.{committed}
use Rattle.retro_tree.specs.declared.cell.Cell.{Cell}
use Rattle.retro_tree.specs.declared.state.State.{State}
use Rattle.retro_tree.proofs.CommittedChanges.{committed_none}
use Rattle.retro_tree.proofs.Fitting.{fits_none}
use Rattle.retro_tree.proofs.KeptSessions.{notes_keep_sessions}
use Rattle.retro_tree.proofs.NoteLaws.{lawful_after}
use Rattle.retro_shell.specs.Line.{line}
use Rattle.retro_shell.specs.Runs.{RunValue, IsRun}
use Rattle.casebook_stand_in.specs.Texts.{IsRunIn, Lead, after_texts, text_in}
use Rattle.casebook_stand_in.specs.inner.Trials.{IsTrial}

-- one more run
lead_more : (sid : ℕ) (runs : List RunValue) (run : RunValue) (s t : State) → Lead sid runs s t → IsRunIn sid t run
    → Lead sid (runs ++ run ∷ []) s (after run.notes t)
lead_more sid [] run s t h is = (subst (λ x. IsRunIn sid x run) (sym h) is, ap (after run.notes) h)
lead_more sid (x ∷ xs) run s t h is = (h.0, lead_more sid xs run (after x.notes s) t h.1 is)

-- runs lead where their texts do
lead_texts : (sid : ℕ) (runs : List RunValue) (s t : State) → Lead sid runs s t
    → t ≡ after_texts sid (map text_in runs) s
lead_texts sid [] s t h = sym h
lead_texts sid (x ∷ xs) s t h =
    lead_texts sid xs (after x.notes s) t h.1
    ∙ ap (after_texts sid (map text_in xs)) (sym (ap (λ p. p.0) h.0.means))

-- a trial leads where its texts do
pub trial_texts : (sid : ℕ) (s : State) (runs : List RunValue) (cells : OverlayMap) (texts : List (List ℕ))
    → IsTrial sid s runs cells → map text_in runs ≡ texts → committed cells s ≡ after_texts sid texts s
trial_texts sid s runs cells texts trial eq =
    lead_texts sid runs s (committed cells s) trial.leads ∙ ap (λ ts. after_texts sid ts s) eq

-- a cell that a trial leaves otherwise than a state has it is left otherwise by its texts
pub unlike_texts : (sid : ℕ) (s t : State) (runs : List RunValue) (cells : OverlayMap) (texts : List (List ℕ)) (c : Cell)
    → IsTrial sid s runs cells → map text_in runs ≡ texts → value c (committed cells s) ≢ value c t
    → value c (after_texts sid texts s) ≢ value c t
unlike_texts sid s t runs cells texts c trial eq ne e =
    ne (ap (value c) (trial_texts sid s runs cells texts trial eq) ∙ e)

-- no runs
pub no_runs : (sid : ℕ) (s : State) (runs : List RunValue) (cells : OverlayMap) → runs ≡ [] → cells ≡ finmap.empty
    → IsLawful s → IsTrial sid s runs cells
no_runs sid s runs cells none empty h =
    subst (λ rs. IsTrial sid s rs cells) (sym none) (subst (IsTrial sid s []) (sym empty) (record {
      fits = fits_none;
      leads = sym (committed_none s);
      lawful = subst IsLawful (sym (committed_none s)) h;
      sessions = λ k. ap (λ (x : State). finmap.contains_key x.sessions k) (committed_none s);
    }))

-- a trial with one more run, over the state that the trial leaves
pub one_run_more : (sid : ℕ) (s : State) (runs all : List RunValue) (run : RunValue) (cells more : OverlayMap)
    → IsTrial sid s runs cells → finmap.contains_key s.sessions sid ≡ true → IsRun run → run.sid ≡ sid
    → Holds run.notes (committed cells s)
    → (IsLawful (committed cells s) → finmap.contains_key (committed cells s).sessions sid ≡ true
    → line sid run.text (committed cells s) ≡ (after run.notes (committed cells s), run.output))
    → Fits more → committed more s ≡ after run.notes (committed cells s) → all ≡ runs ++ run ∷ []
    → IsTrial sid s all more
one_run_more sid s runs all run cells more trial has is same holds means fit eq grown =
    subst (λ rs. IsTrial sid s rs more) (sym grown) (record {
      fits = fit;
      leads = subst (Lead sid (runs ++ run ∷ []) s) (sym eq)
          (lead_more sid runs run s (committed cells s) trial.leads
          (record { session = same; holds = holds; means = means trial.lawful has_now }));
      lawful = subst IsLawful (sym eq) (lawful_after run.notes (committed cells s) trial.lawful allowed);
      sessions = λ k. ap (λ (x : State). finmap.contains_key x.sessions k) eq
          ∙ notes_keep_sessions run.notes (committed cells s) allowed k ∙ trial.sessions k;
    })
  where
    has_now : finmap.contains_key (committed cells s).sessions sid ≡ true
    has_now = trial.sessions sid ∙ has

    allowed : AllAllowed run.notes (committed cells s)
    allowed = is.certified.allowed (committed cells s) trial.lawful
        (ap (finmap.contains_key (committed cells s).sessions) same ∙ has_now) holds
