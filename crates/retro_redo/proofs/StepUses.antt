-- The next uses of cells at a step of a repair, where q is the progress as its fields are, and p as
-- contracts see it.
use Rattle.std.proofs.Common.{◌≡◌, ◌∙◌, ℕ, suc, Bool, List, [], ◌∷◌, ◌++◌, drop, length}
use Rattle.std.proofs.Common.{◌+◌, replicate, Some, MatchBool, refl, sym, ap, subst}
use Rattle.std.specs.List.{slice_get}
use Rattle.std.specs.FinMap as finmap
use Rattle.std.specs.Option.{is_some}
use Rattle.std.proofs.lemmas.Bool.{true≢false}
use Rattle.std.proofs.lemmas.List.{drop-drop, length-append, length-replicate}
use Rattle.retro_tree.specs.Exact.{IsExact}
use Rattle.retro_tree.specs.Notes.{AgreeOn}
use Rattle.retro_tree.specs.Overlay.{OverlayMap}
use Rattle.retro_tree.specs.declared.state.State.{State}
use Rattle.retro_keep.specs.Recorded.{recorded_before}
use Rattle.retro_keep.specs.Recording.{IsWellFormed, RecordingValue}
use Rattle.retro_history.proofs.Lines.{RiseFrom}
use Rattle.retro_difference.specs.Difference.{DifferenceValue, IsAmong, Stays}
use Rattle.retro_difference.specs.Meeting.{Met}
use Rattle.retro_difference.specs.NextUses.{KeepsUses, Use, starts_at}
use Rattle.retro_difference.proofs.Entries.{has_none, no_uses_sorted}
use Rattle.retro_difference.proofs.KeptUses.{met_by_start}
use Rattle.retro_difference.proofs.UsedLines.{from_line, rise_after}
use Rattle.retro_redo.specs.inner.Keeping.{Keeps}
use Rattle.retro_redo.specs.Progress.{ProgressValue, next_line, recorded_now, repaired_now}
use Rattle.retro_redo.specs.declared.step.Step.{Step}
use Rattle.retro_redo.specs.declared.step.Step.TheVariants.{Keep}
use Rattle.retro_redo.specs.declared.verdict.SettledLine.{SettledLine}
use Rattle.retro_redo.proofs.KeptLines.{length_more}
use Rattle.retro_redo.proofs.Positions.{Line}

-- the lines to settle
abbrev pub rest_of : ProgressValue → List Line
rest_of p = drop (length p.choices) p.recording.lines

-- if no line is settled
pub keeps_no_uses : (overlay : OverlayMap) (lines : List Line) (uses : List Use) → overlay ≡ finmap.empty
    → uses ≡ [] → KeepsUses overlay lines uses
keeps_no_uses overlay lines uses e none =
    subst (KeepsUses overlay lines) (sym none) (record {
      complete = λ c n key first.
          absurd (true≢false (sym key ∙ ap is_some (ap (λ (o : OverlayMap). finmap.get o c) e ∙ finmap.get-empty _ c)));
      sound = λ n c has. absurd (has_none n c has);
      first = tt;
      sorted = no_uses_sorted;
    })

module _ (p q : ProgressValue) (overlay : OverlayMap) (uses : List Use) (l : Line) (e : q ≡ p)
    (keeps : KeepsUses overlay (rest_of q) uses) (well : IsWellFormed p.recording) (next : next_line p ≡ Some l) where
  rising : RiseFrom 0 q.recording.lines
  rising = (subst (λ (x : ProgressValue). IsWellFormed x.recording) (sym e) well).rising

  next_here : slice_get q.recording.lines (length q.choices) ≡ Some l
  next_here = ap next_line e ∙ next

  -- the next line is met if an entry is at it
  pub next_met : (b : Bool) → b ≡ starts_at l.0 uses → (s t : State) → IsExact overlay s t
      → MatchBool b (Met l.1.notes s t) (AgreeOn l.1.notes s t)
  next_met b is s t exact =
      let k = length q.choices in
      let lines = q.recording.lines in
      subst (λ x. MatchBool x (Met l.1.notes s t) (AgreeOn l.1.notes s t)) (sym is)
      (met_by_start overlay l (drop (suc k) lines) uses (rise_after 0 lines k l rising next_here)
      (subst (λ ls. KeepsUses overlay ls uses) (from_line lines k l next_here) keeps) s t exact)

-- the uses of the lines to settle, as the difference has them if the line isn't settled and if it
-- is
module _ (p q : ProgressValue) (d new : DifferenceValue) (r : RecordingValue) (l : Line) (e : q ≡ p)
    (among : IsAmong (rest_of q) d) (well : IsWellFormed p.recording) (next : next_line p ≡ Some l)
    (same : r ≡ p.recording) where
  lines_are : r.lines ≡ q.recording.lines
  lines_are = ap (λ (x : RecordingValue). x.lines) (same ∙ sym (ap (λ (x : ProgressValue). x.recording) e))

  well_here : IsWellFormed r
  well_here = subst IsWellFormed (sym same) well

  at : slice_get r.lines (length q.choices) ≡ Some l
  at = ap (λ ls. slice_get ls (length q.choices)) lines_are ∙ ap next_line e ∙ next

  among_here : IsAmong (drop (length q.choices) r.lines) d
  among_here = subst (λ ls. IsAmong (drop (length q.choices) ls) d) (sym lines_are) among

  pub unsettled_uses : (steps : List Step) → steps ≡ q.choices → Stays r l.0 d new
      → IsAmong (drop (length steps) q.recording.lines) new
  unsettled_uses steps choices_are stays =
      subst (λ (cs : List Step). IsAmong (drop (length cs) q.recording.lines) new) (sym choices_are)
      (subst (λ ls. IsAmong (drop (length q.choices) ls) new) lines_are
      (stays.uses (length q.choices) l well_here at refl among_here))

  pub settled_uses : (step : Step) (steps : List Step) → steps ≡ q.choices ++ step ∷ []
      → recorded_before l.0 r ≡ recorded_now p → IsExact d.overlay (recorded_now q) (repaired_now q)
      → ((k : ℕ) (t : State) → IsWellFormed r → slice_get r.lines k ≡ Some l
      → IsExact d.overlay (recorded_before l.0 r) t → IsAmong (drop k r.lines) d
      → IsAmong (drop (suc k) r.lines) new)
      → IsAmong (drop (length steps) q.recording.lines) new
  settled_uses step steps pushed before exact over =
      subst (λ k. IsAmong (drop k q.recording.lines) new) (sym (ap length pushed ∙ length_more q.choices step))
      (subst (λ ls. IsAmong (drop (suc (length q.choices)) ls) new) lines_are
      (over (length q.choices) (repaired_now q) well_here at
      (subst (λ s. IsExact d.overlay s (repaired_now q)) (ap recorded_now e ∙ sym before) exact) among_here))

-- after lines that were kept without being looked at
pub skipped_uses : (choices : List Step) (lines : List Line) (overlay : OverlayMap) (uses : List Use) (place n : ℕ)
    (steps : List Step) → place ≡ length choices → KeepsUses overlay (drop n (drop place lines)) uses
    → steps ≡ choices ++ replicate n Keep → KeepsUses overlay (drop (length steps) lines) uses
skipped_uses choices lines overlay uses place n steps at keeps pushed =
    subst (λ ls. KeepsUses overlay ls uses)
    (drop-drop n place lines
    ∙ ap (λ k. drop k lines)
    (sym (ap length pushed ∙ length-append choices (replicate n Keep)
    ∙ (λ i. sym at i + length-replicate n Keep i)))) keeps

-- what is kept, if nothing changes
pub keeps_same : (q : ProgressValue) (overlay same_overlay : OverlayMap) (lines same_lines : List SettledLine)
    (steps : List Step) → Keeps q overlay lines → steps ≡ q.choices → same_lines ≡ lines → same_overlay ≡ overlay
    → Keeps (record { recording = q.recording; edits = q.edits; choices = steps }) same_overlay same_lines
keeps_same q overlay same_overlay lines same_lines steps keeps choices_are lines_are overlay_is =
    subst (λ (cs : List Step). Keeps (record { recording = q.recording; edits = q.edits; choices = cs }) same_overlay
    same_lines) (sym choices_are)
    (subst (λ (ls : List SettledLine). Keeps q same_overlay ls) (sym lines_are)
    (subst (λ (o : OverlayMap). Keeps q o lines) (sym overlay_is) keeps))
