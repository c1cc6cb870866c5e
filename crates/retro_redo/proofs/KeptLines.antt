-- Lines kept without being looked at: what a repair keeps.
use Rattle.std.proofs.Common.{◌≡◌, ◌∙◌, inl, ℕ, zero, suc, false, List, [], ◌∷◌, ◌++◌, drop, length, map, take, None}
use Rattle.std.proofs.Common.{Option, Some, replicate, refl, sym, ap, subst, arith, ◌≤◌, ◌<◌, ◌-◌}
use Rattle.std.specs.FinMap as finmap
use Rattle.retro_tree.specs.Exact.{IsExact}
use Rattle.retro_tree.specs.Notes.{after, AgreeOn}
use Rattle.retro_tree.specs.Overlay.{OverlayMap}
use Rattle.retro_tree.specs.declared.state.State.{State}
use Rattle.retro_tree.proofs.ExactOverlays.{unmet_step}
use Rattle.retro_keep.specs.Recording.{IsWellFormed, RecordingValue}
use Rattle.retro_keep.specs.declared.edit.Edit.{Edit}
use Rattle.retro_redo.specs.inner.Keeping.{Keeps, kept_line}
use Rattle.retro_redo.specs.Progress.{ProgressValue, edit_in, next_line, next_number, recorded_now, repaired_now}
use Rattle.retro_redo.specs.Settling.{IsOneMore}
use Rattle.retro_redo.specs.Skipping.{AreUnmet, IsSkip, with_kept}
use Rattle.retro_redo.specs.declared.step.Step.{Step}
use Rattle.retro_redo.specs.declared.step.Step.TheVariants.{Keep}
use Rattle.retro_redo.specs.declared.verdict.SettledLine.{SettledLine}
use Rattle.retro_redo.specs.Moments.{IsMetBy, IsUnmetBy}
use Rattle.retro_redo.proofs.Before.{next_below, one_less}
use Rattle.retro_redo.proofs.EditCases.{unmet_not_met}
use Rattle.retro_redo.proofs.Keeping.{keeps_more, more}
use Rattle.retro_redo.proofs.Positions.{Line, recorded_more, repaired_more}
use Rattle.retro_difference.proofs.UsedLines.{line_at, rest_at}

pub length_more : (steps : List Step) (step : Step) → length (steps ++ step ∷ []) ≡ suc (length steps)
length_more [] step = refl
length_more (x ∷ steps) step = ap suc (length_more steps step)

one_more : (steps rest : List Step) (step : Step) → (steps ++ step ∷ []) ++ rest ≡ steps ++ step ∷ rest
one_more [] rest step = refl
one_more (x ∷ steps) rest step = ap (λ cs. x ∷ cs) (one_more steps rest step)

none_more : (steps : List Step) → steps ++ [] ≡ steps
none_more [] = refl
none_more (x ∷ steps) = ap (λ cs. x ∷ cs) (none_more steps)

with_choices : (p : ProgressValue) (a b : List Step) → a ≡ b
    → ◌≡◌ {A = ProgressValue} (record { recording = p.recording; edits = p.edits; choices = a })
    (record { recording = p.recording; edits = p.edits; choices = b })
with_choices p a b e = λ i. record { recording = p.recording; edits = p.edits; choices = e i }

-- the next lines are unmet, up to one that is edited or met
abbrev pub AreNextUnmet : ℕ → ProgressValue → Type 0
AreNextUnmet n p =
    AreUnmet (edit_in p) n (drop (length p.choices) p.recording.lines) (recorded_now p) (repaired_now p)

-- what is left of lines that are kept and aren't met, after some others
abbrev with_lines : List SettledLine → ℕ → List Line → List SettledLine
with_lines lines n rest = lines ++ map kept_line (take n rest)

one_line : (lines rest : List SettledLine) (l : SettledLine) → (lines ++ l ∷ []) ++ rest ≡ lines ++ l ∷ rest
one_line [] rest l = refl
one_line (x ∷ lines) rest l = ap (λ ls. x ∷ ls) (one_line lines rest l)

no_line : (lines : List SettledLine) → lines ++ [] ≡ lines
no_line [] = refl
no_line (x ∷ lines) = ap (λ ls. x ∷ ls) (no_line lines)

-- what one unmet line keeps, the first of them keep
along : (P : ProgressValue → List SettledLine → Type 0)
    → ((q : ProgressValue) (lines : List SettledLine) (l : Line) → next_line q ≡ Some l → edit_in q l.0 ≡ None
    → AgreeOn l.1.notes (recorded_now q) (repaired_now q) → P q lines → P (more q Keep) (lines ++ kept_line l ∷ []))
    → (n count : ℕ) (p : ProgressValue) (lines : List SettledLine) → n ≤ count → AreNextUnmet count p → P p lines
    → P (with_kept p n) (with_lines lines n (drop (length p.choices) p.recording.lines))
along P step zero count p lines le h at =
    subst (P (with_kept p zero)) (sym (no_line lines))
    (subst (λ x. P x lines) (with_choices p p.choices (p.choices ++ []) (sym (none_more p.choices))) at)
along P step (suc n) zero p lines le h at = absurd (omega (arith, le))
along P step (suc n) (suc count) p lines le h at =
    by_rest (drop (length p.choices) p.recording.lines) refl h
    (λ l. along P step n count (more p Keep) (lines ++ kept_line l ∷ []) (omega (arith, le)))
  where
    by_rest : (rest : List Line) → drop (length p.choices) p.recording.lines ≡ rest
        → AreUnmet (edit_in p) (suc count) rest (recorded_now p) (repaired_now p)
        → ((l : Line) → AreNextUnmet count (more p Keep) → P (more p Keep) (lines ++ kept_line l ∷ [])
        → P (with_kept (more p Keep) n) (with_lines (lines ++ kept_line l ∷ []) n
        (drop (length (p.choices ++ Keep ∷ [])) p.recording.lines)))
        → P (with_kept p (suc n)) (with_lines lines (suc n) rest)
    by_rest [] e unmet later = absurd unmet
    by_rest (l ∷ rest) e unmet later =
        let next = line_at p.recording.lines (length p.choices) l rest e in
        let rest_is : drop (length (p.choices ++ Keep ∷ [])) p.recording.lines ≡ rest =
        ap (λ k. drop k p.recording.lines) (length_more p.choices Keep)
        ∙ rest_at p.recording.lines (length p.choices) l rest e in
        let recorded = recorded_more p.recording.lines p.choices l Keep p.recording.first next in
        let repaired = repaired_more p.recording.lines p.choices l Keep p.recording.first next in
        let unmet_rest = subst (λ ls. AreUnmet (edit_in p) count ls (recorded_now (more p Keep))
        (repaired_now (more p Keep))) (sym rest_is)
        (subst (λ s. AreUnmet (edit_in p) count rest s (repaired_now (more p Keep))) (sym recorded)
        (subst (λ t. AreUnmet (edit_in p) count rest (after l.1.notes (recorded_now p)) t) (sym repaired)
        unmet.2)) in
        subst (P (with_kept p (suc n))) (one_line lines (map kept_line (take n rest)) (kept_line l))
        (subst (λ ls. P (with_kept p (suc n)) (with_lines (lines ++ kept_line l ∷ []) n ls)) rest_is
        (subst (λ x. P x (with_lines (lines ++ kept_line l ∷ []) n
        (drop (length (p.choices ++ Keep ∷ [])) p.recording.lines)))
        (with_choices p ((p.choices ++ Keep ∷ []) ++ replicate n Keep) (p.choices ++ Keep ∷ replicate n Keep)
        (one_more p.choices (replicate n Keep) Keep))
        (later l unmet_rest (step p lines l next unmet.0 unmet.1 at))))

-- the states after one more kept line
exact_more : (overlay : OverlayMap) (q : ProgressValue) (l : Line) → next_line q ≡ Some l
    → AgreeOn l.1.notes (recorded_now q) (repaired_now q) → IsExact overlay (recorded_now q) (repaired_now q)
    → IsExact overlay (recorded_now (more q Keep)) (repaired_now (more q Keep))
exact_more overlay q l next agreed exact =
    subst (λ s. IsExact overlay s (repaired_now (more q Keep)))
    (sym (recorded_more q.recording.lines q.choices l Keep q.recording.first next))
    (subst (λ t. IsExact overlay (after l.1.notes (recorded_now q)) t)
    (sym (repaired_more q.recording.lines q.choices l Keep q.recording.first next))
    (unmet_step overlay (recorded_now q) (repaired_now q) l.1.notes exact agreed))

exact_kept : (overlay : OverlayMap) (n count : ℕ) (p : ProgressValue) → n ≤ count → AreNextUnmet count p
    → IsExact overlay (recorded_now p) (repaired_now p)
    → IsExact overlay (recorded_now (with_kept p n)) (repaired_now (with_kept p n))
exact_kept overlay n count p le unmet exact =
    along (λ q lines. IsExact overlay (recorded_now q) (repaired_now q))
    (λ q lines l next other agreed at. exact_more overlay q l next agreed at) n count p [] le unmet exact

-- a line that isn't edited and whose cells agree isn't met
not_met : (q : ProgressValue) (l : Line) → edit_in q l.0 ≡ None
    → AgreeOn l.1.notes (recorded_now q) (repaired_now q)
    → IsMetBy (edit_in q l.0) l.1.notes (recorded_now q) (repaired_now q) → ⊥
not_met q l other agreed =
    unmet_not_met (edit_in q l.0) l.1.notes (recorded_now q) (repaired_now q)
    (subst (λ (o : Option Edit). IsUnmetBy o l.1.notes (recorded_now q) (repaired_now q)) (sym other) agreed)

keeps_kept : (overlay : OverlayMap) (n count : ℕ) (p : ProgressValue) (lines : List SettledLine) → n ≤ count
    → AreNextUnmet count p
    → Keeps p overlay lines × IsWellFormed p.recording
    → Keeps (with_kept p n) overlay (with_lines lines n (drop (length p.choices) p.recording.lines))
    × IsWellFormed p.recording
keeps_kept overlay =
    along (λ q lines. Keeps q overlay lines × IsWellFormed q.recording)
    (λ q lines l next other agreed at. (
      keeps_more q overlay overlay lines l Keep false at.0 at.1 next (other, inl agreed) tt
          (unmet_step overlay (recorded_now q) (repaired_now q) l.1.notes at.0.exact agreed)
          (not_met q l other agreed),
      at.1,
    ))

-- ---- goals of the code, where q is the progress as its fields are, and p as contracts see it

module _ (p q : ProgressValue) (overlay : OverlayMap) (lines : List SettledLine) (r : RecordingValue) (place n : ℕ)
    (steps : List Step) (e : q ≡ p) (keeps : Keeps q overlay lines) (w : IsWellFormed p.recording)
    (same : r ≡ p.recording) (at : place ≡ length q.choices)
    (unmet : (s t : State) → IsExact overlay s t → AreUnmet (finmap.get q.edits) n (drop place r.lines) s t)
    (pushed : steps ≡ q.choices ++ replicate n Keep) where
  unmet_now : AreNextUnmet n q
  unmet_now =
      subst (λ k. AreUnmet (finmap.get q.edits) n (drop k q.recording.lines) (recorded_now q) (repaired_now q)) at
      (subst (λ (x : RecordingValue). AreUnmet (finmap.get q.edits) n (drop place x.lines) (recorded_now q)
      (repaired_now q)) (same ∙ sym (ap (λ (x : ProgressValue). x.recording) e))
      (unmet (recorded_now q) (repaired_now q) keeps.exact))

  pub keeps_skipped : (unmet_ones : List Line) (new : List SettledLine)
      → unmet_ones ≡ take n (drop place r.lines) → new ≡ lines ++ map kept_line unmet_ones
      → Keeps (record { recording = q.recording; edits = q.edits; choices = steps }) overlay new
  keeps_skipped unmet_ones new taken left =
      let same_lines : r.lines ≡ q.recording.lines =
      ap (λ (x : RecordingValue). x.lines) (same ∙ sym (ap (λ (x : ProgressValue). x.recording) e)) in
      let left_is : new ≡ with_lines lines n (drop (length q.choices) q.recording.lines) =
      left ∙ ap (λ ls. lines ++ map kept_line ls) taken ∙ (λ i. with_lines lines n (drop (at i) (same_lines i))) in
      subst (λ cs. Keeps (record { recording = q.recording; edits = q.edits; choices = cs }) overlay new) (sym pushed)
      (subst (Keeps (with_kept q n) overlay) (sym left_is)
      (keeps_kept overlay n n q lines (omega arith) unmet_now
      (keeps, subst (λ (x : ProgressValue). IsWellFormed x.recording) (sym e) w)).0)

  pub skips : IsSkip p (record { recording = q.recording; edits = q.edits; choices = steps })
  skips =
      subst (λ x. IsSkip x (record { recording = q.recording; edits = q.edits; choices = steps })) e
      (subst (λ cs. IsSkip q (record { recording = q.recording; edits = q.edits; choices = cs })) (sym pushed)
      (record {
        count = n;
        recording = refl;
        edits = refl;
        choices = refl;
        unmet = unmet_now;
        exact = λ k le o exact. exact_kept o k n q le unmet_now exact;
      }))

-- ---- the loop of the repair

-- lines that are kept are settled
at_least : (steps rest : List Step) → length steps ≤ length (steps ++ rest)
at_least [] rest = omega arith
at_least (x ∷ steps) rest = let more_rest = at_least steps rest in omega (arith, more_rest)

-- a turn of the loop, which settles one more line after the kept ones, leaves fewer
pub fewer_left : (p m q : ProgressValue) (number : ℕ) → IsSkip p m → IsOneMore m q → next_number m ≡ Some number
    → length q.recording.lines - length q.choices < length p.recording.lines - length p.choices
fewer_left p m q number skip one next =
    let more = ap (λ (x : ProgressValue). length x.choices) one.1 ∙ length_more m.choices one.0 in
    let less = one_less m q (ap (λ (x : ProgressValue). x.recording) one.1) (omega (arith, more)) (next_below m number next)
    in
    let lines : length m.recording.lines ≡ length p.recording.lines =
    ap (λ (r : RecordingValue). length r.lines) skip.recording in
    let kept = subst (λ (cs : List Step). length p.choices ≤ length cs) (sym skip.choices)
    (at_least p.choices (replicate skip.count Keep)) in omega (arith, less, lines, kept)
