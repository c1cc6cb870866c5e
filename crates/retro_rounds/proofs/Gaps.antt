-- What a skip does to the counts: it goes through the rest of a piece, and through other pieces.
use Rattle.std.proofs.Common.{◌≡◌, ◌∙◌, ◌⊎◌, inl, inr, ℕ, zero, suc, ◌+◌, ◌-◌, ◌≤◌, ◌<◌, List, [], ◌∷◌, ◌++◌, length}
use Rattle.std.proofs.Common.{Option, None, take, drop, refl, sym, ap, arith, subst, append_assoc}
use Rattle.std.specs.List.{AllByRecursion}
use Rattle.std.proofs.lemmas.List.{append-nil}
use Rattle.retro_tree.specs.Notes.{AgreeOn, Holds, after}
use Rattle.retro_tree.specs.declared.state.State.{State}
use Rattle.retro_tree.proofs.NoteLaws.{holds_where_agreed}
use Rattle.retro_keep.specs.Recorded.{recorded_before}
use Rattle.retro_keep.specs.Recording.{AllRecorded, RecordingValue, number_in}
use Rattle.retro_keep.specs.declared.edit.Edit.{Edit}
use Rattle.retro_redo.specs.Moments.{Moment}
use Rattle.retro_redo.specs.Picks.{PicksBy}
use Rattle.retro_redo.specs.Skipping.{AreUnmet}
use Rattle.retro_redo.proofs.Positions.{Line, moment}
use Rattle.retro_rounds.specs.Jobs.{IsJob}
use Rattle.retro_rounds.specs.inner.Rounds.{IsJobLine}
use Rattle.retro_rounds.specs.Pieces.{Start}
use Rattle.retro_rounds.specs.inner.Places.{Place, after_line, after_lines}
use Rattle.retro_rounds.proofs.ByEdits.{met_unedited}
use Rattle.retro_rounds.proofs.Counting.{AreCounted, beside, no_job, same_counted, start_of, unused_job}
use Rattle.retro_rounds.proofs.Kept.{AreBefore, DifferAlike, after_kept, alike_itself, alike_more, kept_moments}

-- nothing edits the first lines, and they use no cell in which the two states differ, each in the
-- states before it
abbrev pub AreAgreed : (ℕ → Option Edit) → ℕ → List Line → State → State → Type 0
AreAgreed edit zero lines s t = Unit {0}
AreAgreed edit (suc n) [] s t = ⊥
AreAgreed edit (suc n) (l ∷ lines) s t =
    (edit l.0 ≡ None) × AgreeOn l.1.notes s t
    × AreAgreed edit n lines (after l.1.notes s) (after l.1.notes t)

pub unmet_agreed : (edit : ℕ → Option Edit) (n : ℕ) (lines : List Line) (s t : State) → AreUnmet edit n lines s t
    → AreAgreed edit n lines s t
unmet_agreed edit zero lines s t h = tt
unmet_agreed edit (suc n) [] s t h = h
unmet_agreed edit (suc n) (l ∷ lines) s t h =
    (h.0, h.1, unmet_agreed edit n lines (after l.1.notes s) (after l.1.notes t) h.2)

module _ (edit : ℕ → Option Edit) (r : RecordingValue) (cuts : List ℕ) (own : Type 0) where
  -- ---- lines after the piece at whose beginning jobs were made

  pub record AfterFresh (n : ℕ) (lines : List Line) (s t : State) (done : List Moment) (left : ℕ) (rest : List ℕ) (j u : ℕ)
      : Type 0 where
    pub left_now : ℕ
    pub start_now : Start
    pub rest_now : List ℕ
    pub counted : AreCounted edit cuts own (done ++ kept_moments n lines s t) left_now start_now rest_now j u
    pub place : ◌≡◌ {A = Place} (record { left = left_now; cuts = rest_now })
        (after_lines n (record { left = left; cuts = rest }))
    pub alike : (left_now ≡ 0) ⊎ DifferAlike start_now (after_kept n lines s) (after_kept n lines t)

  alike_here : (l : Line) (s t : State) (left : ℕ) (start : Start) → (left ≡ 0) ⊎ DifferAlike start s t
      → DifferAlike (start_of left start (moment l s t)) s t
  alike_here l s t zero start h = alike_itself s t
  alike_here l s t (suc left) start (inl e) = absurd (omega (arith, e))
  alike_here l s t (suc left) start (inr h) = h

  over_fresh : (n : ℕ) (lines : List Line) (s t : State) (done : List Moment) (left : ℕ) (start : Start) (rest : List ℕ)
      (j u : ℕ) → AreAgreed edit n lines s t → (left ≡ 0) ⊎ DifferAlike start s t
      → AreCounted edit cuts own done left start rest j u → AfterFresh n lines s t done left rest j u
  over_fresh zero lines s t done left start rest j u agreed alike counted = record {
    left_now = left;
    start_now = start;
    rest_now = rest;
    counted = same_counted edit cuts own done (done ++ []) left left start rest j j u u (sym (append-nil done)) refl refl refl
        counted;
    place = refl;
    alike = alike;
  }
  over_fresh (suc n) [] s t done left start rest j u agreed alike counted = absurd agreed
  over_fresh (suc n) (l ∷ lines) s t done left start rest j u agreed alike counted =
      let m = moment l s t in
      let here = alike_here l s t left start alike in
      let not_job : ¬ (IsJob edit (beside left start m)) = λ job.
      let met = met_unedited l.1.notes (edit l.0) (start_of left start m).recorded (start_of left start m).repaired agreed.0
      job.0 in
      met.2 ((here met.0).1 (agreed.1 met.0 met.1)) in
      let more = over_fresh n lines (after l.1.notes s) (after l.1.notes t) (done ++ m ∷ []) (after_line left rest).left
      (start_of left start m) (after_line left rest).cuts j u agreed.2
      (inr (alike_more (start_of left start m) s t l.1.notes here agreed.1))
      (no_job edit cuts own done left start rest m j u counted not_job) in
      record {
        left_now = more.left_now;
        start_now = more.start_now;
        rest_now = more.rest_now;
        counted = same_counted edit cuts own ((done ++ m ∷ []) ++ kept_moments n lines (after l.1.notes s) (after l.1.notes t))
            (done ++ m ∷ kept_moments n lines (after l.1.notes s) (after l.1.notes t)) more.left_now more.left_now
            more.start_now more.rest_now j j u u
            (append_assoc done (m ∷ []) (kept_moments n lines (after l.1.notes s) (after l.1.notes t))) refl refl refl
            more.counted;
        place = more.place;
        alike = more.alike;
      }

  -- ---- lines from within a piece on

  pub record AfterGap (n : ℕ) (lines : List Line) (s t : State) (done : List Moment) (left : ℕ) (start : Start)
      (rest qs : List ℕ) (j u : ℕ) : Type 0 where
    pub gone : List ℕ
    pub later : List ℕ
    pub both : qs ≡ gone ++ later
    pub few : length gone ≤ n
    pub low : (bound : ℕ) → AllByRecursion (λ (l : Line). l.0 < bound) (take n lines)
        → AllByRecursion (λ q. q < bound) gone
    pub later_are : PicksBy number_in (λ l. IsJobLine edit start (recorded_before l.0 r) l)
        (take (left - n) (drop n lines)) later
    pub left_now : ℕ
    pub start_now : Start
    pub rest_now : List ℕ
    pub counted : AreCounted edit cuts own (done ++ kept_moments n lines s t) left_now start_now rest_now
        (j + length gone) (u + length gone)
    pub place : ◌≡◌ {A = Place} (record { left = left_now; cuts = rest_now })
        (after_lines n (record { left = left; cuts = rest }))
    pub mode : ((n ≤ left) × (start_now ≡ start))
        ⊎ ((left ≤ n) × ((left_now ≡ 0) ⊎ DifferAlike start_now (after_kept n lines s) (after_kept n lines t)))

  -- one line more in the same piece
  mode_more : (n left : ℕ) (now start : Start) (X : Type 0) → ((n ≤ left) × (now ≡ start)) ⊎ ((left ≤ n) × X)
      → ((suc n ≤ suc left) × (now ≡ start)) ⊎ ((suc left ≤ suc n) × X)
  mode_more n left now start X (inl h) = let le = h.0 in inl (omega (arith, le), h.1)
  mode_more n left now start X (inr h) = let le = h.0 in inr (omega (arith, le), h.1)

  pub over_gap : (n : ℕ) (lines : List Line) (s t : State) (done : List Moment) (left : ℕ) (start : Start) (rest qs : List ℕ)
      (j u : ℕ) → AreAgreed edit n lines s t → AreBefore r lines s → (own → AllRecorded lines s)
      → PicksBy number_in (λ l. IsJobLine edit start (recorded_before l.0 r) l) (take left lines) qs
      → AreCounted edit cuts own done left start rest j u
      → AfterGap n lines s t done left start rest qs j u
  over_gap zero lines s t done left start rest qs j u agreed before recorded picked counted =
      let all : left ≡ left - 0 = omega arith in
      let jobs : j ≡ j + 0 = omega arith in
      let unused : u ≡ u + 0 = omega arith in
      record {
        gone = [];
        later = qs;
        both = refl;
        few = omega arith;
        low = λ bound h. tt;
        later_are = subst (λ k. PicksBy number_in (λ l. IsJobLine edit start (recorded_before l.0 r) l) (take k lines) qs)
            all picked;
        left_now = left;
        start_now = start;
        rest_now = rest;
        counted = same_counted edit cuts own done (done ++ []) left left start rest j (j + 0) u (u + 0) (sym (append-nil done))
            refl jobs unused counted;
        place = refl;
        mode = inl (omega arith, refl);
      }
  over_gap (suc n) lines s t done zero start rest qs j u agreed before recorded picked counted =
      let fresh = over_fresh (suc n) lines s t done zero start rest j u agreed (inl refl) counted in
      let none : 0 ≡ 0 - suc n = omega arith in
      let jobs : j ≡ j + 0 = omega arith in
      let unused : u ≡ u + 0 = omega arith in
      record {
        gone = [];
        later = qs;
        both = refl;
        few = omega arith;
        low = λ bound h. tt;
        later_are = subst (λ k. PicksBy number_in (λ l. IsJobLine edit start (recorded_before l.0 r) l)
            (take k (drop (suc n) lines)) qs) none picked;
        left_now = fresh.left_now;
        start_now = fresh.start_now;
        rest_now = fresh.rest_now;
        counted = same_counted edit cuts own (done ++ kept_moments (suc n) lines s t)
            (done ++ kept_moments (suc n) lines s t) fresh.left_now fresh.left_now fresh.start_now fresh.rest_now j (j + 0) u
            (u + 0) refl refl jobs unused fresh.counted;
        place = fresh.place;
        mode = inr (omega arith, fresh.alike);
      }
  over_gap (suc n) [] s t done (suc left) start rest qs j u agreed before recorded picked counted = absurd agreed
  over_gap (suc n) (l ∷ lines) s t done (suc left) start rest qs j u agreed before recorded (inl p) counted =
      let m = moment l s t in
      let job : IsJob edit (beside (suc left) start m) = subst (λ x. IsJobLine edit start x l) before.0 p.0 in
      let kept : own → (edit l.0 ≡ None) × Holds l.1.notes t = λ o.
      (agreed.0, holds_where_agreed l.1.notes s t agreed.1 (recorded o).0.holds) in
      let more = over_gap n lines (after l.1.notes s) (after l.1.notes t) (done ++ m ∷ []) left start rest p.1 (j + 1) (u + 1)
      agreed.2 before.1 (λ o. (recorded o).1) p.3
      (unused_job edit cuts own done (suc left) start rest m j u counted job kept) in
      let less : left - n ≡ suc left - suc n = omega arith in
      let jobs : j + 1 + length more.gone ≡ j + suc (length more.gone) = omega arith in
      let unused : u + 1 + length more.gone ≡ u + suc (length more.gone) = omega arith in
      let few = more.few in
      record {
        gone = l.0 ∷ more.gone;
        later = more.later;
        both = p.2 ∙ ap (λ ns. l.0 ∷ ns) more.both;
        few = omega (arith, few);
        low = λ bound h. (h.0, more.low bound h.1);
        later_are = subst (λ k. PicksBy number_in (λ x. IsJobLine edit start (recorded_before x.0 r) x)
            (take k (drop n lines)) more.later) less more.later_are;
        left_now = more.left_now;
        start_now = more.start_now;
        rest_now = more.rest_now;
        counted = same_counted edit cuts own ((done ++ m ∷ []) ++ kept_moments n lines (after l.1.notes s) (after l.1.notes t))
            (done ++ m ∷ kept_moments n lines (after l.1.notes s) (after l.1.notes t)) more.left_now more.left_now
            more.start_now more.rest_now (j + 1 + length more.gone) (j + suc (length more.gone))
            (u + 1 + length more.gone) (u + suc (length more.gone))
            (append_assoc done (m ∷ []) (kept_moments n lines (after l.1.notes s) (after l.1.notes t))) refl jobs unused
            more.counted;
        place = more.place;
        mode = mode_more n left more.start_now start _ more.mode;
      }
  over_gap (suc n) (l ∷ lines) s t done (suc left) start rest qs j u agreed before recorded (inr p) counted =
      let m = moment l s t in
      let not_job : ¬ (IsJob edit (beside (suc left) start m)) = λ job.
      p.0 (subst (λ x. IsJobLine edit start x l) (sym before.0) job) in
      let more = over_gap n lines (after l.1.notes s) (after l.1.notes t) (done ++ m ∷ []) left start rest qs j u
      agreed.2 before.1 (λ o. (recorded o).1) p.1
      (no_job edit cuts own done (suc left) start rest m j u counted not_job) in
      let less : left - n ≡ suc left - suc n = omega arith in
      let few = more.few in
      record {
        gone = more.gone;
        later = more.later;
        both = more.both;
        few = omega (arith, few);
        low = λ bound h. more.low bound h.1;
        later_are = subst (λ k. PicksBy number_in (λ x. IsJobLine edit start (recorded_before x.0 r) x)
            (take k (drop n lines)) more.later) less more.later_are;
        left_now = more.left_now;
        start_now = more.start_now;
        rest_now = more.rest_now;
        counted = same_counted edit cuts own ((done ++ m ∷ []) ++ kept_moments n lines (after l.1.notes s) (after l.1.notes t))
            (done ++ m ∷ kept_moments n lines (after l.1.notes s) (after l.1.notes t)) more.left_now more.left_now
            more.start_now more.rest_now (j + length more.gone) (j + length more.gone) (u + length more.gone)
            (u + length more.gone)
            (append_assoc done (m ∷ []) (kept_moments n lines (after l.1.notes s) (after l.1.notes t))) refl refl refl
            more.counted;
        place = more.place;
        mode = mode_more n left more.start_now start _ more.mode;
      }
