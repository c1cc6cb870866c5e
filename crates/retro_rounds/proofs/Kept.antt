-- Lines that a skip keeps: the states before them and after them.
use Rattle.std.proofs.Common.{◌≡◌, ◌∙◌, ℕ, zero, suc, ◌+◌, Bool, true, false, List, [], ◌∷◌, ◌++◌}
use Rattle.std.proofs.Common.{length, replicate, drop, refl, sym, ap, arith, subst}
use Rattle.retro_tree.specs.Cell.{value}
use Rattle.retro_tree.specs.Notes.{AgreeOn, after, changes, effects}
use Rattle.retro_tree.specs.declared.cell.Cell.{Cell}
use Rattle.retro_tree.specs.declared.note.Note.{Note}
use Rattle.retro_tree.specs.declared.state.State.{State}
use Rattle.retro_tree.proofs.NoteLaws.{touched_where_changed, value_after, value_unchanged}
use Rattle.retro_keep.specs.Recorded.{recorded_before}
use Rattle.retro_history.proofs.RecordedVersions.{state_before_line}
use Rattle.retro_keep.specs.Recording.{AllRecorded, IsWellFormed, RecordingValue, last_state}
use Rattle.retro_redo.specs.Moments.{Moment}
use Rattle.retro_redo.specs.Progress.{recorded_after, repaired_after, settled}
use Rattle.retro_redo.specs.declared.step.Step.{Step}
use Rattle.retro_redo.specs.declared.step.Step.TheVariants.{Keep}
use Rattle.retro_redo.proofs.Positions.{Line, moment}
use Rattle.retro_rounds.specs.Pieces.{Start}

-- the moments of lines that are kept, and the state after them
abbrev pub kept_moments : ℕ → List Line → State → State → List Moment
kept_moments zero lines s t = []
kept_moments (suc n) [] s t = []
kept_moments (suc n) (l ∷ lines) s t = moment l s t ∷ kept_moments n lines (after l.1.notes s) (after l.1.notes t)

abbrev pub after_kept : ℕ → List Line → State → State
after_kept zero lines s = s
after_kept (suc n) [] s = s
after_kept (suc n) (l ∷ lines) s = after_kept n lines (after l.1.notes s)

kept_settled : (n : ℕ) (lines : List Line) (s t : State)
    → settled lines (replicate n Keep) s t ≡ kept_moments n lines s t
kept_settled zero [] s t = refl
kept_settled zero (l ∷ lines) s t = refl
kept_settled (suc n) [] s t = refl
kept_settled (suc n) (l ∷ lines) s t =
    ap (λ ms. moment l s t ∷ ms) (kept_settled n lines (after l.1.notes s) (after l.1.notes t))

no_kept : (n : ℕ) (s t : State) → [] ≡ kept_moments n [] s t
no_kept zero s t = refl
no_kept (suc n) s t = refl

pub settled_kept : (lines : List Line) (steps : List Step) (n : ℕ) (s t : State)
    → settled lines (steps ++ replicate n Keep) s t
    ≡ settled lines steps s t
    ++ kept_moments n (drop (length steps) lines) (recorded_after lines steps s) (repaired_after lines steps t)
settled_kept [] [] n s t = no_kept n s t
settled_kept [] (step ∷ steps) n s t = no_kept n s t
settled_kept (l ∷ lines) [] n s t = kept_settled n (l ∷ lines) s t
settled_kept (l ∷ lines) (step ∷ steps) n s t = ap (λ ms. moment l s t ∷ ms) (settled_kept lines steps n _ _)

recorded_kept_all : (n : ℕ) (lines : List Line) (s : State)
    → recorded_after lines (replicate n Keep) s ≡ after_kept n lines s
recorded_kept_all zero [] s = refl
recorded_kept_all zero (l ∷ lines) s = refl
recorded_kept_all (suc n) [] s = refl
recorded_kept_all (suc n) (l ∷ lines) s = recorded_kept_all n lines (after l.1.notes s)

repaired_kept_all : (n : ℕ) (lines : List Line) (s : State)
    → repaired_after lines (replicate n Keep) s ≡ after_kept n lines s
repaired_kept_all zero [] s = refl
repaired_kept_all zero (l ∷ lines) s = refl
repaired_kept_all (suc n) [] s = refl
repaired_kept_all (suc n) (l ∷ lines) s = repaired_kept_all n lines (after l.1.notes s)

none_after : (n : ℕ) (s : State) → s ≡ after_kept n [] s
none_after zero s = refl
none_after (suc n) s = refl

pub recorded_kept : (lines : List Line) (steps : List Step) (n : ℕ) (s : State)
    → recorded_after lines (steps ++ replicate n Keep) s
    ≡ after_kept n (drop (length steps) lines) (recorded_after lines steps s)
recorded_kept [] [] n s = none_after n s
recorded_kept [] (step ∷ steps) n s = none_after n s
recorded_kept (l ∷ lines) [] n s = recorded_kept_all n (l ∷ lines) s
recorded_kept (l ∷ lines) (step ∷ steps) n s = recorded_kept lines steps n (after l.1.notes s)

pub repaired_kept : (lines : List Line) (steps : List Step) (n : ℕ) (s : State)
    → repaired_after lines (steps ++ replicate n Keep) s
    ≡ after_kept n (drop (length steps) lines) (repaired_after lines steps s)
repaired_kept [] [] n s = none_after n s
repaired_kept [] (step ∷ steps) n s = none_after n s
repaired_kept (l ∷ lines) [] n s = repaired_kept_all n (l ∷ lines) s
repaired_kept (l ∷ lines) (step ∷ steps) n s = repaired_kept lines steps n _

pub length_kept : (steps : List Step) (n : ℕ) → length (steps ++ replicate n Keep) ≡ length steps + n
length_kept [] zero = refl
length_kept [] (suc n) = let h = length_kept [] n in omega (arith, h)
length_kept (x ∷ steps) n = let h = length_kept steps n in omega (arith, h)

-- ---- facts of lines in the recorded states before them

-- the recorded state before each line, by its number
abbrev pub AreBefore : RecordingValue → List Line → State → Type 0
AreBefore r [] s = Unit {0}
AreBefore r (l ∷ lines) s = (recorded_before l.0 r ≡ s) × AreBefore r lines (after l.1.notes s)

last_more : (done : List Line) (l : Line) (s : State)
    → last_state (done ++ l ∷ []) s ≡ after l.1.notes (last_state done s)
last_more [] l s = refl
last_more (k ∷ done) l s = last_more done l (after k.1.notes s)

join_one : (done : List Line) (l : Line) (lines : List Line) → (done ++ l ∷ []) ++ lines ≡ done ++ l ∷ lines
join_one [] l lines = refl
join_one (k ∷ done) l lines = ap (λ ls. k ∷ ls) (join_one done l lines)

before_from : (r : RecordingValue) (done lines : List Line) → IsWellFormed r → r.lines ≡ done ++ lines
    → AreBefore r lines (last_state done r.first)
before_from r done [] well is = tt
before_from r done (l ∷ lines) well is = (
  state_before_line r done lines l well is,
  subst (AreBefore r lines) (last_more done l r.first)
      (before_from r (done ++ l ∷ []) lines well (is ∙ sym (join_one done l lines))),
)

before_rest : (r : RecordingValue) (lines : List Line) (steps : List Step) (s : State) → AreBefore r lines s
    → AreBefore r (drop (length steps) lines) (recorded_after lines steps s)
before_rest r [] [] s all = tt
before_rest r [] (step ∷ steps) s all = tt
before_rest r (l ∷ lines) [] s all = all
before_rest r (l ∷ lines) (step ∷ steps) s all = before_rest r lines steps (after l.1.notes s) all.1

pub before_left : (r : RecordingValue) (steps : List Step) → IsWellFormed r
    → AreBefore r (drop (length steps) r.lines) (recorded_after r.lines steps r.first)
before_left r steps well = before_rest r r.lines steps r.first (before_from r [] r.lines well refl)

pub recorded_left : (lines : List Line) (steps : List Step) (s : State) → AllRecorded lines s
    → AllRecorded (drop (length steps) lines) (recorded_after lines steps s)
recorded_left [] [] s all = tt
recorded_left [] (step ∷ steps) s all = tt
recorded_left (l ∷ lines) [] s all = all
recorded_left (l ∷ lines) (step ∷ steps) s all = recorded_left lines steps (after l.1.notes s) all.1

-- ---- states that differ alike

-- Two states differ in the same cells as the two at a start, and there the repaired values are the
-- same.
abbrev pub DifferAlike : Start → State → State → Type 0
DifferAlike start s t =
    (c : Cell) → (value c start.recorded ≡ value c start.repaired → value c s ≡ value c t)
    × (value c s ≡ value c t → value c start.recorded ≡ value c start.repaired)
    × ((value c start.recorded ≡ value c start.repaired → ⊥) → value c start.repaired ≡ value c t)

pub alike_itself : (s t : State) → DifferAlike (record { recorded = s; repaired = t }) s t
alike_itself s t = λ c. ((λ e. e), (λ e. e), (λ d. refl))

-- a line that uses no cell in which they differ
pub alike_more : (start : Start) (s t : State) (notes : List Note) → DifferAlike start s t → AgreeOn notes s t
    → DifferAlike start (after notes s) (after notes t)
alike_more start s t notes alike agree = λ c. by_test c (changes notes c) refl
  where
    by_test : (c : Cell) (b : Bool) → changes notes c ≡ b
        → (value c start.recorded ≡ value c start.repaired → value c (after notes s) ≡ value c (after notes t))
        × (value c (after notes s) ≡ value c (after notes t) → value c start.recorded ≡ value c start.repaired)
        × ((value c start.recorded ≡ value c start.repaired → ⊥) → value c start.repaired ≡ value c (after notes t))
    by_test c true e =
        let same : value c s ≡ value c t = agree c (touched_where_changed notes c e) in
        let was : value c start.recorded ≡ value c start.repaired = (alike c).1 same in (
          λ h. value_after notes c s ∙ ap (effects notes c) same ∙ sym (value_after notes c t),
          λ h. was,
          λ d. absurd (d was),
        )
    by_test c false e =
        let one = value_unchanged notes c s e in let two = value_unchanged notes c t e in (
          λ h. one ∙ (alike c).0 h ∙ sym two,
          λ h. (alike c).1 (sym one ∙ h ∙ two),
          λ d. (alike c).2 d ∙ sym two,
        )
