-- The recorded state before the next line, by its number.
use Rattle.std.proofs.Common.{◌≡◌, ◌∙◌, ℕ, zero, suc, List, [], ◌∷◌, ◌++◌, ◌<◌, ◌-◌, ◌+◌, length, Option, Some, None}
use Rattle.std.proofs.Common.{refl, sym, ap, arith, option_map}
use Rattle.std.specs.List.{slice_get}
use Rattle.retro_tree.specs.Notes.{after}
use Rattle.retro_tree.specs.declared.state.State.{State}
use Rattle.retro_keep.specs.Recording.{IsWellFormed, RecordingValue, last_state}
use Rattle.retro_keep.specs.Recorded.{recorded_before}
use Rattle.retro_history.proofs.RecordedVersions.{state_before_line}
use Rattle.retro_redo.specs.Progress.{ProgressValue, next_line, next_number, recorded_after, recorded_now}
use Rattle.retro_redo.specs.declared.step.Step.{Step}
use Rattle.retro_redo.proofs.Positions.{Line, not_none}

-- the lines before a settled one and those from it on
record Cut (lines : List Line) (steps : List Step) (l : Line) (s : State) : Type 0 where
  done : List Line
  rest : List Line
  lines_are : lines ≡ done ++ l ∷ rest
  state_is : last_state done s ≡ recorded_after lines steps s

cut : (lines : List Line) (steps : List Step) (l : Line) (s : State) → slice_get lines (length steps) ≡ Some l
    → Cut lines steps l s
cut [] steps l s next = absurd (not_none l next)
cut (k ∷ lines) [] l s next =
    let e : k ≡ l = cc in
    record { done = []; rest = lines; lines_are = ap (λ x. x ∷ lines) e; state_is = refl }
cut (k ∷ lines) (step ∷ steps) l s next =
    let more = cut lines steps l (after k.1.notes s) next in
    record {
      done = k ∷ more.done;
      rest = more.rest;
      lines_are = ap (λ ls. k ∷ ls) more.lines_are;
      state_is = more.state_is;
    }

by_line : (p : ProgressValue) (number : ℕ) (o : Option Line) → IsWellFormed p.recording → next_line p ≡ o
    → option_map (λ (l : Line). l.0) o ≡ Some number → recorded_before number p.recording ≡ recorded_now p
by_line p number None w e h = absurd (not_none number h)
by_line p number (Some l) w e h =
    let found = cut p.recording.lines p.choices l p.recording.first e in
    let same : l.0 ≡ number = cc in
    ap (λ n. recorded_before n p.recording) (sym same)
    ∙ state_before_line p.recording found.done found.rest l w found.lines_are ∙ found.state_is

pub before_next : (p : ProgressValue) (number : ℕ) → IsWellFormed p.recording → next_number p ≡ Some number
    → recorded_before number p.recording ≡ recorded_now p
before_next p number w h = by_line p number (next_line p) w refl h

-- an unsettled line is left
get_below : (lines : List Line) (k : ℕ) (l : Line) → slice_get lines k ≡ Some l → k < length lines
get_below [] k l e = absurd (not_none l e)
get_below (x ∷ lines) zero l e = omega arith
get_below (x ∷ lines) (suc k) l e = omega (arith, get_below lines k l e)

by_number : (p : ProgressValue) (number : ℕ) (o : Option Line) → next_line p ≡ o
    → option_map (λ (l : Line). l.0) o ≡ Some number → length p.choices < length p.recording.lines
by_number p number None e h = absurd (not_none number h)
by_number p number (Some l) e h = get_below p.recording.lines (length p.choices) l e

pub next_below : (p : ProgressValue) (number : ℕ) → next_number p ≡ Some number
    → length p.choices < length p.recording.lines
next_below p number h = by_number p number (next_line p) refl h

by_none : (o : Option Line) → option_map (λ (l : Line). l.0) o ≡ None → o ≡ None
by_none None h = refl
by_none (Some l) h = absurd (not_none l.0 (sym h))

pub no_line : (p : ProgressValue) → next_number p ≡ None → next_line p ≡ None
no_line p h = by_none (next_line p) h

-- a settled line is one less to settle
pub one_less : (p q : ProgressValue) → q.recording ≡ p.recording → length q.choices ≡ length p.choices + 1
    → length p.choices < length p.recording.lines
    → length q.recording.lines - length q.choices < length p.recording.lines - length p.choices
one_less p q e more lt =
    let same : length q.recording.lines ≡ length p.recording.lines =
    ap (λ (r : RecordingValue). length r.lines) e in
    omega (arith, same, more, lt)
