-- Recorded lines, one by one.
use Rattle.std.proofs.Common.{◌≡◌, ◌∙◌, ℕ, zero, suc, ◌+◌, ◌<◌, ◌≤◌, List, [], ◌∷◌, ◌++◌, Option, Some, length, get_or, drop, take}
use Rattle.std.proofs.Common.{ap, arith, refl, slice_get, subst, sym}
use Rattle.std.proofs.lemmas.List.{take_more}
use Rattle.std.proofs.lemmas.Option.{slice_get_read}
use Rattle.retro_tree.specs.Notes.{after}
use Rattle.retro_tree.specs.declared.state.State.{State}
use Rattle.retro_keep.specs.Recording.{AllRecorded, IsRecorded, last_state}
use Rattle.retro_keep.specs.declared.noted.Noted.{Noted}

one_more : (lines : List (ℕ × Noted)) (l : ℕ × Noted) (s : State) → AllRecorded lines s
    → IsRecorded l.1 (last_state lines s) → AllRecorded (lines ++ l ∷ []) s
one_more [] l s h one = (one, tt)
one_more (k ∷ lines) l s h one = (h.0, one_more lines l (after k.1.notes s) h.1 one)

state_of_one_more : (lines : List (ℕ × Noted)) (l : ℕ × Noted) (s : State)
    → last_state (lines ++ l ∷ []) s ≡ after l.1.notes (last_state lines s)
state_of_one_more [] l s = refl
state_of_one_more (k ∷ lines) l s = state_of_one_more lines l (after k.1.notes s)

with_next : (lines : List (ℕ × Noted)) (i : ℕ) (d : ℕ × Noted) → i < length lines → d ≡ get_or lines i d
    → take (i + 1) lines ≡ take i lines ++ d ∷ []
with_next lines i d lt is = take_more lines i d lt ∙ ap (λ (l : ℕ × Noted). take i lines ++ l ∷ []) (sym is)

-- with the line at an index, lines are recorded if it is
pub recorded_on : (lines : List (ℕ × Noted)) (i : ℕ) (d : ℕ × Noted) (first s : State) → i < length lines
    → d ≡ get_or lines i d → AllRecorded (take i lines) first → s ≡ last_state (take i lines) first → IsRecorded d.1 s
    → AllRecorded (take (i + 1) lines) first
recorded_on lines i d first s lt is h state one =
    subst (λ ls. AllRecorded ls first) (sym (with_next lines i d lt is))
    (one_more (take i lines) d first h (subst (IsRecorded d.1) state one))

pub state_on : (lines : List (ℕ × Noted)) (i : ℕ) (d : ℕ × Noted) (first s next : State) → i < length lines
    → d ≡ get_or lines i d → s ≡ last_state (take i lines) first → next ≡ after d.1.notes s
    → next ≡ last_state (take (i + 1) lines) first
state_on lines i d first s next lt is state made =
    made ∙ ap (after d.1.notes) state ∙ sym (state_of_one_more (take i lines) d first)
    ∙ ap (λ ls. last_state ls first) (sym (with_next lines i d lt is))

pub line_at : (lines : List (ℕ × Noted)) (i : ℕ) (d : ℕ × Noted) → i < length lines → d ≡ get_or lines i d
    → slice_get lines i ≡ Some d
line_at lines i d lt is = slice_get_read lines (length lines) i d refl lt is

pub all_taken : (lines : List (ℕ × Noted)) (i : ℕ) → length lines ≤ i → take i lines ≡ lines
all_taken [] zero le = refl
all_taken [] (suc i) le = refl
all_taken (l ∷ lines) zero le = absurd (omega (arith, le))
all_taken (l ∷ lines) (suc i) le = ap (λ (ls : List (ℕ × Noted)). l ∷ ls) (all_taken lines i (omega (arith, le)))
