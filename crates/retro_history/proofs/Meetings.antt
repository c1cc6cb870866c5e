-- The next line that meets one of some cells.
use Rattle.std.proofs.Common.{◌≡◌, ℕ, ◌<◌, Bool, true, false, ◌&&◌, ◌==◌, List, [], ◌∷◌, nat_lt}
use Rattle.std.proofs.Common.{Option, Some, None, IsTrue, refl, sym, ap, ◌∙◌, subst, arith}
use Rattle.std.specs.List.{All, list_any}
use Rattle.std.proofs.lemmas.Bool.{ltb-true, ltb-false, eq-eqb}
use Rattle.std.proofs.lemmas.List.Elements.{All-cons, All-nil, All-weaker}
use Rattle.retro_tree.specs.Notes.{touches}
use Rattle.retro_tree.specs.declared.cell.Cell.{Cell}
use Rattle.retro_tree.proofs.Small.{and_true, or_first, or_last}
use Rattle.retro_history.specs.Index.{AreNumbered, IsNextMeeting, Line, meets, next_use, numbers_of}
use Rattle.retro_history.specs.inner.IndexSteps.{next_of}
use Rattle.retro_history.specs.inner.Numbers.{earliest, first_above}
use Rattle.retro_history.proofs.Lines.{RiseFrom, above, earliest_assoc, earliest_none, first_more, first_of_more}
use Rattle.retro_history.proofs.Lines.{first_of_tests, later, numbers_of_more}

-- ---- from cell to cell

nothing_met : (lines : List Line) → numbers_of (meets []) lines ≡ []
nothing_met [] = refl
nothing_met (l ∷ lines) = nothing_met lines

-- the next line for one more cell
pub next_for_more : (after : ℕ) (c : Cell) (cells : List Cell) (lines : List Line) → AreNumbered lines
    → earliest (next_use after c lines) (next_of after cells lines) ≡ next_of after (c ∷ cells) lines
next_for_more after c cells lines rising =
    first_of_tests 0 after (λ l. touches l.1.notes c) (meets cells) lines rising

-- a loop over cells: what was found so far, with what is still to be found, is what is to be found
pub next_goes_on : (after : ℕ) (c : Cell) (cells : List Cell) (lines : List Line) (so_far total : Option ℕ)
    → AreNumbered lines → earliest so_far (next_of after (c ∷ cells) lines) ≡ total
    → earliest (earliest so_far (next_use after c lines)) (next_of after cells lines) ≡ total
next_goes_on after c cells lines so_far total rising is =
    earliest_assoc so_far (next_use after c lines) (next_of after cells lines)
    ∙ ap (earliest so_far) (next_for_more after c cells lines rising) ∙ is

pub next_ends : (after : ℕ) (lines : List Line) (found total : Option ℕ)
    → earliest found (next_of after [] lines) ≡ total → found ≡ total
next_ends after lines found total is =
    sym (earliest_none found) ∙ ap (λ ns. earliest found (first_above after ns)) (sym (nothing_met lines)) ∙ is

-- ---- the first number is the next meeting

-- the least number above another of a line that passes a test, or None if no line passes it
abbrev IsNext : (Line → Bool) → ℕ → List Line → Option ℕ → Type 0
IsNext p after lines None = All (λ l. after < l.0 → p l ≡ false) lines
IsNext p after lines (Some n) =
    (after < n) × IsTrue (list_any (λ l. (l.0 == n) && p l) lines)
    × All (λ l. after < l.0 → l.0 < n → p l ≡ false) lines

passed_over : (p : Line → Bool) (after : ℕ) (l : Line) (lines : List Line) (found : Option ℕ)
    → (after < l.0 → p l ≡ false) → IsNext p after lines found → IsNext p after (l ∷ lines) found
passed_over p after l lines None over h = All-cons (λ k. after < k.0 → p k ≡ false) l lines over h
passed_over p after l lines (Some n) over h = (
  h.0,
  or_last ((l.0 == n) && p l) _ h.1,
  All-cons (λ k. after < k.0 → k.0 < n → p k ≡ false) l lines (λ more less. over more) h.2,
)

all_later : (n : ℕ) (lines : List Line) → RiseFrom n lines → All (λ l. n < l.0) lines
all_later n [] rising = All-nil (λ l. n < l.0)
all_later n (l ∷ lines) rising =
    let here = above n l lines rising in
    All-cons (λ k. n < k.0) l lines here
    (All-weaker (λ k. l.0 < k.0) (λ k. n < k.0) (λ k more. omega (arith, here, more)) lines
    (all_later l.0 lines (later n l lines rising)))

found_here : (p : Line → Bool) (after : ℕ) (l : Line) (lines : List Line) → RiseFrom l.0 lines → after < l.0
    → p l ≡ true → IsNext p after (l ∷ lines) (Some l.0)
found_here p after l lines rising more passes = (
  more,
  or_first ((l.0 == l.0) && p l) _ (and_true (l.0 == l.0) (p l) (eq-eqb l.0 l.0 refl) passes),
  All-cons (λ k. after < k.0 → k.0 < l.0 → p k ≡ false) l lines (λ over less. absurd (omega (arith, less)))
      (All-weaker (λ k. l.0 < k.0) (λ k. after < k.0 → k.0 < l.0 → p k ≡ false)
      (λ k later over less. absurd (omega (arith, later, less))) lines (all_later l.0 lines rising)),
)

by_tests : (p : Line → Bool) (after : ℕ) (l : Line) (lines : List Line) (found : Option ℕ) (b c : Bool)
    → p l ≡ b → nat_lt after l.0 ≡ c → RiseFrom l.0 lines → IsNext p after lines found
    → IsNext p after (l ∷ lines) (first_more b c l.0 found)
by_tests p after l lines found true true e f rising h =
    found_here p after l lines rising (ltb-true after l.0 f) e
by_tests p after l lines found true false e f rising h =
    passed_over p after l lines found (λ more. absurd (omega (arith, more, ltb-false after l.0 f))) h
by_tests p after l lines found false c e f rising h = passed_over p after l lines found (λ more. e) h

first_is_next : (n : ℕ) (p : Line → Bool) (after : ℕ) (lines : List Line) → RiseFrom n lines
    → IsNext p after lines (first_above after (numbers_of p lines))
first_is_next n p after [] rising = All-nil (λ l. after < l.0 → p l ≡ false)
first_is_next n p after (l ∷ lines) rising =
    subst (IsNext p after (l ∷ lines))
    (sym (ap (first_above after) (numbers_of_more p l lines) ∙ first_of_more (p l) after l.0 (numbers_of p lines)))
    (by_tests p after l lines (first_above after (numbers_of p lines)) (p l) (nat_lt after l.0) refl refl
    (later n l lines rising) (first_is_next l.0 p after lines (later n l lines rising)))

pub next_is_meeting : (after : ℕ) (cells : List Cell) (lines : List Line) (found : Option ℕ) → AreNumbered lines
    → found ≡ next_of after cells lines → IsNextMeeting cells after lines found
next_is_meeting after cells lines found rising is =
    subst (IsNextMeeting cells after lines) (sym is) (same _ (first_is_next 0 (meets cells) after lines rising))
  where
    same : (o : Option ℕ) → IsNext (meets cells) after lines o → IsNextMeeting cells after lines o
    same None h = h
    same (Some n) h = h
