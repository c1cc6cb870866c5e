-- Lines that use a cell: the first one, the next one above a number, and lines in turn.
use Rattle.std.proofs.Common.{◌≡◌, ◌∙◌, ℕ, zero, suc, ◌<◌, ◌≤◌, ◌==◌, Bool, true, false, ◌&&◌, cond, nat_lt}
use Rattle.std.proofs.Common.{List, [], ◌∷◌, drop, get_or, length, Option, Some, None, refl, sym, ap, arith, subst}
use Rattle.std.specs.List.{AllByRecursion, slice_get}
use Rattle.std.specs.List.Sorted.{IsNonDecreasingBy}
use Rattle.std.specs.Option.{is_some}
use Rattle.std.proofs.lemmas.Bool.{true≢false, eq-eqb, eqb-true, le-ltb, lt-ltb}
use Rattle.retro_tree.specs.Notes.{touches}
use Rattle.retro_tree.specs.declared.cell.Cell.{Cell}
use Rattle.retro_tree.proofs.Small.{and_true, both_true, first_true, or_first, or_last, some_same}
use Rattle.retro_keep.specs.Recording.{noted_at}
use Rattle.retro_history.specs.inner.Numbers.{first_above}
use Rattle.retro_history.proofs.Lines.{RiseFrom, above, first_more, first_of_more, later, numbers_of_more}
use Rattle.retro_difference.specs.NextUses.{first_use, is_use}
use Rattle.retro_difference.proofs.Entries.{or_rest}
use Rattle.retro_history.specs.Index.{Line, next_use, numbers_of}

pub not_none : {A : Type 0} (x : A) → None ≡ Some x → ⊥
not_none x e = cc

-- ---- places in a list

pub rest_at : (lines : List Line) (k : ℕ) (l : Line) (rest : List Line) → drop k lines ≡ l ∷ rest
    → drop (suc k) lines ≡ rest
rest_at [] zero l rest e = cc
rest_at [] (suc k) l rest e = cc
rest_at (x ∷ lines) zero l rest e = cc
rest_at (x ∷ lines) (suc k) l rest e = rest_at lines k l rest e

pub line_at : (lines : List Line) (k : ℕ) (l : Line) (rest : List Line) → drop k lines ≡ l ∷ rest
    → slice_get lines k ≡ Some l
line_at [] zero l rest e = cc
line_at [] (suc k) l rest e = cc
line_at (x ∷ lines) zero l rest e = cc
line_at (x ∷ lines) (suc k) l rest e = line_at lines k l rest e

pub from_line : (lines : List Line) (k : ℕ) (l : Line) → slice_get lines k ≡ Some l
    → drop k lines ≡ l ∷ drop (suc k) lines
from_line [] k l e = absurd (not_none l e)
from_line (x ∷ lines) zero l e = let same : x ≡ l = cc in ap (λ y. y ∷ lines) same
from_line (x ∷ lines) (suc k) l e = from_line lines k l e

pub no_more : (lines : List Line) (k : ℕ) → slice_get lines k ≡ None → drop k lines ≡ []
no_more [] zero e = refl
no_more [] (suc k) e = refl
no_more (x ∷ lines) zero e = absurd (not_none x (sym e))
no_more (x ∷ lines) (suc k) e = no_more lines k e

-- ---- numbers that rise

pub rise_less : (m n : ℕ) (lines : List Line) → m ≤ n → RiseFrom n lines → RiseFrom m lines
rise_less m n [] le rise = refl
rise_less m n (l ∷ lines) le rise =
    let here = above n l lines rise in
    and_true _ _ (lt-ltb m l.0 (omega (arith, le, here))) (later n l lines rise)

-- numbers rise from a place on
pub rise_from : (m : ℕ) (lines : List Line) (k : ℕ) → RiseFrom m lines → RiseFrom m (drop k lines)
rise_from m lines zero rise = rise
rise_from m [] (suc k) rise = refl
rise_from m (l ∷ lines) (suc k) rise =
    let here = above m l lines rise in
    rise_less m l.0 (drop k lines) (omega (arith, here)) (rise_from l.0 lines k (later m l lines rise))

-- a line at a place is above the number from which they rise, and those after it are above it
pub above_at : (m : ℕ) (lines : List Line) (k : ℕ) (l : Line) → RiseFrom m lines → slice_get lines k ≡ Some l
    → m < l.0
above_at m [] k l rise e = absurd (not_none l e)
above_at m (x ∷ lines) zero l rise e =
    let same : x ≡ l = cc in subst (λ (y : Line). m < y.0) same (above m x lines rise)
above_at m (x ∷ lines) (suc k) l rise e =
    let here = above m x lines rise in
    let more = above_at x.0 lines k l (later m x lines rise) e in omega (arith, here, more)

pub rise_after : (m : ℕ) (lines : List Line) (k : ℕ) (l : Line) → RiseFrom m lines → slice_get lines k ≡ Some l
    → RiseFrom l.0 (drop (suc k) lines)
rise_after m [] k l rise e = absurd (not_none l e)
rise_after m (x ∷ lines) zero l rise e =
    let same : x ≡ l = cc in subst (λ (y : Line). RiseFrom y.0 lines) same (later m x lines rise)
rise_after m (x ∷ lines) (suc k) l rise e = rise_after x.0 lines k l (later m x lines rise) e

pub all_from : (m n : ℕ) (lines : List Line) → m ≤ n → RiseFrom n lines → AllByRecursion (λ l. m ≤ l.0) lines
all_from m n [] le rise = tt
all_from m n (l ∷ lines) le rise =
    let here = above n l lines rise in
    (omega (arith, le, here), all_from m l.0 lines (omega (arith, le, here)) (later n l lines rise))

pub apart : (a n : ℕ) → a < n → (a == n) ≡ false
apart a n lt = by_test (a == n) refl
  where
    by_test : (b : Bool) → (a == n) ≡ b → (a == n) ≡ false
    by_test true e = let same = eqb-true a n e in absurd (omega (arith, lt, same))
    by_test false e = e

-- ---- a line with a number

pub past_line : (s : ℕ) (x : Line) (lines : List Line) → x.0 < s → is_some (noted_at s (x ∷ lines)) ≡ true
    → is_some (noted_at s lines) ≡ true
past_line s x lines lt has = sym (ap (λ b. is_some (cond b (Some x.1) (noted_at s lines))) (apart x.0 s lt)) ∙ has

-- a line with a number has it also among the lines from a place on, if the one there has no greater
-- number
pub line_from : (m s : ℕ) (lines : List Line) (k : ℕ) (l : Line) → RiseFrom m lines → slice_get lines k ≡ Some l
    → l.0 ≤ s → is_some (noted_at s lines) ≡ true → is_some (noted_at s (drop k lines)) ≡ true
line_from m s [] k l rise e le has = absurd (not_none l e)
line_from m s (x ∷ lines) zero l rise e le has = has
line_from m s (x ∷ lines) (suc k) l rise e le has =
    let more = above_at x.0 lines k l (later m x lines rise) e in
    line_from x.0 s lines k l (later m x lines rise) e le (past_line s x lines (omega (arith, le, more)) has)

pub number_above : (m s : ℕ) (lines : List Line) → RiseFrom m lines → is_some (noted_at s lines) ≡ true → m < s
number_above m s [] rise has = absurd (true≢false (sym has))
number_above m s (l ∷ lines) rise has = by_test (l.0 == s) refl (number_above l.0 s lines (later m l lines rise))
  where
    by_test : (b : Bool) → (l.0 == s) ≡ b → (is_some (noted_at s lines) ≡ true → l.0 < s) → m < s
    by_test true e rest =
        let here = above m l lines rise in let same = eqb-true l.0 s e in omega (arith, here, same)
    by_test false e rest =
        let here = above m l lines rise in
        let more = rest (sym (ap (λ b. is_some (cond b (Some l.1) (noted_at s lines))) e) ∙ has) in
        omega (arith, here, more)

-- ---- uses

pub use_above : (m : ℕ) (lines : List Line) (n : ℕ) (c : Cell) → RiseFrom m lines → is_use n c lines ≡ true → m < n
use_above m [] n c rise h = absurd (true≢false (sym h))
use_above m (l ∷ lines) n c rise h =
    by_test ((l.0 == n) && touches l.1.notes c) refl (use_above l.0 lines n c (later m l lines rise))
  where
    here : m < l.0
    here = above m l lines rise

    by_test : (b : Bool) → ((l.0 == n) && touches l.1.notes c) ≡ b → (is_use n c lines ≡ true → l.0 < n) → m < n
    by_test true e rest =
        let more = here in let same = eqb-true l.0 n (first_true (l.0 == n) _ e) in omega (arith, more, same)
    by_test false e rest =
        let more = here in let last = rest (or_rest _ _ e h) in omega (arith, more, last)

-- a use at a number that isn't the first line's is one of the lines after it
pub use_past : (l : Line) (lines : List Line) (n : ℕ) (c : Cell) → (l.0 == n) ≡ false → is_use n c (l ∷ lines) ≡ true
    → is_use n c lines ≡ true
use_past l lines n c e h = or_rest _ _ (ap (λ b. b && touches l.1.notes c) e) h

-- a use at the first line's number is by this line
pub use_at_head : (l : Line) (lines : List Line) (c : Cell) → RiseFrom l.0 lines → is_use l.0 c (l ∷ lines) ≡ true
    → touches l.1.notes c ≡ true
use_at_head l lines c rise h = by_test ((l.0 == l.0) && touches l.1.notes c) refl
  where
    by_test : (b : Bool) → ((l.0 == l.0) && touches l.1.notes c) ≡ b → touches l.1.notes c ≡ true
    by_test true e = both_true (l.0 == l.0) _ e
    by_test false e = let more = use_above l.0 lines l.0 c rise (or_rest _ _ e h) in absurd (omega (arith, more))

pub later_use : (l : Line) (lines : List Line) (n : ℕ) (c : Cell) → is_use n c lines ≡ true
    → is_use n c (l ∷ lines) ≡ true
later_use l lines n c h = or_last _ _ h

-- ---- the first use

pub first_at_head : (l : Line) (lines : List Line) (c : Cell) → touches l.1.notes c ≡ true
    → first_use c (l ∷ lines) ≡ Some l.0
first_at_head l lines c e = ap (λ b. cond b (Some l.0) (first_use c lines)) e

pub first_past : (l : Line) (lines : List Line) (c : Cell) → touches l.1.notes c ≡ false
    → first_use c (l ∷ lines) ≡ first_use c lines
first_past l lines c e = ap (λ b. cond b (Some l.0) (first_use c lines)) e

pub first_is_use : (c : Cell) (lines : List Line) (n : ℕ) → first_use c lines ≡ Some n → is_use n c lines ≡ true
first_is_use c [] n h = absurd (not_none n h)
first_is_use c (l ∷ lines) n h = by_test (touches l.1.notes c) refl (first_is_use c lines n)
  where
    by_test : (b : Bool) → touches l.1.notes c ≡ b → (first_use c lines ≡ Some n → is_use n c lines ≡ true)
        → is_use n c (l ∷ lines) ≡ true
    by_test true e rest =
        let same = some_same l.0 n (sym (first_at_head l lines c e) ∙ h) in
        or_first ((l.0 == n) && touches l.1.notes c) _ (and_true (l.0 == n) _ (eq-eqb l.0 n same) e)
    by_test false e rest = later_use l lines n c (rest (sym (first_past l lines c e) ∙ h))

-- ---- the next use above a number

pub next_more : (n : ℕ) (c : Cell) (l : Line) (lines : List Line)
    → next_use n c (l ∷ lines) ≡ first_more (touches l.1.notes c) (nat_lt n l.0) l.0 (next_use n c lines)
next_more n c l lines =
    ap (first_above n) (numbers_of_more (λ (x : Line). touches x.1.notes c) l lines)
    ∙ first_of_more (touches l.1.notes c) n l.0 (numbers_of (λ (x : Line). touches x.1.notes c) lines)

-- a line that isn't above the number
not_above : (passes is_above : Bool) (n : ℕ) (found : Option ℕ) → is_above ≡ false
    → first_more passes is_above n found ≡ found
not_above true is_above n found e = ap (λ b. cond b (Some n) found) e
not_above false is_above n found e = refl

next_past : (n : ℕ) (c : Cell) (l : Line) (lines : List Line) → l.0 ≤ n
    → next_use n c (l ∷ lines) ≡ next_use n c lines
next_past n c l lines le =
    next_more n c l lines ∙ not_above (touches l.1.notes c) (nat_lt n l.0) l.0 (next_use n c lines) (le-ltb n l.0 le)

is_above_too : (passes is_above : Bool) (n : ℕ) (found : Option ℕ) → is_above ≡ true
    → first_more passes is_above n found ≡ cond passes (Some n) found
is_above_too true is_above n found e = ap (λ b. cond b (Some n) found) e
is_above_too false is_above n found e = refl

-- if all lines are above a number, the next use above it is the first one
next_of_all : (m n : ℕ) (c : Cell) (lines : List Line) → n ≤ m → RiseFrom m lines
    → next_use n c lines ≡ first_use c lines
next_of_all m n c [] le rise = refl
next_of_all m n c (l ∷ lines) le rise =
    let here = above m l lines rise in
    next_more n c l lines
    ∙ is_above_too (touches l.1.notes c) (nat_lt n l.0) l.0 (next_use n c lines)
    (lt-ltb n l.0 (omega (arith, le, here)))
    ∙ ap (λ o. cond (touches l.1.notes c) (Some l.0) o)
    (next_of_all l.0 n c lines (omega (arith, le, here)) (later m l lines rise))

-- the next use after a line is the first one of the lines after it
pub next_is_first : (m : ℕ) (lines : List Line) (k : ℕ) (l : Line) (c : Cell) → RiseFrom m lines
    → slice_get lines k ≡ Some l → next_use l.0 c lines ≡ first_use c (drop (suc k) lines)
next_is_first m [] k l c rise e = absurd (not_none l e)
next_is_first m (x ∷ lines) zero l c rise e =
    let same : x ≡ l = cc in
    subst (λ (y : Line). next_use y.0 c (x ∷ lines) ≡ first_use c lines) same
    (next_past x.0 c x lines (omega arith) ∙ next_of_all x.0 x.0 c lines (omega arith) (later m x lines rise))
next_is_first m (x ∷ lines) (suc k) l c rise e =
    let more = above_at x.0 lines k l (later m x lines rise) e in
    next_past l.0 c x lines (omega (arith, more)) ∙ next_is_first x.0 lines k l c (later m x lines rise) e

-- ---- numbers that rise, by places

each_above : (m : ℕ) (lines : List Line) (i : ℕ) (d : Line) → RiseFrom m lines → i < length lines
    → m < (get_or lines i d).0
each_above m [] i d rise lt = absurd (omega (arith, lt))
each_above m (l ∷ lines) zero d rise lt = above m l lines rise
each_above m (l ∷ lines) (suc i) d rise lt =
    let here = above m l lines rise in
    let rest = each_above l.0 lines i d (later m l lines rise) (omega (arith, lt)) in omega (arith, here, rest)

non_decreasing : (m : ℕ) (lines : List Line) → RiseFrom m lines → IsNonDecreasingBy (λ (l : Line). l.0) lines
non_decreasing m [] rise i j d le lt = absurd (omega (arith, lt))
non_decreasing m (l ∷ lines) rise zero zero d le lt = omega arith
non_decreasing m (l ∷ lines) rise zero (suc j) d le lt =
    let less = each_above l.0 lines j d (later m l lines rise) (omega (arith, lt)) in omega (arith, less)
non_decreasing m (l ∷ lines) rise (suc i) zero d le lt = absurd (omega (arith, le))
non_decreasing m (l ∷ lines) rise (suc i) (suc j) d le lt =
    non_decreasing l.0 lines (later m l lines rise) i j d (omega (arith, le)) (omega (arith, lt))

pub numbers_rise : (m : ℕ) (lines : List Line) (k : ℕ) → RiseFrom m lines
    → IsNonDecreasingBy (λ (l : Line). l.0) (drop k lines)
numbers_rise m lines k rise = non_decreasing m (drop k lines) (rise_from m lines k rise)
