-- Lists of lines that grow line by line, and the lines that list a directory.
use Rattle.std.proofs.Common.{◌≡◌, ℕ, ◌<◌, ◌≤◌, Bool, true, false, ◌&&◌, ◌||◌, cond, List, [], ◌∷◌, ◌++◌}
use Rattle.std.proofs.Common.{nat_lt, Some, refl, sym, ap, ◌∙◌, arith, append_assoc, append-nil}
use Rattle.std.specs.Bool.{if◌then◌else◌}
use Rattle.std.specs.Cmp.{eq_by_cmp_equiv}
use Rattle.std.specs.FinMap as map
use Rattle.std.specs.Option.{unwrap_or}
use Rattle.std.proofs.lemmas.Bool.{ltb-true, lt-ltb, le-ltb}
use Rattle.retro_tree.specs.Order.{path_cmp, path_eq, path_exact, path_ties, path_total}
use Rattle.retro_tree.specs.Path.{PathValue}
use Rattle.retro_tree.specs.declared.ask.Ask.TheVariants as asks
use Rattle.retro_tree.specs.declared.note.Note.{Note}
use Rattle.retro_tree.specs.declared.note.Note.TheVariants.{Asked, Made}
use Rattle.retro_tree.proofs.Small.{tied, first_true, both_true, and_true}
use Rattle.retro_history.specs.Index.{AreNumbered, Line, listed_at, lists, numbers_of}
use Rattle.retro_history.specs.inner.IndexSteps.{ListedMap, listed_by, listed_noted, numbers_at}
use Rattle.retro_history.specs.inner.IndexSteps.{with_line}
use Rattle.retro_history.specs.inner.Numbers.{are_below, noted, with_number}
use Rattle.retro_history.proofs.Lines.{RiseFrom, above, later, numbers_of_more, one_more}

-- ---- one number appended twice

not_below_pushed : (n : ℕ) (numbers : List ℕ) → are_below n (numbers ++ n ∷ []) ≡ false
not_below_pushed n [] = rw (le-ltb n n (omega arith)) refl
not_below_pushed n (m ∷ numbers) = go (nat_lt m n) (not_below_pushed n numbers)
  where
    go : (b : Bool) → are_below n (numbers ++ n ∷ []) ≡ false → (b && are_below n (numbers ++ n ∷ [])) ≡ false
    go true e = e
    go false e = refl

with_number_twice : (n : ℕ) (numbers : List ℕ) → with_number n (with_number n numbers) ≡ with_number n numbers
with_number_twice n numbers = go (are_below n numbers) refl
  where
    go : (b : Bool) → are_below n numbers ≡ b
        → with_number n (if b then numbers ++ n ∷ [] else numbers) ≡ (if b then numbers ++ n ∷ [] else numbers)
    go true e = ap (λ c. if c then (numbers ++ n ∷ []) ++ n ∷ [] else numbers ++ n ∷ []) (not_below_pushed n numbers)
    go false e = ap (λ c. if c then numbers ++ n ∷ [] else numbers) e

pub noted_twice : (a b : Bool) (n : ℕ) (numbers : List ℕ) → noted b n (noted a n numbers) ≡ noted (a || b) n numbers
noted_twice true true n numbers = with_number_twice n numbers
noted_twice true false n numbers = refl
noted_twice false b n numbers = refl

-- ---- one path

numbers_with_line : (p : PathValue) (n : ℕ) (m : ListedMap) (q : PathValue)
    → numbers_at (with_line p n m) q ≡ noted (path_eq p q) n (numbers_at m q)
numbers_with_line p n m q =
    ap (λ o. unwrap_or o []) (map.get-insert path_total m p (with_number n (numbers_at m p)) q)
    ∙ ap (λ b. unwrap_or (cond b (Some (with_number n (numbers_at m p))) (map.get m q)) [])
    ((eq_by_cmp_equiv path_total).symm q p ∙ sym (path_ties p q))
    ∙ go (path_eq p q) refl
  where
    go : (b : Bool) → path_eq p q ≡ b
        → unwrap_or (cond b (Some (with_number n (numbers_at m p))) (map.get m q)) [] ≡ noted b n (numbers_at m q)
    go true e = ap (λ k. with_number n (numbers_at m k)) (path_exact p q (tied _ (sym (path_ties p q) ∙ e)))
    go false e = refl

listed_by_notes : (n : ℕ) (notes : List Note) (m : ListedMap) (p : PathValue)
    → numbers_at (listed_noted n notes m) p ≡ noted (lists notes p) n (numbers_at m p)
listed_by_notes n [] m p = refl
listed_by_notes n (Asked (asks.Kind q) r ∷ notes) m p = listed_by_notes n notes m p
listed_by_notes n (Asked (asks.Bytes q) r ∷ notes) m p = listed_by_notes n notes m p
listed_by_notes n (Asked (asks.Names q) r ∷ notes) m p =
    listed_by_notes n notes (with_line q n m) p
    ∙ ap (noted (lists notes p) n) (numbers_with_line q n m p)
    ∙ noted_twice (path_eq q p) (lists notes p) n (numbers_at m p)
listed_by_notes n (Asked (asks.CanWrite q more) r ∷ notes) m p = listed_by_notes n notes m p
listed_by_notes n (Asked (asks.User name) r ∷ notes) m p = listed_by_notes n notes m p
listed_by_notes n (Asked (asks.VarOf sid name) r ∷ notes) m p = listed_by_notes n notes m p
listed_by_notes n (Asked (asks.CwdOf sid) r ∷ notes) m p = listed_by_notes n notes m p
listed_by_notes n (Asked (asks.StatusOf sid) r ∷ notes) m p = listed_by_notes n notes m p
listed_by_notes n (Made change ∷ notes) m p = listed_by_notes n notes m p

-- ---- all lines

-- a list with the numbers of the lines that pass a test appended
abbrev pub gathered : (Line → Bool) → List Line → List ℕ → List ℕ
gathered p [] numbers = numbers
gathered p (l ∷ lines) numbers = gathered p lines (noted (p l) l.0 numbers)

listed_by_lines : (lines : List Line) (m : ListedMap) (p : PathValue)
    → numbers_at (listed_by lines m) p ≡ gathered (λ l. lists l.1.notes p) lines (numbers_at m p)
listed_by_lines [] m p = refl
listed_by_lines (l ∷ lines) m p =
    listed_by_lines lines (listed_noted l.0 l.1.notes m) p
    ∙ ap (gathered (λ k. lists k.1.notes p) lines) (listed_by_notes l.0 l.1.notes m p)

-- ---- numbers that rise

below_more : (m n : ℕ) (numbers : List ℕ) → m ≤ n → are_below m numbers ≡ true → are_below n numbers ≡ true
below_more m n [] le below = refl
below_more m n (k ∷ numbers) le below =
    let less = ltb-true k m (first_true (nat_lt k m) _ below) in
    and_true _ _ (lt-ltb k n (omega (arith, le, less))) (below_more m n numbers le (both_true (nat_lt k m) _ below))

below_pushed : (m n : ℕ) (numbers : List ℕ) → m < n → are_below n numbers ≡ true
    → are_below n (numbers ++ m ∷ []) ≡ true
below_pushed m n [] less below = and_true _ _ (lt-ltb m n less) refl
below_pushed m n (k ∷ numbers) less below =
    and_true _ _ (first_true (nat_lt k n) _ below) (below_pushed m n numbers less (both_true (nat_lt k n) _ below))

appended : (b : Bool) (n : ℕ) (numbers : List ℕ) → are_below n numbers ≡ true
    → noted b n numbers ≡ numbers ++ one_more b n []
appended true n numbers below = ap (λ c. if c then numbers ++ n ∷ [] else numbers) below
appended false n numbers below = sym (append-nil numbers)

still_below : (b : Bool) (n k : ℕ) (numbers : List ℕ) → n < k → are_below n numbers ≡ true
    → are_below k (numbers ++ one_more b n []) ≡ true
still_below true n k numbers less below =
    below_pushed n k numbers less (below_more n k numbers (omega (arith, less)) below)
still_below false n k numbers less below =
    ap (are_below k) (append-nil numbers) ∙ below_more n k numbers (omega (arith, less)) below

one_first : (b : Bool) (n : ℕ) (numbers others : List ℕ)
    → (numbers ++ one_more b n []) ++ others ≡ numbers ++ one_more b n others
one_first true n numbers others = append_assoc numbers (n ∷ []) others
one_first false n numbers others = ap (λ ns. ns ++ others) (append-nil numbers)

-- numbers below all of the lines' come before them
gathered_are : (n : ℕ) (p : Line → Bool) (lines : List Line) (numbers : List ℕ) → RiseFrom n lines
    → ((k : ℕ) → n < k → are_below k numbers ≡ true) → gathered p lines numbers ≡ numbers ++ numbers_of p lines
gathered_are n p [] numbers rising below = sym (append-nil numbers)
gathered_are n p (l ∷ lines) numbers rising below =
    let here = below l.0 (above n l lines rising) in
    ap (gathered p lines) (appended (p l) l.0 numbers here)
    ∙ gathered_are l.0 p lines (numbers ++ one_more (p l) l.0 []) (later n l lines rising)
    (λ k less. still_below (p l) l.0 k numbers less here)
    ∙ one_first (p l) l.0 numbers (numbers_of p lines)
    ∙ ap (λ ns. numbers ++ ns) (sym (numbers_of_more p l lines))

pub from_nothing : (p : Line → Bool) (lines : List Line) (numbers : List ℕ) → AreNumbered lines → numbers ≡ []
    → gathered p lines numbers ≡ numbers_of p lines
from_nothing p lines numbers rising none =
    ap (gathered p lines) none ∙ gathered_are 0 p lines [] rising (λ k less. refl)

-- the directories that all lines list
pub listed_lines : (lines : List Line) (m : ListedMap) → AreNumbered lines → m ≡ listed_by lines map.empty
    → (p : PathValue) → numbers_at m p ≡ listed_at p lines
listed_lines lines m rising is p =
    ap (λ x. numbers_at x p) is ∙ listed_by_lines lines map.empty p
    ∙ from_nothing (λ l. lists l.1.notes p) lines _ rising (ap (λ o. unwrap_or o []) (map.get-empty path_cmp p))
