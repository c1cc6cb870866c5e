-- Sets of lines: their order, which lines they have, and one line less.
use Rattle.std.proofs.Common.{◌≡◌, ◌∙◌, ◌≤◌, ◌<◌, ℕ, Bool, true, false, ◌&&◌, ◌||◌, not, cond}
use Rattle.std.proofs.Common.{List, [], ◌∷◌, ◌++◌, length, map, Option, Some, None, refl, sym, ap, subst, arith}
use Rattle.std.specs.BTreeSet.{BTreeSet, IsFromIterResult, IsKeyRangeOf}
use Rattle.std.specs.Cmp.{IsTotalOrder, nat_cmp_total, on_total, then_total, tied_itself}
use Rattle.std.specs.List.{filter, list_any, slice_get}
use Rattle.std.specs.Option.{IfNone, IfSome, is_some}
use Rattle.std.specs.Ordering.{MatchOrdering, is_eq, is_gt, nat_cmp, ordering_then}
use Rattle.std.specs.declared.cmp.Ordering.{Ordering}
use Rattle.std.specs.declared.cmp.Ordering.TheVariants.{Less, Equal, Greater}
use Rattle.std.specs.declared.ops.Bound.TheVariants.{Included, Unbounded}
use Rattle.std.proofs.lemmas.Bool.{true≢false}
use Rattle.std.proofs.lemmas.List.Sums.{fold-append}
use Rattle.std.proofs.lemmas.Cmp.{ranked}
use Rattle.std.proofs.lemmas.Map.Lookups.{exact_pairs, exact_unsigned}
use Rattle.std.proofs.lemmas.Map.Views.{tells_apart}
use Rattle.casebook_text.specs.Item.{Line, is_in}
use Rattle.casebook_text.specs.Lists.{after_item, is_chosen}
use Rattle.casebook_text.specs.declared.item.Item.{Item}
use Rattle.casebook_text.specs.declared.item.Lines.{Lines}
use Rattle.casebook_text.specs.declared.line_set.LineSet.{LineSet}
use Rattle.casebook_text.specs.inner.LineSets.{AreAll, IsBoth, has_line, has_pair, in_set, pair_cmp, same_line, turned}

pair_total : IsTotalOrder pair_cmp
pair_total = then_total (on_total (λ (p : Line). p.0) nat_cmp_total) (on_total (λ (p : Line). p.1) nat_cmp_total)

pub equal_lines : (x y : Line) → same_line x y ≡ true → x ≡ y
equal_lines = tells_apart (exact_pairs nat_cmp nat_cmp exact_unsigned exact_unsigned)

itself : (x : Line) → same_line x x ≡ true
itself x = ap is_eq (tied_itself pair_total x)

either_order : (o p : Ordering) → is_eq (ordering_then o p) ≡ is_eq (ordering_then p o)
either_order Less Less = refl
either_order Less Equal = refl
either_order Less Greater = refl
either_order Equal Less = refl
either_order Equal Equal = refl
either_order Equal Greater = refl
either_order Greater Less = refl
either_order Greater Equal = refl
either_order Greater Greater = refl

same_turned : (x y : Line) → same_line (turned x) (turned y) ≡ same_line x y
same_turned x y = either_order (nat_cmp x.1 y.1) (nat_cmp x.0 y.0)

has_turned : (x : Line) (ys : List Line) → has_pair (turned x) (map turned ys) ≡ has_pair x ys
has_turned x [] = refl
has_turned x (y ∷ ys) =
    ap (λ b. b || has_pair (turned x) (map turned ys)) (same_turned x y)
    ∙ ap (λ b. same_line x y || b) (has_turned x ys)

-- both orders of some lines
pub all_of : (lines : List Line) (numbers sessions : BTreeSet Line) → IsFromIterResult pair_cmp lines numbers
    → IsFromIterResult pair_cmp (map turned lines) sessions
    → AreAll lines (record { by_number = numbers; by_session = sessions })
all_of lines numbers sessions one two = record {
  both = λ line. two.0 (turned line) ∙ has_turned line lines ∙ sym (one.0 line);
  same = one.0;
}

-- ---- one line less

without : (b x : Bool) → cond b false x ≡ (x && not b)
without true true = refl
without true false = refl
without false true = refl
without false false = refl

pub others_stay : (old new : List Line) (line : Line)
    → ((q : Line) → has_pair q new ≡ cond (same_line line q) false (has_pair q old)) → (other : Line)
    → has_pair other new ≡ (has_pair other old && not (same_line line other))
others_stay old new line updates other = updates other ∙ without (same_line line other) (has_pair other old)

pub both_less : (old new : LineSet) (line : Line) → IsBoth old
    → ((q : Line) → has_pair q new.by_number.keys ≡ cond (same_line line q) false (has_pair q old.by_number.keys))
    → ((q : Line) → has_pair q new.by_session.keys
    ≡ cond (same_line (turned line) q) false (has_pair q old.by_session.keys))
    → IsBoth new
both_less old new line both numbers sessions other =
    sessions (turned other)
    ∙ ap (λ b. cond b false (has_pair (turned other) old.by_session.keys)) (same_turned line other)
    ∙ ap (λ b. cond (same_line line other) false b) (both other) ∙ sym (numbers other)

-- ---- lines between two numbers

not_above : (x y : Line) → is_gt (pair_cmp x y) ≡ false → x.0 ≤ y.0
not_above x y e = by_order (nat_cmp x.0 y.0) (ranked x.0 y.0 _ refl) e
  where
    by_order : (o : Ordering) → MatchOrdering o (x.0 < y.0) (x.0 ≡ y.0) (y.0 < x.0)
        → is_gt (ordering_then o (nat_cmp x.1 y.1)) ≡ false → x.0 ≤ y.0
    by_order Less less e = omega (arith, less)
    by_order Equal same e = omega (arith, same)
    by_order Greater more e = absurd (true≢false e)

zero_is_least : (n : ℕ) → is_gt (nat_cmp 0 n) ≡ false
zero_is_least n = by_order (nat_cmp 0 n) (ranked 0 n _ refl)
  where
    by_order : (o : Ordering) → MatchOrdering o (0 < n) (0 ≡ n) (n < 0) → is_gt o ≡ false
    by_order Less less = refl
    by_order Equal same = refl
    by_order Greater more = absurd (omega (arith, more))

from_first : (first : ℕ) (y : Line) → first ≤ y.0 → is_gt (pair_cmp (first, 0) y) ≡ false
from_first first y le = by_order (nat_cmp first y.0) (ranked first y.0 _ refl)
  where
    by_order : (o : Ordering) → MatchOrdering o (first < y.0) (first ≡ y.0) (y.0 < first)
        → is_gt (ordering_then o (nat_cmp 0 y.1)) ≡ false
    by_order Less less = refl
    by_order Equal same = zero_is_least y.1
    by_order Greater more = absurd (omega (arith, more, le))

-- the first pair from a number on is above the last number
pub none_between : (pairs : BTreeSet Line) (first last : ℕ) (found rest : List Line) (pair : Line)
    → IsKeyRangeOf pair_cmp (Included (first, 0)) Unbounded pairs found → found ≡ pair ∷ rest → last < pair.0
    → (q : Line) → first ≤ q.0 → q.0 ≤ last → has_pair q pairs.keys ≡ false
none_between pairs first last found rest pair range is above q from upto = by_test (has_pair q pairs.keys) refl
  where
    by_test : (b : Bool) → has_pair q pairs.keys ≡ b → b ≡ false
    by_test false e = refl
    by_test true e =
        let least = subst (λ (r : List Line). IfSome (slice_get r 0) (λ k. is_gt (pair_cmp k q) ≡ false)) is
        (range.2 q (from_first first q from, tt) e) in
        absurd (omega (arith, not_above pair q least, above, upto))

-- no pair comes from a number on
pub none_from : (pairs : BTreeSet Line) (first : ℕ) (found : List Line)
    → IsKeyRangeOf pair_cmp (Included (first, 0)) Unbounded pairs found → found ≡ []
    → (q : Line) → first ≤ q.0 → has_pair q pairs.keys ≡ false
none_from pairs first found range is q from = range.5 is q (from_first first q from, tt)

-- ---- whether one of the lines passes a test

or_true : (a b : Bool) → b ≡ true → (a || b) ≡ true
or_true true b e = refl
or_true false b e = e

any_of : (test : Line → Bool) (line : Line) (lines : List Line) → test line ≡ true → has_pair line lines ≡ true
    → list_any test lines ≡ true
any_of test line [] passes has = absurd (true≢false (sym has))
any_of test line (x ∷ xs) passes has = by_test (same_line line x) refl has (any_of test line xs passes)
  where
    by_test : (b : Bool) → same_line line x ≡ b → (b || has_pair line xs) ≡ true
        → (has_pair line xs ≡ true → list_any test xs ≡ true) → (test x || list_any test xs) ≡ true
    by_test true e has later =
        ap (λ b. b || list_any test xs) (ap test (sym (equal_lines line x e)) ∙ passes)
    by_test false e has later = or_true (test x) (list_any test xs) (later has)

none_of : (test : Line → Bool) (lines : List Line) → ((line : Line) → has_pair line lines ≡ true → test line ≡ false)
    → list_any test lines ≡ false
none_of test [] fails = refl
none_of test (x ∷ xs) fails =
    ap (λ b. b || list_any test xs) (fails x (ap (λ b. b || has_pair x xs) (itself x)))
    ∙ none_of test xs (λ line has. fails line (or_true (same_line line x) (has_pair line xs) has))

pub any_found : (named : Lines) (set : LineSet) (found : Option Line)
    → IfSome found (λ line. (has_line line set ≡ true) × (is_in named line ≡ true))
    → IfNone found ((line : Line) → has_line line set ≡ true → is_in named line ≡ false)
    → (lines : List Line) → AreAll lines set → is_some found ≡ list_any (is_in named) lines
any_found named set (Some line) is none lines all =
    sym (any_of (is_in named) line lines is.1 (sym (all.same line) ∙ is.0))
any_found named set None is none lines all =
    sym (none_of (is_in named) lines (λ line has. none line (all.same line ∙ has)))

-- ---- the lines that items choose

pub none_left : (line : Line) → is_chosen [] line ≡ false
unfolding is_chosen
none_left line = refl

pub last_decides : (before : List Item) (last : Item) (line : Line)
    → is_chosen (before ++ last ∷ []) line ≡ after_item line (is_chosen before line) last
unfolding is_chosen
last_decides before last line = fold-append (after_item line) false before (last ∷ [])

nothing : (a b : Bool) → (a || (b && false)) ≡ a
nothing true b = refl
nothing false true = refl
nothing false false = refl

-- no items are left
pub all_chosen : (items : List Item) (rest : LineSet) (chosen : List Line) (line : Line) (wanted : Bool)
    → length items ≡ 0 → in_set (is_chosen items line) rest chosen line ≡ wanted → has_pair line chosen ≡ wanted
all_chosen [] rest chosen line wanted none so_far =
    sym (ap (λ b. in_set b rest chosen line) (none_left line) ∙ nothing (has_pair line chosen) (has_line line rest))
    ∙ so_far
all_chosen (item ∷ items) rest chosen line wanted none so_far = absurd (omega (arith, none))

-- one more item has decided
pub one_more : (left before : List Item) (last : Item) (old new : LineSet) (chosen more : List Line) (line : Line)
    (wanted : Bool) → left ≡ before ++ last ∷ []
    → ((q : Line) (b : Bool) → in_set b new more q ≡ in_set (after_item q b last) old chosen q)
    → in_set (is_chosen left line) old chosen line ≡ wanted → in_set (is_chosen before line) new more line ≡ wanted
one_more left before last old new chosen more line wanted is decided so_far =
    decided line (is_chosen before line)
    ∙ ap (λ b. in_set b old chosen line)
    (sym (ap (λ (xs : List Item). is_chosen xs line) is ∙ last_decides before last line))
    ∙ so_far

filter_alike : (one two : Line → Bool) (ys : List Line)
    → ((line : Line) → has_pair line ys ≡ true → one line ≡ two line) → filter one ys ≡ filter two ys
filter_alike one two [] same = refl
filter_alike one two (y ∷ ys) same =
    ap (λ (b : Bool). cond b (y ∷ filter one ys) (filter one ys)) (same y (ap (λ b. b || has_pair y ys) (itself y)))
    ∙ ap (λ (zs : List Line). cond (two y) (y ∷ zs) zs)
    (filter_alike one two ys (λ line has. same line (or_true (same_line line y) (has_pair line ys) has)))

-- the lines of a set that has what the items choose of all lines
pub chosen_in : (items : List Item) (lines chosen : List Line) (all : LineSet) → AreAll lines all
    → ((line : Line) → has_pair line chosen ≡ (has_line line all && is_chosen items line))
    → filter (λ line. has_pair line chosen) lines ≡ filter (is_chosen items) lines
chosen_in items lines chosen all are is =
    filter_alike (λ line. has_pair line chosen) (is_chosen items) lines
    (λ line has. is line ∙ ap (λ b. b && is_chosen items line) (are.same line ∙ has))
