-- The numbers of the lines that pass a test.
use Rattle.std.proofs.Common.{◌≡◌, ℕ, ◌<◌, Bool, true, false, ◌||◌, cond, map, List, [], ◌∷◌, filter}
use Rattle.std.proofs.Common.{nat_lt, Option, Some, None, refl, sym, ap, ◌∙◌, arith}
use Rattle.std.proofs.lemmas.Bool.{ltb-true, lt-ltb}
use Rattle.retro_tree.proofs.Small.{first_true, both_true, and_true}
use Rattle.retro_keep.specs.Recording.{number_in}
use Rattle.retro_keep.specs.Script.{rises_from}
use Rattle.retro_history.specs.Index.{Line, numbers_of}
use Rattle.retro_history.specs.inner.Numbers.{earliest, first_above, union}
use Rattle.retro_history.proofs.Unions.{all_over, over_less, union_both, union_left, union_none, union_over}

-- the lines' numbers rise from a number on
abbrev pub RiseFrom : ℕ → List Line → Type 0
RiseFrom n lines = rises_from n (map number_in lines) ≡ true

pub above : (n : ℕ) (l : Line) (lines : List Line) → RiseFrom n (l ∷ lines) → n < l.0
above n l lines rising = ltb-true n l.0 (first_true (nat_lt n l.0) _ rising)

pub later : (n : ℕ) (l : Line) (lines : List Line) → RiseFrom n (l ∷ lines) → RiseFrom l.0 lines
later n l lines rising = both_true (nat_lt n l.0) _ rising

-- two tests that agree at each line
pub same_tests : (p q : Line → Bool) (lines : List Line) → ((l : Line) → p l ≡ q l)
    → numbers_of p lines ≡ numbers_of q lines
same_tests p q lines same = ap (λ (test : Line → Bool). numbers_of test lines) (λ i l. same l i)

-- the numbers of lines with one more number, if it passes a test
abbrev pub one_more : Bool → ℕ → List ℕ → List ℕ
one_more passes n numbers = cond passes (n ∷ numbers) numbers

pub numbers_of_more : (p : Line → Bool) (l : Line) (lines : List Line)
    → numbers_of p (l ∷ lines) ≡ one_more (p l) l.0 (numbers_of p lines)
numbers_of_more p l lines = go (p l)
  where
    go : (b : Bool) → map number_in (cond b (l ∷ filter p lines) (filter p lines))
        ≡ one_more b l.0 (numbers_of p lines)
    go true = refl
    go false = refl

-- ---- numbers above another

more_over : (b : Bool) (n m : ℕ) (numbers : List ℕ) → n < m → all_over m numbers ≡ true
    → all_over n (one_more b m numbers) ≡ true
more_over true n m numbers less over = and_true _ _ (lt-ltb n m less) (over_less n m numbers (omega (arith, less)) over)
more_over false n m numbers less over = over_less n m numbers (omega (arith, less)) over

-- the numbers of lines are above the one from which they rise
pub numbers_over : (n : ℕ) (p : Line → Bool) (lines : List Line) → RiseFrom n lines
    → all_over n (numbers_of p lines) ≡ true
numbers_over n p [] rising = refl
numbers_over n p (l ∷ lines) rising =
    ap (all_over n) (numbers_of_more p l lines)
    ∙ more_over (p l) n l.0 (numbers_of p lines) (above n l lines rising)
    (numbers_over l.0 p lines (later n l lines rising))

-- ---- unions

union_more : (a b : Bool) (n : ℕ) (numbers others both : List ℕ) → all_over n numbers ≡ true
    → all_over n others ≡ true → union numbers others ≡ both
    → union (one_more a n numbers) (one_more b n others) ≡ one_more (a || b) n both
union_more true true n numbers others both over under rest =
    union_both n numbers others under ∙ ap (λ ns. n ∷ ns) rest
union_more true false n numbers others both over under rest =
    union_left n numbers others under ∙ ap (λ ns. n ∷ ns) rest
union_more false true n numbers others both over under rest =
    union_over n numbers others over ∙ ap (λ ns. n ∷ ns) rest
union_more false false n numbers others both over under rest = rest

pub union_of_tests : (n : ℕ) (p q : Line → Bool) (lines : List Line) → RiseFrom n lines
    → union (numbers_of p lines) (numbers_of q lines) ≡ numbers_of (λ l. p l || q l) lines
union_of_tests n p q [] rising = union_none []
union_of_tests n p q (l ∷ lines) rising =
    (λ i. union (numbers_of_more p l lines i) (numbers_of_more q l lines i))
    ∙ union_more (p l) (q l) l.0 (numbers_of p lines) (numbers_of q lines) (numbers_of (λ k. p k || q k) lines)
    (numbers_over l.0 p lines (later n l lines rising)) (numbers_over l.0 q lines (later n l lines rising))
    (union_of_tests l.0 p q lines (later n l lines rising))
    ∙ sym (numbers_of_more (λ k. p k || q k) l lines)

-- ---- first numbers

pub earliest_none : (found : Option ℕ) → earliest found None ≡ found
earliest_none None = refl
earliest_none (Some n) = refl

pub earliest_assoc : (a b c : Option ℕ) → earliest (earliest a b) c ≡ earliest a (earliest b c)
earliest_assoc None b c = refl
earliest_assoc (Some m) None c = refl
earliest_assoc (Some m) (Some n) None = refl
earliest_assoc (Some m) (Some n) (Some k) = ap Some (omega arith)

-- a first number above another, if one more number comes before the others
abbrev pub first_more : Bool → Bool → ℕ → Option ℕ → Option ℕ
first_more passes is_above n found = cond passes (cond is_above (Some n) found) found

pub first_of_more : (b : Bool) (after n : ℕ) (numbers : List ℕ) → first_above after (one_more b n numbers)
    ≡ first_more b (nat_lt after n) n (first_above after numbers)
first_of_more true after n numbers = refl
first_of_more false after n numbers = refl

-- a number that is found isn't below one that is below all
abbrev IsOver : ℕ → Option ℕ → Type 0
IsOver n found = (earliest (Some n) found ≡ Some n) × (earliest found (Some n) ≡ Some n)

one_over : (b : Bool) (n m : ℕ) (found : Option ℕ) → n < m → IsOver n found → IsOver n (cond b (Some m) found)
one_over true n m found less over = (ap Some (omega (arith, less)), ap Some (omega (arith, less)))
one_over false n m found less over = over

first_over : (after n : ℕ) (numbers : List ℕ) → all_over n numbers ≡ true → IsOver n (first_above after numbers)
first_over after n [] over = (refl, refl)
first_over after n (m ∷ numbers) over =
    one_over (nat_lt after m) n m (first_above after numbers) (ltb-true n m (first_true (nat_lt n m) _ over))
    (first_over after n numbers (both_true (nat_lt n m) _ over))

earliest_more : (a b c : Bool) (n : ℕ) (one two both : Option ℕ) → IsOver n one → IsOver n two
    → earliest one two ≡ both
    → earliest (first_more a c n one) (first_more b c n two) ≡ first_more (a || b) c n both
earliest_more true true true n one two both over under rest = ap Some (omega arith)
earliest_more true true false n one two both over under rest = rest
earliest_more true false true n one two both over under rest = under.0
earliest_more true false false n one two both over under rest = rest
earliest_more false true true n one two both over under rest = over.1
earliest_more false true false n one two both over under rest = rest
earliest_more false false c n one two both over under rest = rest

pub first_of_tests : (n after : ℕ) (p q : Line → Bool) (lines : List Line) → RiseFrom n lines
    → earliest (first_above after (numbers_of p lines)) (first_above after (numbers_of q lines))
    ≡ first_above after (numbers_of (λ l. p l || q l) lines)
first_of_tests n after p q [] rising = refl
first_of_tests n after p q (l ∷ lines) rising =
    let ps = numbers_of p lines in
    let qs = numbers_of q lines in
    let both = numbers_of (λ k. p k || q k) lines in
    (λ i. earliest (first_above after (numbers_of_more p l lines i)) (first_above after (numbers_of_more q l lines i)))
    ∙ (λ i. earliest (first_of_more (p l) after l.0 ps i) (first_of_more (q l) after l.0 qs i))
    ∙ earliest_more (p l) (q l) (nat_lt after l.0) l.0 (first_above after ps) (first_above after qs)
    (first_above after both)
    (first_over after l.0 ps (numbers_over l.0 p lines (later n l lines rising)))
    (first_over after l.0 qs (numbers_over l.0 q lines (later n l lines rising)))
    (first_of_tests l.0 after p q lines (later n l lines rising))
    ∙ sym (first_of_more (p l || q l) after l.0 both)
    ∙ sym (ap (first_above after) (numbers_of_more (λ k. p k || q k) l lines))
