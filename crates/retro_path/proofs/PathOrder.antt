-- Paths are ordered as their texts, with the slash as the least byte.
use Rattle.std.proofs.Common.{◌≡◌, ℕ, suc, ◌<◌, Bool, true, false, not, List, [], ◌∷◌, ◌++◌, length, take, drop}
use Rattle.std.proofs.Common.{refl, sym, ap, ◌∙◌, arith, rules, nat_eq}
use Rattle.std.proofs.lemmas.Bool.{true≢false}
use Rattle.std.proofs.lemmas.List.{take-append-drop}
use Rattle.std.proofs.lemmas.Slice.Eq.{bytes_eq-Decides}
use Rattle.std.proofs.lemmas.Bool.Decides.{nat_tests}
use Rattle.std.specs.Bool.{if◌then◌else◌}
use Rattle.std.specs.Ordering.{nat_cmp, ordering_then, is_eq}
use Rattle.std.specs.Cmp.{unsigned_ties}
use Rattle.std.specs.Cmp.Lexicographic.{slice_cmp, pointwise, lists_ties}
use Rattle.std.specs.declared.cmp.Ordering.{Ordering}
use Rattle.std.specs.declared.cmp.Ordering.TheVariants.{Less, Equal, Greater}
use Rattle.retro_path.specs.Name.{AllNames}
use Rattle.retro_path.specs.Order.{path_cmp, path_eq, path_ties}
use Rattle.retro_path.specs.Path.{PathValue}
use Rattle.retro_path.specs.Slashed.{slashed}
use Rattle.retro_path.specs.inner.PathText.{names_in, IsPathText, slash_first, rank}
use Rattle.retro_path.proofs.Slashes.{IsFree, is_slash, name_is_free, or_first, or_last, and_first, and_last}

-- ---- bytes
rank_of_other : (b : ℕ) → is_slash b ≡ false → rank b ≡ suc b
rank_of_other b h = ap (λ t. if t then 0 else suc b) h

cmp_suc : (x y : ℕ) → nat_cmp (suc x) (suc y) ≡ nat_cmp x y
cmp_suc x y = search rules

below_suc : (y : ℕ) → nat_cmp 0 (suc y) ≡ Less
below_suc y = search rules

above_suc : (x : ℕ) → nat_cmp (suc x) 0 ≡ Greater
above_suc x = search rules

other_bytes : (x y : ℕ) → is_slash x ≡ false → is_slash y ≡ false → slash_first x y ≡ nat_cmp x y
other_bytes x y h k = (λ i. nat_cmp (rank_of_other x h i) (rank_of_other y k i)) ∙ cmp_suc x y

slash_below : (y : ℕ) → is_slash y ≡ false → slash_first 47 y ≡ Less
slash_below y k = ap (nat_cmp 0) (rank_of_other y k) ∙ below_suc y

slash_above : (x : ℕ) → is_slash x ≡ false → slash_first x 47 ≡ Greater
slash_above x h = ap (λ r. nat_cmp r 0) (rank_of_other x h) ∙ above_suc x

-- ---- texts
then_assoc : (a b c : Ordering) → ordering_then a (ordering_then b c) ≡ ordering_then (ordering_then a b) c
then_assoc Less b c = refl
then_assoc Equal b c = refl
then_assoc Greater b c = refl

-- names decide before what follows them
names_first : (n m : List ℕ) (p q : PathValue) → IsFree n → IsFree m
    → slice_cmp slash_first (n ++ slashed p) (m ++ slashed q)
    ≡ ordering_then (slice_cmp nat_cmp n m) (slice_cmp slash_first (slashed p) (slashed q))
names_first [] [] p q h k = refl
names_first [] (y ∷ m) [] q h k = refl
names_first [] (y ∷ m) (x ∷ p) q h k =
    ap (λ r. ordering_then r (slice_cmp slash_first (x ++ slashed p) (m ++ slashed q))) (slash_below y (or_first _ _ k))
names_first (x ∷ n) [] p [] h k = refl
names_first (x ∷ n) [] p (y ∷ q) h k =
    ap (λ r. ordering_then r (slice_cmp slash_first (n ++ slashed p) (y ++ slashed q))) (slash_above x (or_first _ _ h))
names_first (x ∷ n) (y ∷ m) p q h k =
    (λ i. ordering_then (other_bytes x y (or_first _ _ h) (or_first _ _ k) i)
    (names_first n m p q (or_last _ _ h) (or_last _ _ k) i))
    ∙ then_assoc (nat_cmp x y) (slice_cmp nat_cmp n m) _

pub ordered_by_text : (p q : PathValue) → AllNames p → AllNames q
    → slice_cmp slash_first (slashed p) (slashed q) ≡ path_cmp p q
ordered_by_text [] [] h k = refl
ordered_by_text [] (m ∷ q) h k = refl
ordered_by_text (n ∷ p) [] h k = refl
ordered_by_text (n ∷ p) (m ∷ q) h k =
    names_first n m p q (name_is_free n (and_first _ _ h)) (name_is_free m (and_first _ _ k))
    ∙ ap (ordering_then (slice_cmp nat_cmp n m)) (ordered_by_text p q (and_last _ _ h) (and_last _ _ k))

pub order_of_texts : (s t : List ℕ) → IsPathText s → IsPathText t
    → slice_cmp slash_first s t ≡ path_cmp (names_in s) (names_in t)
order_of_texts s t h k = (λ i. slice_cmp slash_first (h.text_is i) (k.text_is i))
    ∙ ordered_by_text (names_in s) (names_in t) h.names k.names

-- ---- equal texts
rank_exact : (x y : ℕ) → nat_eq x y ≡ nat_eq (rank x) (rank y)
rank_exact x y = go (is_slash x) (is_slash y) refl refl
  where
    go : (a b : Bool) → is_slash x ≡ a → is_slash y ≡ b
        → nat_eq x y ≡ nat_eq (if is_slash x then 0 else suc x) (if is_slash y then 0 else suc y)
    go a b e f = grind (arith, nat_tests)

pub equal_texts : (s t : List ℕ) → IsPathText s → IsPathText t
    → pointwise nat_eq s t ≡ path_eq (names_in s) (names_in t)
equal_texts s t h k =
    lists_ties slash_first (λ x y. rank_exact x y ∙ unsigned_ties (rank x) (rank y)) s t
    ∙ ap is_eq (order_of_texts s t h k)
    ∙ sym (path_ties (names_in s) (names_in t))

-- ---- the loops that compare texts
same_rank : (n : ℕ) → nat_cmp n n ≡ Equal
same_rank n = search rules

-- equal beginnings decide nothing
pub same_start : (c a b : List ℕ) → slice_cmp slash_first (c ++ a) (c ++ b) ≡ slice_cmp slash_first a b
same_start [] a b = refl
same_start (x ∷ c) a b = ap (λ r. ordering_then r (slice_cmp slash_first (c ++ a) (c ++ b))) (same_rank (rank x))
    ∙ same_start c a b

pub next_bytes : (x y : ℕ) (a b : List ℕ) (r : Ordering) → slash_first x y ≡ r
    → slice_cmp slash_first (x ∷ a) (y ∷ b) ≡ ordering_then r (slice_cmp slash_first a b)
next_bytes x y a b r e = ap (λ s. ordering_then s (slice_cmp slash_first a b)) e

pub longer : (a b : List ℕ) → 0 < length a → length b ≡ 0 → slice_cmp slash_first a b ≡ Greater
longer [] b h k = absurd (omega arith)
longer (x ∷ a) [] h k = refl
longer (x ∷ a) (y ∷ b) h k = absurd (omega arith)

pub same_chunks : (n : ℕ) (a b x y c d : List ℕ) → x ≡ take n a → c ≡ drop n a → y ≡ take n b → d ≡ drop n b
    → pointwise nat_eq x y ≡ true → slice_cmp slash_first c d ≡ slice_cmp slash_first a b
same_chunks n a b x y c d e f g h same =
    let one : x ≡ y = (bytes_eq-Decides x y).0 same in
    sym (same_start x c d)
    ∙ (λ i. slice_cmp slash_first (e i ++ f i) (one i ++ d))
    ∙ (λ i. slice_cmp slash_first (take-append-drop n a i) (g i ++ h i))
    ∙ ap (slice_cmp slash_first a) (take-append-drop n b)

pub not_unequal : (r b : Bool) → r ≡ not b → r ≡ false → b ≡ true
not_unequal r true e f = refl
not_unequal r false e f = absurd (true≢false (sym e ∙ f))
