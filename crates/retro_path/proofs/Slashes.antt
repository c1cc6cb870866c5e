-- The texts of paths: the names in them, their last slash, and one more name.
use Rattle.std.proofs.Common.{◌≡◌, ◌≢◌, ℕ, zero, suc, ◌<◌, ◌≤◌, Bool, true, false, not, ◌&&◌, ◌||◌, List, [], ◌∷◌, ◌++◌, length}
use Rattle.std.proofs.Common.{take, drop, get_or, Option, Some, None, refl, sym, ap, subst, ◌∙◌, arith, append_assoc, lit<}
use Rattle.std.proofs.lemmas.List.{append-nil, take-append-drop, take_at, get_or_at, length-append}
use Rattle.std.proofs.lemmas.List.Splits.{slice_split-cons_yes, slice_split-cons_no}
use Rattle.std.proofs.lemmas.Bool.{true≢false, false≢true}
use Rattle.std.proofs.lemmas.Bool.Decides.{nat_tests}
use Rattle.std.proofs.lemmas.Str.Pattern.{NoCharPasses-char, drop_at_char}
use Rattle.std.specs.Prelude.{◌==◌, IsTrue}
use Rattle.std.specs.List.{list_any, list_all, slice_split, onto_first}
use Rattle.std.specs.Char.{encode_utf8}
use Rattle.std.proofs.lemmas.Str.{encode_ascii}
use Rattle.std.specs.Str.Pattern.{RFindsChar}
use Rattle.retro_path.specs.Name.{is_name, AllNames}
use Rattle.retro_path.specs.Path.{PathValue, parent_of, last_of}
use Rattle.retro_path.specs.Slashed.{slashed}
use Rattle.retro_path.specs.inner.PathText.{names_in, IsPathText, IsSplitAtLast}

-- ---- tests
pub or_first : (a b : Bool) → (a || b) ≡ false → a ≡ false
or_first true b e = absurd (true≢false e)
or_first false b e = refl

pub or_last : (a b : Bool) → (a || b) ≡ false → b ≡ false
or_last true b e = absurd (true≢false e)
or_last false b e = e

pub and_first : (a b : Bool) → (a && b) ≡ true → a ≡ true
and_first true b e = refl
and_first false b e = absurd (false≢true e)

pub and_last : (a b : Bool) → (a && b) ≡ true → b ≡ true
and_last true b e = e
and_last false b e = absurd (false≢true e)

not_true : (b : Bool) → not b ≡ true → b ≡ false
not_true true e = absurd (false≢true e)
not_true false e = refl

-- ---- texts without a slash
abbrev pub is_slash : ℕ → Bool
is_slash b = b == 47

-- whether a text has no slash
abbrev pub IsFree : List ℕ → Type 0
IsFree bs = list_any is_slash bs ≡ false

pub name_is_free : (n : List ℕ) → IsTrue (is_name n) → IsFree n
unfolding is_name
name_is_free n h = not_true _ (and_first _ _ (and_last _ _ (and_last _ _ h)))

slash_is_one : (b : ℕ) → is_slash b ≡ false → b ≢ 47
slash_is_one b h e = true≢false (sym (ap is_slash e) ∙ h)

-- a text with a slash in it isn't free of them
pub not_free : (a b : List ℕ) → IsFree (a ++ 47 ∷ b) → ⊥
not_free [] b h = true≢false h
not_free (x ∷ a) b h = not_free a b (or_last _ _ h)

pub slash_test : (b : ℕ) → b ≡ 47 → is_slash b ≡ true
slash_test b e = ap is_slash e

other : (b : ℕ) → b ≢ 47 → is_slash b ≡ false
other b h = grind (arith, nat_tests)

pub place_is_free : (bs : List ℕ) (i : ℕ) → IsFree bs → get_or bs i 0 ≢ 47
place_is_free [] i h e = absurd (omega arith)
place_is_free (b ∷ bs) zero h e = slash_is_one b (or_first _ _ h) e
place_is_free (b ∷ bs) (suc i) h e = place_is_free bs i (or_last _ _ h) e

pub free_from_places : (bs : List ℕ) → ((i : ℕ) → i < length bs → get_or bs i 0 ≢ 47) → IsFree bs
free_from_places [] h = refl
free_from_places (b ∷ bs) h = ap (λ t. t || list_any is_slash bs) (other b (h 0 (omega arith)))
    ∙ free_from_places bs (λ i l. h (suc i) (omega arith))

-- ---- the names in a text
split_name : (n t : List ℕ) (ns : PathValue) → IsFree n → slice_split is_slash t ≡ [] ∷ ns
    → slice_split is_slash (n ++ t) ≡ n ∷ ns
split_name [] t ns h e = e
split_name (b ∷ n) t ns h e = slice_split-cons_no is_slash b (n ++ t) (or_first _ _ h)
    ∙ ap (onto_first b) (split_name n t ns (or_last _ _ h) e)

split_slashed : (ns : PathValue) → AllNames ns → slice_split is_slash (slashed ns) ≡ [] ∷ ns
split_slashed [] h = refl
split_slashed (n ∷ ns) h = slice_split-cons_yes is_slash 47 (n ++ slashed ns) refl
    ∙ ap (λ r. [] ∷ r) (split_name n (slashed ns) ns (name_is_free n (and_first _ _ h)) (split_slashed ns (and_last _ _ h)))

pub names_in_slashed : (ns : PathValue) → AllNames ns → names_in (slashed ns) ≡ ns
unfolding names_in
names_in_slashed ns h = ap (drop 1) (split_slashed ns h)

pub names_of_text : (t : List ℕ) (ns : PathValue) → AllNames ns → t ≡ slashed ns → names_in t ≡ ns
names_of_text t ns h e = ap names_in e ∙ names_in_slashed ns h

pub text_of_names : (t : List ℕ) (ns : PathValue) → AllNames ns → t ≡ slashed ns → IsPathText t
text_of_names t ns h e = record {
  text_is = e ∙ ap slashed (sym (names_of_text t ns h e));
  names = subst AllNames (sym (names_of_text t ns h e)) h;
}

pub empty_text : (t : List ℕ) → t ≡ [] → (names_in t ≡ []) × IsPathText t
empty_text t e = (names_of_text t [] refl e, text_of_names t [] refl e)

-- ---- more names
pub slashed_append : (p q : PathValue) → slashed (p ++ q) ≡ slashed p ++ slashed q
slashed_append [] q = refl
slashed_append (n ∷ p) q = ap (λ r. 47 ∷ (n ++ r)) (slashed_append p q)
    ∙ ap (λ r. 47 ∷ r) (sym (append_assoc n (slashed p) (slashed q)))

pub slashed_child : (p : PathValue) (n : List ℕ) → slashed (p ++ n ∷ []) ≡ slashed p ++ 47 ∷ n
slashed_child p n = slashed_append p (n ∷ []) ∙ ap (λ r. slashed p ++ 47 ∷ r) (append-nil n)

pub all_child : (p : PathValue) (n : List ℕ) → AllNames p → IsTrue (is_name n) → AllNames (p ++ n ∷ [])
all_child [] n h k = ap (λ b. b && true) k
all_child (m ∷ p) n h k = ap (λ b. b && list_all is_name (p ++ n ∷ [])) (and_first _ _ h) ∙ all_child p n (and_last _ _ h) k

-- a text with a slash and a name after it
pub child_text : (s t n : List ℕ) → IsPathText s → IsTrue (is_name n) → t ≡ s ++ 47 ∷ n
    → (names_in t ≡ names_in s ++ n ∷ []) × IsPathText t
child_text s t n h k e =
    let all = all_child (names_in s) n h.names k in
    let is : t ≡ slashed (names_in s ++ n ∷ []) = e ∙ ap (λ r. r ++ 47 ∷ n) h.text_is ∙ sym (slashed_child (names_in s) n) in
    (names_of_text t _ all is, text_of_names t _ all is)

-- ---- the last name
pub unique : (a n b m : List ℕ) → IsFree n → IsFree m → b ++ 47 ∷ m ≡ a ++ 47 ∷ n → (b ≡ a) × (m ≡ n)
unique [] n [] m h k e = (refl, cc)
unique [] n (y ∷ b) m h k e = let inside : b ++ 47 ∷ m ≡ n = cc in absurd (not_free b m (subst IsFree (sym inside) h))
unique (x ∷ a) n [] m h k e = let inside : m ≡ a ++ 47 ∷ n = cc in absurd (not_free a n (subst IsFree inside k))
unique (x ∷ a) n (y ∷ b) m h k e =
    let rest : b ++ 47 ∷ m ≡ a ++ 47 ∷ n = cc in
    let both = unique a n b m h k rest in
    let head : y ≡ x = cc in
    ((λ i. head i ∷ both.0 i), both.1)

parents_keep : (p : PathValue) → AllNames p → AllNames (parent_of p)
parents_keep [] h = refl
parents_keep (n ∷ []) h = refl
parents_keep (n ∷ m ∷ p) h = ap (λ b. b && list_all is_name (parent_of (m ∷ p))) (and_first _ _ h)
    ∙ parents_keep (m ∷ p) (and_last _ _ h)

-- a path but the root is its parent and its last name
abbrev pub with_last : PathValue → Option (List ℕ) → PathValue
with_last p None = p
with_last p (Some n) = p ++ n ∷ []

pub parent_and_last : (p : PathValue) → p ≡ with_last (parent_of p) (last_of p)
parent_and_last [] = refl
parent_and_last (n ∷ []) = refl
parent_and_last (n ∷ m ∷ p) = ap (λ r. n ∷ r) (parent_and_last (m ∷ p)) ∙ inside (last_of (m ∷ p))
  where
    inside : (o : Option (List ℕ)) → n ∷ with_last (parent_of (m ∷ p)) o ≡ with_last (n ∷ parent_of (m ∷ p)) o
    inside None = refl
    inside (Some k) = refl

last_is_name : (p : PathValue) → AllNames p → (n : List ℕ) → last_of p ≡ Some n → IsTrue (is_name n)
last_is_name [] h n e = cc
last_is_name (m ∷ []) h n e = let same : m ≡ n = cc in ap is_name (sym same) ∙ and_first _ _ h
last_is_name (m ∷ k ∷ p) h n e = last_is_name (k ∷ p) (and_last _ _ h) n e

some_last : (n : List ℕ) (p : PathValue) → (m : List ℕ) × (last_of (n ∷ p) ≡ Some m)
some_last n [] = (n, refl)
some_last n (m ∷ p) = some_last m p

-- what is before and after the last slash of a path's text
pub at_last : (front back : List ℕ) (ns : PathValue) → AllNames ns → IsFree back → slashed ns ≡ front ++ 47 ∷ back
    → (front ≡ slashed (parent_of ns)) × (last_of ns ≡ Some back)
at_last [] back [] h k e = cc
at_last (x ∷ front) back [] h k e = cc
at_last front back (n ∷ ns) h k e =
    let last = some_last n ns in
    let path = n ∷ ns in
    let is : path ≡ parent_of path ++ last.0 ∷ [] = parent_and_last path ∙ ap (with_last (parent_of path)) last.1 in
    let text : slashed path ≡ slashed (parent_of path) ++ 47 ∷ last.0 = ap slashed is ∙ slashed_child (parent_of path) last.0 in
    let both = unique (slashed (parent_of path)) last.0 front back
    (name_is_free last.0 (last_is_name path h last.0 last.1)) k (sym e ∙ text) in
    (both.0, last.1 ∙ ap Some (sym both.1))

-- a path's text without a slash is empty
pub no_last : (ns : PathValue) → IsFree (slashed ns) → ns ≡ []
no_last [] h = refl
no_last (n ∷ ns) h = absurd (true≢false h)

-- where the search for the last slash cuts a text
pub around : (s : List ℕ) (i j : ℕ) → RFindsChar 47 s (Some (i, j)) → (s ≡ take i s ++ 47 ∷ drop j s) × IsFree (drop j s)
around s i j h = (
  sym (take-append-drop i s) ∙ ap (λ r. take i s ++ r) (drop_at_char 47 s i j h.1 (lit< tt)),
  free_from_places (drop j s) (λ k l. NoCharPasses-char 47 (drop j s) k h.0 (lit< tt) l),
)

-- the last slash splits off the last name
pub split_at_last : (s p n : List ℕ) (i j : ℕ) → IsPathText s → RFindsChar 47 s (Some (i, j)) → p ≡ take i s
    → n ≡ drop j s → IsSplitAtLast s p n
split_at_last s p n i j h found e f =
    let cut = around s i j found in
    let both = at_last (take i s) (drop j s) (names_in s) h.names cut.1 (sym h.text_is ∙ cut.0) in
    let all = parents_keep (names_in s) h.names in
    let last : last_of (names_in s) ≡ Some n = both.1 ∙ ap Some (sym f) in
    record {
      text_is = cut.0 ∙ (λ k. sym e k ++ 47 ∷ sym f k);
      parent_text = text_of_names p _ all (e ∙ both.0);
      parent_is = names_of_text p _ all (e ∙ both.0);
      last_is = last;
      name_passes = last_is_name (names_in s) h.names n last;
    }

pub root_text : (s : List ℕ) → IsPathText s → RFindsChar 47 s None → names_in s ≡ []
root_text s h none = no_last (names_in s) (subst IsFree h.text_is
    (free_from_places s (λ k l. NoCharPasses-char 47 s k none (lit< tt) l)))

-- a text is cut before its last slash
pub cut_at_last : (s p n : List ℕ) → IsSplitAtLast s p n → (take (length p) s ≡ p) × (get_or s (length p) 0 ≡ 47)
    × (length p < length s)
cut_at_last s p n h = (
  ap (take (length p)) h.text_is ∙ take_at p (47 ∷ n) (length p) refl,
  ap (λ t. get_or t (length p) 0) h.text_is ∙ get_or_at p 47 n 0 (length p) refl,
  (let e = ap length h.text_is ∙ length-append p (47 ∷ n) in omega arith),
)

-- a path has no more names than its text has bytes
pub few_names : (p : PathValue) → length p ≤ length (slashed p)
few_names [] = omega arith
few_names (n ∷ p) = omega (arith, few_names p, length-append n (slashed p))

-- a slash and a text that are appended, one after the other
pub pushed : (s t u n : List ℕ) → t ≡ s ++ encode_utf8 47 → u ≡ t ++ n → u ≡ s ++ 47 ∷ n
pushed s t u n e f = f ∙ ap (λ r. r ++ n) (e ∙ ap (λ r. s ++ r) (encode_ascii 47 (lit< tt))) ∙ append_assoc s (47 ∷ []) n

-- names stay names with one more
pub ruleset more_names = (all_child)

-- a copy of a text, and then a slash and another text
pub copied_and_pushed : (s e a v t u m n : List ℕ) → e ≡ [] → a ≡ e ++ v → v ≡ s → t ≡ a ++ encode_utf8 47 → u ≡ t ++ m
    → m ≡ n → u ≡ s ++ 47 ∷ n
copied_and_pushed s e a v t u m n empty first copy slash more name = pushed a t u m slash more
    ∙ (λ i. (first ∙ (λ j. empty j ++ copy j)) i ++ 47 ∷ name i)

pub few_names_in : (t : List ℕ) → IsPathText t → length (names_in t) ≤ length t
few_names_in t h = let same = ap length h.text_is in omega (arith, few_names (names_in t))
