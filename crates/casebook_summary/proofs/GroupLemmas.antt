-- Lines by group: their keys, their lines and their order.
use Rattle.std.proofs.Common.{◌≡◌, ◌∙◌, ◌+◌, ◌<◌, ◌==◌, ℕ, zero, suc, Bool, true, false, not, ◌&&◌, ◌||◌, cond}
use Rattle.std.proofs.Common.{List, [], ◌∷◌, ◌++◌, drop, get_or, length, map, nat_lt, take, Some, None}
use Rattle.std.proofs.Common.{arith, refl, sym, ap, subst}
use Rattle.std.specs.BTreeMap.{BTreeMap, get, insert_entry, is_at}
use Rattle.std.specs.Map.{values_of}
use Rattle.std.specs.Bool.{if◌then◌else◌}
use Rattle.std.specs.Cmp.{nat_cmp_total, on_total, then_total, IsTotalOrder}
use Rattle.std.specs.FinMap.{IsAntisymmetric, nat_cmp-IsAntisymmetric}
use Rattle.std.specs.List.{filter, fold, list_any}
use Rattle.std.specs.Option.{is_some, option_map, unwrap_or}
use Rattle.std.specs.Ordering.{MatchOrdering, is_eq, match_ordering, nat_cmp, ordering_then}
use Rattle.std.specs.declared.cmp.Ordering.{Ordering}
use Rattle.std.specs.declared.cmp.Ordering.TheVariants as orders
use Rattle.std.proofs.lemmas.Bool.{le-ltb, lt-ltb, true≢false}
use Rattle.std.proofs.lemmas.Cmp.{ranked}
use Rattle.std.proofs.lemmas.Bool.Decides.{nat_tests}
use Rattle.std.proofs.lemmas.Grind.{common_steps}
use Rattle.std.proofs.lemmas.List.{append-nil, drop_more, map-append, take_more}
use Rattle.std.proofs.lemmas.List.Elements.{filter-append}
use Rattle.retro_tree.specs.Order.{path_exact, path_ties, text_exact, text_ties}
use Rattle.retro_tree.proofs.Small.{tied}
use Rattle.casebook_summary.specs.Groups.{firsts, place_of, placed, same_group, subject_eq, with_first}
use Rattle.casebook_summary.specs.Summaries.{line_told}
use Rattle.casebook_summary.specs.declared.group_lines.GroupLines.{GroupLines}
use Rattle.casebook_summary.specs.declared.notice.Notice.{Notice}
use Rattle.casebook_summary.specs.declared.subject.Subject.{Subject}
use Rattle.casebook_summary.specs.declared.subject.Subject.TheVariants.{At, Directory, Variable, Status, Text, Again}
use Rattle.casebook_summary.specs.inner.GroupLines.{AddsOne, AreGathered, ArePlaced, Key, key_cmp, key_of, lines_of, subject_cmp}
use Rattle.casebook_summary.specs.inner.GroupLines.{subject_total}

-- ---- keys

same_subject : (s t : Subject) → is_eq (subject_cmp s t) ≡ subject_eq s t
same_subject (At p) (At q) = sym (path_ties p q)
same_subject (At p) Directory = refl
same_subject (At p) (Variable y) = refl
same_subject (At p) Status = refl
same_subject (At p) Text = refl
same_subject (At p) Again = refl
same_subject Directory (At q) = refl
same_subject Directory Directory = refl
same_subject Directory (Variable y) = refl
same_subject Directory Status = refl
same_subject Directory Text = refl
same_subject Directory Again = refl
same_subject (Variable x) (At q) = refl
same_subject (Variable x) Directory = refl
same_subject (Variable x) (Variable y) = sym (text_ties x y)
same_subject (Variable x) Status = refl
same_subject (Variable x) Text = refl
same_subject (Variable x) Again = refl
same_subject Status (At q) = refl
same_subject Status Directory = refl
same_subject Status (Variable y) = refl
same_subject Status Status = refl
same_subject Status Text = refl
same_subject Status Again = refl
same_subject Text (At q) = refl
same_subject Text Directory = refl
same_subject Text (Variable y) = refl
same_subject Text Status = refl
same_subject Text Text = refl
same_subject Text Again = refl
same_subject Again (At q) = refl
same_subject Again Directory = refl
same_subject Again (Variable y) = refl
same_subject Again Status = refl
same_subject Again Text = refl
same_subject Again Again = refl

subject_exact : IsAntisymmetric subject_cmp
subject_exact (At p) (At q) e = ap At (path_exact p q e)
subject_exact (At p) Directory e = cc
subject_exact (At p) (Variable y) e = cc
subject_exact (At p) Status e = cc
subject_exact (At p) Text e = cc
subject_exact (At p) Again e = cc
subject_exact Directory (At q) e = cc
subject_exact Directory Directory e = refl
subject_exact Directory (Variable y) e = cc
subject_exact Directory Status e = cc
subject_exact Directory Text e = cc
subject_exact Directory Again e = cc
subject_exact (Variable x) (At q) e = cc
subject_exact (Variable x) Directory e = cc
subject_exact (Variable x) (Variable y) e = ap Variable (text_exact x y e)
subject_exact (Variable x) Status e = cc
subject_exact (Variable x) Text e = cc
subject_exact (Variable x) Again e = cc
subject_exact Status (At q) e = cc
subject_exact Status Directory e = cc
subject_exact Status (Variable y) e = cc
subject_exact Status Status e = refl
subject_exact Status Text e = cc
subject_exact Status Again e = cc
subject_exact Text (At q) e = cc
subject_exact Text Directory e = cc
subject_exact Text (Variable y) e = cc
subject_exact Text Status e = cc
subject_exact Text Text e = refl
subject_exact Text Again e = cc
subject_exact Again (At q) e = cc
subject_exact Again Directory e = cc
subject_exact Again (Variable y) e = cc
subject_exact Again Status e = cc
subject_exact Again Text e = cc
subject_exact Again Again e = refl

key_total : IsTotalOrder key_cmp
key_total = then_total (on_total (λ (k : Key). k.0) nat_cmp_total) (on_total (λ (k : Key). k.1) subject_total)

then_eq : (a b : Ordering) → is_eq (ordering_then a b) ≡ (is_eq a && is_eq b)
then_eq orders.Less b = refl
then_eq orders.Equal b = refl
then_eq orders.Greater b = refl

same_number : (m n : ℕ) → is_eq (nat_cmp m n) ≡ (m == n)
same_number m n = grind (arith, common_steps, nat_tests)

-- two lines are in the same group exactly if their keys compare equal
pub same_key : (x y : Notice) → is_at (key_cmp (key_of x)) (key_of y) ≡ same_group x y
same_key x y =
    then_eq (nat_cmp x.session y.session) (subject_cmp x.subject y.subject)
    ∙ ap (λ b. b && is_eq (subject_cmp x.subject y.subject)) (same_number x.session y.session)
    ∙ ap (λ b. (x.session == y.session) && b) (same_subject x.subject y.subject)

equal_keys : (x y : Notice) → same_group x y ≡ true → key_of x ≡ key_of y
equal_keys x y same = by_parts (nat_cmp x.session y.session) refl (sym (then_eq (nat_cmp x.session y.session) (subject_cmp x.subject y.subject)) ∙ same_key x y ∙ same)
  where
    by_parts : (o : Ordering) → nat_cmp x.session y.session ≡ o → (is_eq o && is_eq (subject_cmp x.subject y.subject)) ≡ true
        → key_of x ≡ key_of y
    by_parts orders.Less e h = absurd (true≢false (sym h))
    by_parts orders.Equal e h =
        λ i. (nat_cmp-IsAntisymmetric x.session y.session e i, subject_exact x.subject y.subject (tied _ h) i)
    by_parts orders.Greater e h = absurd (true≢false (sym h))

-- lines of one group are in the same groups
pub in_group : (x n y : Notice) → same_group x n ≡ true → same_group y x ≡ same_group y n
in_group x n y same =
    sym (same_key y x) ∙ ap (is_at (key_cmp (key_of y))) (equal_keys x n same) ∙ same_key y n

-- ---- order

placed_before : (n x : Notice) (xs : List Notice) (b : Bool) → nat_lt n.session x.session ≡ b
    → placed n (x ∷ xs) ≡ (if b then n ∷ x ∷ xs else x ∷ placed n xs)
placed_before n x xs true e =
    ap (λ (b : Bool). take (if b then zero else suc (place_of n.session xs)) (x ∷ xs)
    ++ n ∷ drop (if b then zero else suc (place_of n.session xs)) (x ∷ xs)) e
placed_before n x xs false e =
    ap (λ (b : Bool). take (if b then zero else suc (place_of n.session xs)) (x ∷ xs)
    ++ n ∷ drop (if b then zero else suc (place_of n.session xs)) (x ∷ xs)) e

swapped : (a b c : Bool) → (a || (b || c)) ≡ (b || (a || c))
swapped true true c = refl
swapped true false c = refl
swapped false b c = refl

pub any_placed : (test : Notice → Bool) (n : Notice) (xs : List Notice)
    → list_any test (placed n xs) ≡ (test n || list_any test xs)
any_placed test n [] = refl
any_placed test n (x ∷ xs) = by_test (nat_lt n.session x.session) refl (any_placed test n xs)
  where
    by_test : (b : Bool) → nat_lt n.session x.session ≡ b
        → list_any test (placed n xs) ≡ (test n || list_any test xs)
        → list_any test (placed n (x ∷ xs)) ≡ (test n || (test x || list_any test xs))
    by_test true e rest = ap (list_any test) (placed_before n x xs true e)
    by_test false e rest =
        ap (list_any test) (placed_before n x xs false e) ∙ ap (λ b. test x || b) rest
        ∙ sym (swapped (test n) (test x) (list_any test xs))

abbrev pub place_cmp : ℕ × ℕ → ℕ × ℕ → Ordering
place_cmp x y = ordering_then (nat_cmp x.0 y.0) (nat_cmp x.1 y.1)

-- a line whose place is above all others is the last of its session
module _ (n : ℕ) (line : Notice) where
  abbrev pub with_line : List ((ℕ × ℕ) × Notice) → List ((ℕ × ℕ) × Notice)
  with_line es = insert_entry place_cmp es (line.session, n) line

  cases : (e : (ℕ × ℕ) × Notice) (es : List ((ℕ × ℕ) × Notice)) → e.0.0 ≡ e.1.session → e.0.1 < n
      → with_line (e ∷ es)
      ≡ (if nat_lt line.session e.1.session then ((line.session, n), line) ∷ e ∷ es else e ∷ with_line es)
  cases e es same below = by_session (nat_cmp line.session e.0.0) (ranked line.session e.0.0 _ refl)
    where
      by_place : (o : Ordering) → MatchOrdering o (n < e.0.1) (n ≡ e.0.1) (e.0.1 < n) → nat_lt line.session e.1.session ≡ false
          → match_ordering o (((line.session, n), line) ∷ e ∷ es) ((e.0, line) ∷ es) (e ∷ with_line es)
          ≡ (if nat_lt line.session e.1.session then ((line.session, n), line) ∷ e ∷ es else e ∷ with_line es)
      by_place orders.Less less is = absurd (omega (arith, less, below))
      by_place orders.Equal equal is = absurd (omega (arith, equal, below))
      by_place orders.Greater more is =
          sym (ap (λ (b : Bool). if b then ((line.session, n), line) ∷ e ∷ es else e ∷ with_line es) is)

      by_session : (o : Ordering) → MatchOrdering o (line.session < e.0.0) (line.session ≡ e.0.0) (e.0.0 < line.session)
          → match_ordering (ordering_then o (nat_cmp n e.0.1)) (((line.session, n), line) ∷ e ∷ es) ((e.0, line) ∷ es)
          (e ∷ with_line es)
          ≡ (if nat_lt line.session e.1.session then ((line.session, n), line) ∷ e ∷ es else e ∷ with_line es)
      by_session orders.Less less =
          sym (ap (λ (b : Bool). if b then ((line.session, n), line) ∷ e ∷ es else e ∷ with_line es)
          (lt-ltb line.session e.1.session (omega (arith, less, same))))
      by_session orders.Equal equal =
          by_place (nat_cmp n e.0.1) (ranked n e.0.1 _ refl)
          (le-ltb line.session e.1.session (omega (arith, equal, same)))
      by_session orders.Greater more =
          sym (ap (λ (b : Bool). if b then ((line.session, n), line) ∷ e ∷ es else e ∷ with_line es)
          (le-ltb line.session e.1.session (omega (arith, more, same))))

  pub values_placed : (es : List ((ℕ × ℕ) × Notice)) → ArePlaced n es
      → values_of (with_line es) ≡ placed line (values_of es)
  values_placed [] are = refl
  values_placed (e ∷ es) are =
      ap (λ (ys : List ((ℕ × ℕ) × Notice)). values_of ys) (cases e es are.0 are.1)
      ∙ by_test (nat_lt line.session e.1.session) refl (values_placed es are.2)
    where
      by_test : (b : Bool) → nat_lt line.session e.1.session ≡ b
          → values_of (with_line es) ≡ placed line (values_of es)
          → values_of (if b then ((line.session, n), line) ∷ e ∷ es else e ∷ with_line es)
          ≡ placed line (e.1 ∷ values_of es)
      by_test true is rest = sym (placed_before line e.1 (values_of es) true is)
      by_test false is rest =
          ap (λ (ys : List Notice). e.1 ∷ ys) rest ∙ sym (placed_before line e.1 (values_of es) false is)

  -- one more is placed
  pub one_placed : (m : ℕ) (es : List ((ℕ × ℕ) × Notice)) → n < m → ArePlaced n es → ArePlaced m (with_line es)
  one_placed m [] below are = (refl, below, tt)
  one_placed m (e ∷ es) below are =
      subst (ArePlaced m) (sym (cases e es are.0 are.1))
      (by_test (nat_lt line.session e.1.session) (one_placed m es below are.2))
    where
      higher : (ys : List ((ℕ × ℕ) × Notice)) → ArePlaced n ys → ArePlaced m ys
      higher [] are = tt
      higher (y ∷ ys) are = (are.0, omega (arith, are.1, below), higher ys are.2)

      by_test : (b : Bool) → ArePlaced m (with_line es)
          → ArePlaced m (if b then ((line.session, n), line) ∷ e ∷ es else e ∷ with_line es)
      by_test true rest = (refl, below, (are.0, omega (arith, are.1, below), higher es are.2))
      by_test false rest = (are.0, omega (arith, are.1, below), rest)

  pub length_placed : (es : List ((ℕ × ℕ) × Notice)) → ArePlaced n es → length (with_line es) ≡ length es + 1
  length_placed [] are = refl
  length_placed (e ∷ es) are =
      ap (λ (ys : List ((ℕ × ℕ) × Notice)). length ys) (cases e es are.0 are.1)
      ∙ by_test (nat_lt line.session e.1.session) (length_placed es are.2)
    where
      by_test : (b : Bool) → length (with_line es) ≡ length es + 1
          → length (if b then ((line.session, n), line) ∷ e ∷ es else e ∷ with_line es) ≡ length (e ∷ es) + 1
      by_test true rest = omega arith
      by_test false rest = omega (arith, rest)

module _ (old new : List ((ℕ × ℕ) × Notice)) (place : ℕ) (line copy : Notice) (last : place ≡ length old)
    (same : copy ≡ line) (inserted : new ≡ insert_entry place_cmp old (line.session, place) copy)
    (are : ArePlaced (length old) old) where
  is_with : new ≡ with_line (length old) line old
  is_with =
      inserted ∙ ap (λ n. insert_entry place_cmp old (line.session, n) copy) last
      ∙ ap (λ (n : Notice). insert_entry place_cmp old (line.session, length old) n) same

  pub placed_values : values_of new ≡ placed line (values_of old)
  placed_values =
      ap (λ (es : List ((ℕ × ℕ) × Notice)). values_of es) is_with ∙ values_placed (length old) line old are

  pub placed_all : ArePlaced (length new) new
  placed_all =
      let more = length_placed (length old) line old are in
      subst (λ (es : List ((ℕ × ℕ) × Notice)). ArePlaced (length es) es) (sym is_with)
      (one_placed (length old) line (length (with_line (length old) line old)) old (omega (arith, more)) are)

-- ---- one group changes

module _ {V : Type 0} (items : V → List ℕ) where
  pub updated : (old new : BTreeMap Key V) (x n : Notice) (k : Key) (v : V) → k ≡ key_of x
      → ((q : Key) → get key_cmp new q ≡ cond (is_at (key_cmp k) q) (Some v) (get key_cmp old q))
      → items v ≡ unwrap_or (option_map items (get key_cmp old k)) [] ++ x.number ∷ []
      → option_map items (get key_cmp new (key_of n))
      ≡ (if same_group x n then Some (unwrap_or (option_map items (get key_cmp old (key_of n))) [] ++ x.number ∷ [])
      else option_map items (get key_cmp old (key_of n)))
  updated old new x n k v is_key updates is =
      ap (option_map items) (updates (key_of n))
      ∙ ap (λ b. option_map items (cond b (Some v) (get key_cmp old (key_of n))))
      (ap (λ j. is_at (key_cmp j) (key_of n)) is_key ∙ same_key x n)
      ∙ by_test (same_group x n) refl
    where
      by_test : (b : Bool) → same_group x n ≡ b
          → option_map items (cond b (Some v) (get key_cmp old (key_of n)))
          ≡ (if b then Some (unwrap_or (option_map items (get key_cmp old (key_of n))) [] ++ x.number ∷ [])
          else option_map items (get key_cmp old (key_of n)))
      by_test true e =
          ap Some (is ∙ ap (λ j. unwrap_or (option_map items (get key_cmp old j)) [] ++ x.number ∷ [])
          (is_key ∙ equal_keys x n e))
      by_test false e = refl

-- ---- gathering

any_alike : (one two : Notice → Bool) → ((y : Notice) → one y ≡ two y) → (xs : List Notice)
    → list_any one xs ≡ list_any two xs
any_alike one two same [] = refl
any_alike one two same (x ∷ xs) = ap (λ b. b || list_any one xs) (same x) ∙ ap (λ b. two x || b) (any_alike one two same xs)

pub gathered_none : (groups : GroupLines) → ((n : Notice) → lines_of groups n ≡ None) → AreGathered [] groups []
gathered_none groups none = record {
  lines = λ n. ap (λ o. unwrap_or o []) (none n);
  first = λ n. ap is_some (none n);
}

module _ (done : List Notice) (x : Notice) (old new : GroupLines) (found : List Notice)
    (each : (n : Notice) → lines_of new n
    ≡ (if same_group x n then Some (unwrap_or (lines_of old n) [] ++ x.number ∷ []) else lines_of old n))
    (before : AreGathered done old found) where
  one_more : (n : Notice) → unwrap_or (lines_of new n) [] ≡ map line_told (filter (λ y. same_group y n) (done ++ x ∷ []))
  one_more n =
      ap (λ o. unwrap_or o []) (each n) ∙ by_test (same_group x n)
      ∙ ap (λ (ys : List Notice). map line_told ys) (sym (filter-append (λ y. same_group y n) done (x ∷ [])))
    where
      by_test : (b : Bool) → unwrap_or (if b then Some (unwrap_or (lines_of old n) [] ++ x.number ∷ []) else lines_of old n) []
          ≡ map line_told (filter (λ y. same_group y n) done ++ (if b then x ∷ [] else []))
      by_test true =
          ap (λ ns. ns ++ x.number ∷ []) (before.lines n)
          ∙ sym (map-append line_told (filter (λ y. same_group y n) done) (x ∷ []))
      by_test false =
          before.lines n ∙ ap (λ (ys : List Notice). map line_told ys) (sym (append-nil (filter (λ y. same_group y n) done)))

  is_there : (n : Notice) → is_some (lines_of new n) ≡ (same_group x n || list_any (λ y. same_group y n) found)
  is_there n = ap is_some (each n) ∙ by_test (same_group x n)
    where
      by_test : (b : Bool) → is_some (if b then Some (unwrap_or (lines_of old n) [] ++ x.number ∷ []) else lines_of old n)
          ≡ (b || list_any (λ y. same_group y n) found)
      by_test true = refl
      by_test false = before.first n

  -- a line that is the first of its group
  pub gathered_first : AreGathered (done ++ x ∷ []) new (placed x found)
  gathered_first = record {
    lines = one_more;
    first = λ n. is_there n ∙ sym (any_placed (λ y. same_group y n) x found);
  }

  -- a line of a group that has others
  pub gathered_more : list_any (λ y. same_group y x) found ≡ true → AreGathered (done ++ x ∷ []) new found
  gathered_more has = record {
    lines = one_more;
    first = λ n. is_there n ∙ by_test n (same_group x n) refl;
  }
    where
      by_test : (n : Notice) (b : Bool) → same_group x n ≡ b
          → (b || list_any (λ y. same_group y n) found) ≡ list_any (λ y. same_group y n) found
      by_test n true e = sym (sym (any_alike (λ y. same_group y x) (λ y. same_group y n) (λ y. in_group x n y e) found) ∙ has)
      by_test n false e = refl

  not_some : (b c : Bool) → b ≡ true → b ≡ not c → c ≡ false
  not_some b true e f = absurd (true≢false (sym e ∙ f))
  not_some b false e f = refl

  is_some_then : (b c : Bool) → b ≡ false → b ≡ not c → c ≡ true
  is_some_then b true e f = refl
  is_some_then b false e f = absurd (true≢false (sym f ∙ e))

  pub adds_first : (is_first : Bool) (firsts_now : List Notice) → is_first ≡ true
      → is_first ≡ not (is_some (lines_of old x)) → firsts_now ≡ placed x found → AddsOne done x found new firsts_now
  adds_first is_first firsts_now new_one is are =
      let none : list_any (λ y. same_group y x) found ≡ false = sym (before.first x) ∙ not_some is_first _ new_one is in (
        subst (AreGathered (done ++ x ∷ []) new) (sym are) gathered_first,
        are ∙ sym (ap (λ (b : Bool). if b then found else placed x found) none),
      )

  pub adds_more : (is_first : Bool) → is_first ≡ false → is_first ≡ not (is_some (lines_of old x))
      → AddsOne done x found new found
  adds_more is_first other_one is =
      let has : list_any (λ y. same_group y x) found ≡ true = sym (before.first x) ∙ is_some_then is_first _ other_one is in
      (gathered_more has, sym (ap (λ (b : Bool). if b then found else placed x found) has))

-- one more of all lines
pub gathers_next : (notices : List Notice) (i : ℕ) (x : Notice) (old new : List Notice) (groups : GroupLines)
    → i < length notices → x ≡ get_or notices i x → AddsOne (take i notices) x old groups new
    → fold with_first old (drop i notices) ≡ firsts notices
    → AreGathered (take (i + 1) notices) groups new × (fold with_first new (drop (i + 1) notices) ≡ firsts notices)
gathers_next notices i x old new groups below item adds rest = (
  subst (λ ns. AreGathered ns groups new)
      (sym (take_more notices i x below ∙ ap (λ (y : Notice). take i notices ++ y ∷ []) (sym item))) adds.0,
  ap (λ ns. fold with_first ns (drop (i + 1) notices)) adds.1
      ∙ sym (ap (fold with_first old) (drop_more notices i x below
      ∙ ap (λ (y : Notice). y ∷ drop (i + 1) notices) (sym item)))
      ∙ rest,
)
