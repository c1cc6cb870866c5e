-- Laws of needs: which queries they have, that each is there once, and where their notes hold.
use Rattle.std.proofs.Common.{◌≡◌, ◌∙◌, ℕ, true, false, not, refl, sym, ap}
use Rattle.std.proofs.Common.{List, [], ◌∷◌, map, zero, suc, Some, None, arith}
use Rattle.std.specs.Prelude.{◌↔◌, ◌≢◌, ◌||◌, Bool, Option}
use Rattle.std.specs.List.{All, AllPairs, Any, filter, list_any}
use Rattle.std.specs.Ordering.{is_eq}
use Rattle.std.specs.Cmp.{tied_itself}
use Rattle.std.proofs.lemmas.Bool.{false≢true}
use Rattle.std.proofs.lemmas.List.Elements.{All-cons, All-head, All-map, All-tail, All-weaker}
use Rattle.std.proofs.lemmas.List.Elements.{filter_passes}
use Rattle.std.proofs.lemmas.List.Kept.{AllPairs-cons, AllPairs-filter}
use Rattle.retro_tree.proofs.Small.{not_true, or_first, or_last, some_same, tied}
use Rattle.retro_tree.specs.Ask.{answer}
use Rattle.retro_tree.specs.Notes.{Holds, after}
use Rattle.retro_tree.specs.declared.ask.Ask.{Ask}
use Rattle.retro_tree.specs.declared.ask.Ask.TheVariants as asks
use Rattle.retro_tree.specs.declared.state.State.{State}
use Rattle.casebook_needs.specs.FirstOfEach.{first_of_each}
use Rattle.casebook_needs.specs.Needs.{asked_of, need_of, needs_of, note_of, same_query}
use Rattle.casebook_needs.specs.Query.{ask_of, query_eq, query_exact, query_total}
use Rattle.casebook_needs.specs.declared.need.Need.{Need}
use Rattle.casebook_needs.specs.Line.{LineValue}
use Rattle.casebook_needs.specs.declared.query.Query.{Query}
use Rattle.casebook_needs.specs.declared.query.Query.TheVariants as queries
use Rattle.casebook_needs.specs.declared.source.Source.{Source}
use Rattle.casebook_needs.proofs.FirstLemmas.{IsAlike, any_kept, queries_alike}

abbrev Asked : Type 0
Asked = List (Query × Source)

-- ---- each query of a rule is that of a need

query_itself : (q : Query) → query_eq q q ≡ true
query_itself q = ap is_eq (tied_itself query_total q)

has_query : (xs : Asked) (q : Query) → Any (λ a. a.0 ≡ q) xs
    → list_any (λ a. query_eq a.0 q) xs ≡ true
has_query [] q (k, x, lt, at, e) = absurd (omega arith)
has_query (y ∷ xs) q (zero, x, lt, at, e) =
    or_first (query_eq y.0 q) (list_any (λ a. query_eq a.0 q) xs)
    (ap (λ z. query_eq z.0 q) at ∙ ap (λ r. query_eq r q) e ∙ query_itself q)
has_query (y ∷ xs) q (suc k, x, lt, at, e) =
    or_last (query_eq y.0 q) (list_any (λ a. query_eq a.0 q) xs)
    (has_query xs q (k, x, omega arith, at, e))

-- an item is among the first of each if it is among all
among_first : {A : Type 0} (eq : A → A → Bool) → IsAlike eq → (xs : List A) (a : A)
    → list_any (λ y. eq y a) (first_of_each eq xs) ≡ list_any (λ y. eq y a) xs
among_first eq alike [] a = refl
among_first {A} eq alike (x ∷ xs) a = by_test (eq x a) refl (among_first eq alike xs a)
  where
    others : List A
    others = filter (λ y. not (eq x y)) (first_of_each eq xs)

    by_test : (b : Bool) → eq x a ≡ b
        → list_any (λ y. eq y a) (first_of_each eq xs) ≡ list_any (λ y. eq y a) xs
        → (eq x a || list_any (λ y. eq y a) others) ≡ (eq x a || list_any (λ y. eq y a) xs)
    by_test true e rest =
        ap (λ b. b || list_any (λ y. eq y a) others) e
        ∙ sym (ap (λ b. b || list_any (λ y. eq y a) xs) e)
    by_test false e rest =
        ap (λ b. eq x a || b) (any_kept eq alike x a e (first_of_each eq xs) ∙ rest)

need_with : (session : ℕ) (s : State) (xs : Asked) (q : Query)
    → list_any (λ a. query_eq a.0 q) xs ≡ true
    → Any (λ need. need.ask ≡ ask_of session q) (map (need_of session s) xs)
need_with session s [] q e = absurd (false≢true e)
need_with session s (x ∷ xs) q e = by_test (query_eq x.0 q) refl e (need_with session s xs q)
  where
    by_test : (b : Bool) → query_eq x.0 q ≡ b → (b || list_any (λ a. query_eq a.0 q) xs) ≡ true
        → (list_any (λ a. query_eq a.0 q) xs ≡ true
        → Any (λ need. need.ask ≡ ask_of session q) (map (need_of session s) xs))
        → Any (λ need. need.ask ≡ ask_of session q)
        (need_of session s x ∷ map (need_of session s) xs)
    by_test true same h rest = (
      0,
      need_of session s x,
      omega arith,
      refl,
      ap (ask_of session) (query_exact x.0 q (tied _ same)),
    )
    by_test false other h rest = let (k, need, lt, at, is) = rest h in
        (suc k, need, omega arith, at, is)

pub given_by_rules : (s : State) (line : LineValue) (q : Query)
    → Any (λ a. a.0 ≡ q) (asked_of s line)
    → Any (λ need. need.ask ≡ ask_of line.session q) (needs_of s line)
unfolding needs_of
given_by_rules s line q h = let (k, x, lt, at, e) = h in
    need_with line.session s (first_of_each same_query (asked_of s line)) q
    (among_first same_query queries_alike (asked_of s line) (q, x.1)
    ∙ has_query (asked_of s line) q (k, x, lt, at, e))

-- ---- each query is there once

-- the query that one about a session is
query_in : Ask → Option Query
query_in (asks.Bytes p) = Some (queries.Bytes p)
query_in (asks.Names p) = Some (queries.Names p)
query_in (asks.VarOf session name) = Some (queries.Var name)
query_in (asks.StatusOf session) = Some queries.Status
query_in (asks.CwdOf session) = Some queries.Cwd
query_in _ = None

query_back : (session : ℕ) (q : Query) → query_in (ask_of session q) ≡ Some q
unfolding query_in
query_back session (queries.Bytes p) = refl
query_back session (queries.Names p) = refl
query_back session (queries.Var name) = refl
query_back session queries.Status = refl
query_back session queries.Cwd = refl

same_ask : (session : ℕ) (q r : Query) → ask_of session q ≡ ask_of session r → q ≡ r
same_ask session q r e =
    some_same q r (sym (query_back session q) ∙ ap query_in e ∙ query_back session r)

other_ask : (session : ℕ) (s : State) (x y : Query × Source) → same_query x y ≡ false
    → (need_of session s x).ask ≢ (need_of session s y).ask
other_ask session s x y other e =
    false≢true (sym other ∙ ap (λ q. query_eq q y.0) (same_ask session x.0 y.0 e)
    ∙ query_itself y.0)

no_pair : {A : Type 0} (R : A → A → Type 0) → AllPairs R []
no_pair R i j d lt bound = absurd (omega arith)

first_pair : {A : Type 0} (R : A → A → Type 0) (x : A) (xs : List A) → AllPairs R (x ∷ xs)
    → All (R x) xs
first_pair R x xs h k d lt = h zero (suc k) d (omega arith) (omega arith)

other_pairs : {A : Type 0} (R : A → A → Type 0) (x : A) (xs : List A) → AllPairs R (x ∷ xs)
    → AllPairs R xs
other_pairs R x xs h i j d lt bound = h (suc i) (suc j) d (omega arith) (omega arith)

-- pairs of what items are mapped to
pairs_mapped : {A B : Type 0} (R : A → A → Type 0) (S : B → B → Type 0) (f : A → B)
    → ((x y : A) → R x y → S (f x) (f y)) → (xs : List A) → AllPairs R xs → AllPairs S (map f xs)
pairs_mapped R S f leads [] h = no_pair S
pairs_mapped R S f leads (x ∷ xs) h =
    AllPairs-cons S (f x) (map f xs)
    (All-map (S (f x)) f xs
    (All-weaker (R x) (λ y. S (f x) (f y)) (leads x) xs (first_pair R x xs h)))
    (pairs_mapped R S f leads xs (other_pairs R x xs h))

first_differ : {A : Type 0} (eq : A → A → Bool) (xs : List A)
    → AllPairs (λ x y. eq x y ≡ false) (first_of_each eq xs)
first_differ eq [] = no_pair (λ x y. eq x y ≡ false)
first_differ eq (x ∷ xs) =
    AllPairs-cons (λ y z. eq y z ≡ false) x (filter (λ y. not (eq x y)) (first_of_each eq xs))
    (All-weaker (λ y. not (eq x y) ≡ true) (λ y. eq x y ≡ false) (λ y. not_true (eq x y)) _
    (filter_passes (λ y. not (eq x y)) (first_of_each eq xs)))
    (AllPairs-filter (λ y z. eq y z ≡ false) (λ y. not (eq x y)) (first_of_each eq xs)
    (first_differ eq xs))

pub asked_once : (s : State) (line : LineValue)
    → AllPairs (λ one other. one.ask ≢ other.ask) (needs_of s line)
unfolding needs_of
asked_once s line =
    pairs_mapped (λ x y. same_query x y ≡ false) (λ one other. one.ask ≢ other.ask)
    (need_of line.session s) (other_ask line.session s)
    (first_of_each same_query (asked_of s line)) (first_differ same_query (asked_of s line))

-- ---- the notes of needs

hold_at_first : (session : ℕ) (s : State) (xs : Asked)
    → Holds (map note_of (map (need_of session s) xs)) s
hold_at_first session s [] = tt
hold_at_first session s (x ∷ xs) = (refl, hold_at_first session s xs)

pub needs_hold_at_first : (s : State) (line : LineValue)
    → Holds (map note_of (needs_of s line)) s
unfolding needs_of
needs_hold_at_first s line =
    hold_at_first line.session s (first_of_each same_query (asked_of s line))

abbrev SameAnswer : State → Need → Type 0
SameAnswer s need = answer need.ask s ≡ need.answer

answers_of_notes : (needs : List Need) (s : State) → Holds (map note_of needs) s
    → All (SameAnswer s) needs
answers_of_notes [] s h = λ k d lt. absurd (omega arith)
answers_of_notes (need ∷ needs) s h =
    All-cons (SameAnswer s) need needs h.0 (answers_of_notes needs s h.1)

notes_of_answers : (needs : List Need) (s : State) → All (SameAnswer s) needs
    → Holds (map note_of needs) s
notes_of_answers [] s h = tt
notes_of_answers (need ∷ needs) s h = (
  All-head (SameAnswer s) need needs h,
  notes_of_answers needs s (All-tail (SameAnswer s) need needs h),
)

pub hold_by_answers : (needs : List Need) (s : State) → Holds (map note_of needs) s
    ↔ All (λ need. answer need.ask s ≡ need.answer) needs
hold_by_answers needs s = (answers_of_notes needs s, notes_of_answers needs s)

pub change_nothing : (needs : List Need) (s : State) → after (map note_of needs) s ≡ s
change_nothing [] s = refl
change_nothing (need ∷ needs) s = change_nothing needs s
