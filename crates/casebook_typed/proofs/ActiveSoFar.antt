-- The lists of the observations at which lines are active.
use Rattle.std.proofs.Common.{◌≡◌, ◌∙◌, ℕ, ◌+◌, ◌<◌, ◌≤◌, ◌==◌, ◌&&◌, ◌||◌, Bool, true, false, not, cond, List, [], ◌∷◌, ◌++◌, get_or, length, map, take, drop, nat_le, nat_lt}
use Rattle.std.proofs.Common.{refl, sym, ap, arith, ⊎_elim, subst}
use Rattle.std.proofs.lemmas.List.{map-set}
use Rattle.std.proofs.Math.ListN.{set}
use Rattle.std.specs.List.{filter, list_any}
use Rattle.std.specs.Global.{Vec}
use Rattle.std.proofs.lemmas.Bool.{cases_eq, false≢true}
use Rattle.std.proofs.lemmas.Grind.{common_steps}
use Rattle.std.proofs.lemmas.Bool.Decides.{nat_tests}
use Rattle.std.proofs.lemmas.List.{append-nil, take_more, length-map, length-take, drop_all, get_or-set_same, get_or-set_other, get_or-map}
use Rattle.std.proofs.lemmas.List.Elements.{filter-append}
use Rattle.std.proofs.lemmas.List.Folds.{list_any-append}
use Rattle.casebook_typed.specs.Spans.{active_at, is_active, is_start_from, is_waiting}
use Rattle.casebook_typed.specs.inner.Lists.{list_at, span_if}
use Rattle.casebook_typed.specs.declared.span.Span.{Span}
use Rattle.casebook_typed.specs.declared.step.Step.{Step}

-- ---- when a line is active

not_yet : (steps : List Step) (k : ℕ) (span : Span) → nat_le span.since k ≡ false → is_active steps k span ≡ false
not_yet steps k span e = ap (λ b. (b && nat_le k span.until) && not (is_waiting steps span k)) e

no_more : (a b : Bool) (e : b ≡ false) → (a && b) ≡ false
no_more true b e = e
no_more false b e = refl

ended : (steps : List Step) (k : ℕ) (span : Span) → nat_le k span.until ≡ false → is_active steps k span ≡ false
ended steps k span e = ap (λ b. b && not (is_waiting steps span k)) (no_more (nat_le span.since k) _ e)

before_since : (since k : ℕ) → nat_lt k since ≡ true → nat_le since k ≡ false
before_since since k e = grind (arith, nat_tests)

-- nothing is in the lists before the line is open
at_since : (steps : List Step) (k : ℕ) (span : Span) (b : Bool) → nat_lt k span.since ≡ b → (b && is_active steps k span) ≡ false
at_since steps k span true e = not_yet steps k span (before_since span.since k e)
at_since steps k span false e = refl

pub none_before : (steps : List Step) (k : ℕ) (span : Span) (xs : List Span)
    → xs ≡ xs ++ span_if span (nat_lt k span.since && is_active steps k span)
none_before steps k span xs =
    sym (append-nil xs) ∙ ap (λ b. xs ++ span_if span b) (sym (at_since steps k span (nat_lt k span.since) refl))

drop_taken : {A : Type 0} (n : ℕ) (xs : List A) → drop n (take n xs) ≡ []
drop_taken n xs = drop_all n (take n xs) (simp length-take (omega arith))

pub none_started : (span : Span) (steps : List Step) → false ≡ list_any (is_start_from span.session) (drop span.since (take span.since steps))
none_started span steps = ap (list_any (is_start_from span.session)) (sym (drop_taken span.since steps))

awake : (w : Bool) (at until : ℕ) → nat_le at until ≡ true → (not w || at == until) ≡ not (nat_lt at until && w)
awake true at until e = grind (arith, nat_tests)
awake false at until e = grind (arith, nat_tests)

open_here : (since until at : ℕ) → since ≤ at → nat_le at until ≡ true → (nat_le since at && nat_le at until) ≡ true
open_here since until at h e = grind (arith, nat_tests)

pub active_here : (steps : List Step) (span : Span) (at : ℕ) (w : Bool) → span.since ≤ at → nat_le at span.until ≡ true
    → w ≡ list_any (is_start_from span.session) (drop span.since (take at steps))
    → (not w || at == span.until) ≡ is_active steps at span
active_here steps span at w h e is =
    awake w at span.until e
    ∙ ap (λ v. not (nat_lt at span.until && v)) is
    ∙ ap (λ b. b && not (is_waiting steps span at)) (sym (open_here span.since span.until at h e))

-- ---- an observation more

drop-append_le : {A : Type 0} (n : ℕ) (xs ys : List A) → n ≤ length xs → drop n (xs ++ ys) ≡ drop n xs ++ ys
drop-append_le n xs ys h = grind (arith, common_steps)

or_none : (b c : Bool) → (b || (c || false)) ≡ (b || c)
or_none true c = refl
or_none false true = refl
or_none false false = refl

pub started_more : (steps : List Step) (since at session : ℕ) (x d : Step) (w : Bool) → since ≤ at → at < length steps
    → x ≡ get_or steps at d → w ≡ list_any (is_start_from session) (drop since (take at steps))
    → (w || is_start_from session x) ≡ list_any (is_start_from session) (drop since (take (at + 1) steps))
started_more steps since at session x d w h lt is so =
    let long : since ≤ length (take at steps) = simp length-take (omega arith) in
    ap (λ v. v || is_start_from session x) so
    ∙ sym (or_none (list_any (is_start_from session) (drop since (take at steps))) (is_start_from session x))
    ∙ sym (list_any-append (is_start_from session) (drop since (take at steps)) (x ∷ []))
    ∙ ap (list_any (is_start_from session)) (sym (drop-append_le since (take at steps) (x ∷ []) long))
    ∙ ap (λ y. list_any (is_start_from session) (drop since (take at steps ++ y ∷ []))) is
    ∙ ap (λ xs. list_any (is_start_from session) (drop since xs)) (sym (take_more steps at d lt))

later : (k at : ℕ) → (k ≡ at → ⊥) → nat_lt k (at + 1) ≡ nat_lt k at
later k at ne = grind (arith, nat_tests)

now_in : (at : ℕ) → nat_lt at (at + 1) ≡ true
now_in at = grind (arith, nat_tests)

not_in : (at : ℕ) → nat_lt at at ≡ false
not_in at = grind (arith, nat_tests)

at_this : (lists : List (Vec Span)) (v : Vec Span) (at : ℕ) → at < length lists → list_at (set lists at v) at ≡ v.items
at_this lists v at h =
    ap (λ (xs : List (List Span)). get_or xs at []) (map-set (λ (w : Vec Span). w.items) lists at v)
    ∙ get_or-set_same (map (λ (w : Vec Span). w.items) lists) at v.items [] (rw length-map h)

elsewhere : (lists : List (Vec Span)) (v : Vec Span) (at k : ℕ) → (k ≡ at → ⊥) → list_at (set lists at v) k ≡ list_at lists k
elsewhere lists v at k ne =
    ap (λ (xs : List (List Span)). get_or xs k []) (map-set (λ (w : Vec Span). w.items) lists at v)
    ∙ get_or-set_other (map (λ (w : Vec Span). w.items) lists) at k v.items [] ne

pub grown : (lists : List (Vec Span)) (old : ℕ → List Span) (v d : Vec Span) (at n : ℕ) (steps : List Step) (span : Span) (b : Bool)
    → at < length lists → at < n → v.items ≡ (get_or lists at d).items ++ span_if span b → b ≡ is_active steps at span
    → ((k : ℕ) → k < n → list_at lists k ≡ old k ++ span_if span (nat_lt k at && is_active steps k span))
    → (k : ℕ) → k < n → list_at (set lists at v) k ≡ old k ++ span_if span (nat_lt k (at + 1) && is_active steps k span)
grown lists old v d at n steps span b h lt now does so k below =
    ⊎_elim
    (λ (e : k ≡ at).
    let P : ℕ → Type 0 = λ j. list_at (set lists at v) j ≡ old j ++ span_if span (nat_lt j (at + 1) && is_active steps j span) in
    subst P (sym e) (
    at_this lists v at h ∙ now
    ∙ ap (λ xs. xs ++ span_if span b) (sym (get_or-map (λ (w : Vec Span). w.items) lists at d [] h) ∙ so at lt
    ∙ ap (λ c. old at ++ span_if span (c && is_active steps at span)) (not_in at) ∙ append-nil (old at))
    ∙ ap (λ c. old at ++ span_if span c) does
    ∙ ap (λ c. old at ++ span_if span (c && is_active steps at span)) (sym (now_in at))))
    (λ ne.
    elsewhere lists v at k ne ∙ so k below
    ∙ ap (λ c. old k ++ span_if span (c && is_active steps k span)) (sym (later k at ne)))
    (cases_eq k at)

settled : (a b c : Bool) → (b ≡ false → c ≡ false) → (b ≡ true → a ≡ true) → (a && c) ≡ c
settled true b c h k = refl
settled false true c h k = absurd (false≢true (k refl))
settled false false c h k = sym (h refl)

not_below : (k at end : ℕ) → end ≤ at → nat_lt k end ≡ true → nat_lt k at ≡ true
not_below k at end h e = grind (arith, nat_tests)

-- what the line's end says
pub at_end : (steps : List Step) (span : Span) (at end : ℕ) → end ≤ at → end ≤ length steps
    → ((k : ℕ) → k < length steps → nat_lt k end ≡ nat_le k span.until)
    → (k : ℕ) → k < length steps → (nat_lt k at && is_active steps k span) ≡ is_active steps k span
at_end steps span at end h within value k lt =
    settled (nat_lt k at) (nat_le k span.until) (is_active steps k span) (ended steps k span)
    (λ e. not_below k at end h (value k lt ∙ e))

-- ---- a line more

here_too : (steps : List Step) (at : ℕ) (span : Span) → filter (is_active steps at) (span ∷ []) ≡ span_if span (is_active steps at span)
here_too steps at span = elim (is_active steps at span) as (λ b. cond b (span ∷ []) [] ≡ span_if span b) [ true ↦ refl | false ↦ refl ]

pub one_more_span : (steps : List Step) (spans : List Span) (i at : ℕ) (x d : Span) → i < length spans → x ≡ get_or spans i d
    → active_at steps (take i spans) at ++ span_if x (is_active steps at x) ≡ active_at steps (take (i + 1) spans) at
one_more_span steps spans i at x d h is =
    ap (λ xs. active_at steps (take i spans) at ++ xs) (sym (here_too steps at x))
    ∙ sym (filter-append (is_active steps at) (take i spans) (x ∷ []))
    ∙ ap (λ y. active_at steps (take i spans ++ y ∷ []) at) is
    ∙ ap (λ xs. active_at steps xs at) (sym (take_more spans i d h))
