-- The marks of steps, with one more.
use Rattle.std.proofs.Common.{◌≡◌, ◌∙◌, ℕ, suc, ◌+◌, ◌<◌, ◌≤◌, ◌&&◌, ◌||◌, Bool, true, false, cond, List, [], ◌∷◌, ◌++◌, get_or, length, take, drop}
use Rattle.std.proofs.Common.{Option, Some, None, is_some, refl, sym, ap, arith}
use Rattle.std.specs.Option.{option_or}
use Rattle.std.proofs.Math.Numerals.{add-one}
use Rattle.std.proofs.Math.Seq.{drop-cons}
use Rattle.std.proofs.lemmas.Bool.{false≢true}
use Rattle.std.proofs.lemmas.List.{take_more, length-take, drop_all}
use borrow.Author.Tests.{eqb-true}
use Rattle.casebook_typed.specs.Spans.{begin_of, begins, contradiction, contradiction_after, contradicts, contradicts_by, end_of, ends, is_begin_of, is_end_of}
use Rattle.casebook_typed.specs.inner.Places.{AreMarks, marked_by, place_of}
use Rattle.casebook_typed.specs.declared.marks.Marks.{Marks}
use Rattle.casebook_typed.specs.declared.step.Step.{Step}
use Rattle.casebook_typed.specs.declared.step.What.{What}
use Rattle.casebook_typed.specs.declared.step.What.TheVariants as whats
use Rattle.casebook_typed.proofs.Found.{any_found, found-snoc}

-- ---- what contradicts

pub marked : (marks : Marks) (earlier : List Step) (session : ℕ) (what : What) → AreMarks marks earlier
    → marked_by marks session what ≡ contradicts_by earlier session what
marked marks earlier session (whats.Start p) are = refl
marked marks earlier session (whats.Begin n) are =
    (λ i. is_some (are.begins session n i) || is_some (are.ends session n i))
    ∙ (λ i. sym (any_found (is_begin_of session n) 0 earlier) i || sym (any_found (is_end_of session n) 0 earlier) i)
marked marks earlier session (whats.End n) are =
    ap is_some (are.ends session n) ∙ sym (any_found (is_end_of session n) 0 earlier)
marked marks earlier session (whats.Exit m) are = refl

none_there : (o : Option ℕ) → is_some o ≡ false → o ≡ None
none_there None e = refl
none_there (Some k) e = absurd (false≢true (sym e))

first_no : (a b : Bool) → (a || b) ≡ false → a ≡ false
first_no true b e = absurd (false≢true (sym e))
first_no false b e = refl

yes_left : (a b : Bool) → (a && b) ≡ true → a ≡ true
yes_left true b e = refl
yes_left false b e = e

yes_right : (a b : Bool) → (a && b) ≡ true → b ≡ true
yes_right true b e = e
yes_right false b e = absurd (false≢true e)

-- a step that doesn't contradict earlier ones begins and ends lines that they don't
new_begin : (earlier : List Step) (session : ℕ) (what : What) (s n : ℕ) → contradicts_by earlier session what ≡ false
    → s ≡ session → begins what n ≡ true → begin_of earlier s n ≡ None
new_begin earlier session (whats.Start p) s n fine same is = absurd (false≢true is)
new_begin earlier session (whats.Begin m) s n fine same is =
    (λ i. begin_of earlier (same i) (eqb-true n m is i))
    ∙ none_there _ (sym (any_found (is_begin_of session m) 0 earlier) ∙ first_no _ _ fine)
new_begin earlier session (whats.End m) s n fine same is = absurd (false≢true is)
new_begin earlier session (whats.Exit m) s n fine same is = absurd (false≢true is)

new_end : (earlier : List Step) (session : ℕ) (what : What) (s n : ℕ) → contradicts_by earlier session what ≡ false
    → s ≡ session → ends what n ≡ true → end_of earlier s n ≡ None
new_end earlier session (whats.Start p) s n fine same is = absurd (false≢true is)
new_end earlier session (whats.Begin m) s n fine same is = absurd (false≢true is)
new_end earlier session (whats.End m) s n fine same is =
    (λ i. end_of earlier (same i) (eqb-true n m is i))
    ∙ none_there _ (sym (any_found (is_end_of session m) 0 earlier) ∙ fine)
new_end earlier session (whats.Exit m) s n fine same is = absurd (false≢true is)

or_new : (o : Option ℕ) (b : Bool) (at : ℕ) → (b ≡ true → o ≡ None) → cond b (Some at) o ≡ option_or o (cond b (Some at) None)
or_new None true at h = refl
or_new None false at h = refl
or_new (Some k) true at h = absurd (let e : Some k ≡ None = h refl in cc)
or_new (Some k) false at h = refl

-- ---- a step more

here : (steps : List Step) (at : ℕ) (x d : Step) → at < length steps → x ≡ get_or steps at d
    → take (at + 1) steps ≡ take at steps ++ x ∷ []
here steps at x d h is = take_more steps at d h ∙ ap (λ y. take at steps ++ y ∷ []) (sym is)

so_far : (steps : List Step) (at : ℕ) → at < length steps → length (take at steps) ≡ at
so_far steps at h = simp length-take (omega arith)

pub next_marks : (marks after : Marks) (steps : List Step) (at : ℕ) (x d : Step) → at < length steps → x ≡ get_or steps at d
    → marked_by marks x.session x.what ≡ false
    → ((s n : ℕ) → place_of after.begins s n ≡ cond (is_begin_of s n x) (Some at) (place_of marks.begins s n))
    → ((s n : ℕ) → place_of after.ends s n ≡ cond (is_end_of s n x) (Some at) (place_of marks.ends s n))
    → AreMarks marks (take at steps) → AreMarks after (take (at + 1) steps)
next_marks marks after steps at x d h is fine begun ended are =
    let plain : contradicts_by (take at steps) x.session x.what ≡ false = sym (marked marks (take at steps) x.session x.what are) ∙ fine in
    record {
      begins = λ s n. begun s n
          ∙ ap (cond (is_begin_of s n x) (Some at)) (are.begins s n)
          ∙ or_new (begin_of (take at steps) s n) (is_begin_of s n x) at (λ e.
          new_begin (take at steps) x.session x.what s n plain (eqb-true s x.session (yes_left _ _ e)) (yes_right _ _ e))
          ∙ ap (λ k. option_or (begin_of (take at steps) s n) (cond (is_begin_of s n x) (Some k) None)) (sym (let e : 0 + length (take at steps) ≡ at = omega (arith, so_far steps at h) in e))
          ∙ sym (found-snoc (is_begin_of s n) 0 (take at steps) x)
          ∙ ap (λ xs. begin_of xs s n) (sym (here steps at x d h is));
      ends = λ s n. ended s n
          ∙ ap (cond (is_end_of s n x) (Some at)) (are.ends s n)
          ∙ or_new (end_of (take at steps) s n) (is_end_of s n x) at (λ e.
          new_end (take at steps) x.session x.what s n plain (eqb-true s x.session (yes_left _ _ e)) (yes_right _ _ e))
          ∙ ap (λ k. option_or (end_of (take at steps) s n) (cond (is_end_of s n x) (Some k) None)) (sym (let e : 0 + length (take at steps) ≡ at = omega (arith, so_far steps at h) in e))
          ∙ sym (found-snoc (is_end_of s n) 0 (take at steps) x)
          ∙ ap (λ xs. end_of xs s n) (sym (here steps at x d h is));
    }

-- ---- the first contradiction

goes_on : (earlier : List Step) (x : Step) (rest : List Step) (b : Bool) → contradicts earlier x ≡ b
    → contradiction_after earlier (x ∷ rest) ≡ cond b (Some (length earlier)) (contradiction_after (earlier ++ x ∷ []) rest)
goes_on earlier x rest b e = ap (λ c. cond c (Some (length earlier)) (contradiction_after (earlier ++ x ∷ []) rest)) e

at_here : (steps : List Step) (at : ℕ) (x d : Step) → at < length steps → x ≡ get_or steps at d
    → drop at steps ≡ x ∷ drop (at + 1) steps
at_here steps at x d h is =
    drop-cons steps at d h ∙ ap (λ y. y ∷ drop (suc at) steps) (sym is) ∙ ap (λ n. x ∷ drop n steps) (sym (add-one at))

pub found_here : (marks : Marks) (steps : List Step) (at : ℕ) (x d : Step) → at < length steps → x ≡ get_or steps at d
    → AreMarks marks (take at steps) → marked_by marks x.session x.what ≡ true
    → contradiction_after (take at steps) (drop at steps) ≡ contradiction steps
    → contradiction steps ≡ Some at
found_here marks steps at x d h is are does so =
    sym so
    ∙ ap (contradiction_after (take at steps)) (at_here steps at x d h is)
    ∙ goes_on (take at steps) x (drop (at + 1) steps) true (sym (marked marks (take at steps) x.session x.what are) ∙ does)
    ∙ ap Some (so_far steps at h)

pub not_here : (marks : Marks) (steps : List Step) (at : ℕ) (x d : Step) → at < length steps → x ≡ get_or steps at d
    → AreMarks marks (take at steps) → marked_by marks x.session x.what ≡ false
    → contradiction_after (take at steps) (drop at steps) ≡ contradiction steps
    → contradiction_after (take (at + 1) steps) (drop (at + 1) steps) ≡ contradiction steps
not_here marks steps at x d h is are fine so =
    ap (λ xs. contradiction_after xs (drop (at + 1) steps)) (here steps at x d h is)
    ∙ sym (goes_on (take at steps) x (drop (at + 1) steps) false (sym (marked marks (take at steps) x.session x.what are) ∙ fine))
    ∙ ap (contradiction_after (take at steps)) (sym (at_here steps at x d h is))
    ∙ so

pub none_left : (steps : List Step) (at : ℕ) → length steps ≤ at
    → contradiction_after (take at steps) (drop at steps) ≡ contradiction steps → contradiction steps ≡ None
none_left steps at h so = sym so ∙ ap (contradiction_after (take at steps)) (drop_all at steps h)
