-- What a folder in memory holds.
use Rattle.std.proofs.Common.{◌≡◌, ℕ, ◌+◌, ◌<◌, Bool, true, false, not, ◌||◌, refl, sym, ap}
use Rattle.std.proofs.Common.{subst, ◌∙◌, inl, inr, List, [], ◌∷◌, ◌++◌, map, length, get_or, Some}
use Rattle.std.proofs.Common.{None, ◌↔◌, IsTrue, Option, ◌⊎◌}
use Rattle.std.specs.Prelude.{if◌then◌else◌}
use Rattle.std.specs.List.{list_any}
use Rattle.std.proofs.Math.ListN.{drop}
use Rattle.std.proofs.lemmas.List.{drop_more}
use Rattle.std.proofs.lemmas.Bool.{false≢true}
use Rattle.std.specs.Cmp.Lexicographic.{nat_list_eq_equiv}
use Rattle.retro_path.specs.Order.{path_eq, text_eq}
use Rattle.retro_path.specs.Path.{PathValue, child_name, only_name, below}
use Rattle.casebook_folder.specs.Found.{is_missing}
use Rattle.casebook_folder.specs.Steps.{Contents, Step, put, after_steps, HasOtherChild}
use Rattle.casebook_folder.specs.inner.Memory.{contents_of, at_after, is_other}
use Rattle.casebook_folder.specs.Made.{step_of}
use Rattle.casebook_folder.specs.inner.Memory.{is_other_name, entry_path, made_path}
use Rattle.casebook_folder.specs.declared.memory.Entry.{Entry}
use Rattle.casebook_folder.specs.declared.made_step.MadeStep.{MadeStep}
use Rattle.casebook_folder.specs.declared.found.Found.{Found}
use Rattle.casebook_folder.proofs.Small.{both_and, decided, either_or, first_and, first_or}
use Rattle.casebook_folder.proofs.Small.{last_and, last_or, none_some, not_true, same_path}
use Rattle.casebook_folder.proofs.Small.{same_text, some_same}

pub after_at : (ss : List Step) (f : Contents) (q : PathValue)
    → after_steps ss f q ≡ at_after ss q (f q)
after_at [] f q = refl
after_at (s ∷ ss) f q = after_at ss (put s.path s.found f) q

pub contents_next : (es : List Entry) (k : ℕ) (e : Entry) (q : PathValue) → k < length es
    → get_or es k e ≡ e
    → contents_of (drop k es) q ≡ contents_of (e ∷ drop (k + 1) es) q
contents_next es k e q within is =
    ap (λ x. contents_of x q) (drop_more es k e within ∙ ap (λ x. x ∷ drop (k + 1) es) is)

pub contents_here : (e : Entry) (es : List Entry) (q : PathValue) → path_eq e.path q ≡ true
    → contents_of (e ∷ es) q ≡ e.found
contents_here e es q h = ap (λ b. if b then e.found else contents_of es q) h

pub contents_there : (e : Entry) (es : List Entry) (q : PathValue) → path_eq e.path q ≡ false
    → contents_of (e ∷ es) q ≡ contents_of es q
contents_there e es q h = ap (λ b. if b then e.found else contents_of es q) h

-- what each entry says of a path
pub ruleset contents = (contents_next, contents_here, contents_there)

pub after_next : (ss : List MadeStep) (k : ℕ) (s : MadeStep) (q : PathValue) (x : Found)
    → k < length ss → get_or ss k s ≡ s
    → at_after (map step_of (drop k ss)) q x ≡ at_after (map step_of (drop (k + 1) ss)) q (if path_eq s.path q then s.after else x)
after_next ss k s q x within is =
    ap (λ y. at_after (map step_of y) q x) (drop_more ss k s within ∙ ap (λ y. y ∷ drop (k + 1) ss) is)

-- ---- children

child_is : (p q : PathValue) (n : List ℕ) → child_name p q ≡ Some n → q ≡ p ++ n ∷ []
child_is [] [] n e = absurd (none_some n e)
child_is [] (m ∷ []) n e = ap (λ k. k ∷ []) (some_same m n e)
child_is [] (m ∷ k ∷ rest) n e = absurd (none_some n e)
child_is (x ∷ p) [] n e = absurd (none_some n e)
child_is (x ∷ p) (y ∷ q) n e =
    elim (text_eq x y) as (λ b. text_eq x y ≡ b → only_name (if b then below p q else None) ≡ Some n
    → y ∷ q ≡ (x ∷ p) ++ n ∷ []) [
      | true ↦ λ same here. λ i. sym (same_text x y same) i ∷ child_is p q n here i
      | false ↦ λ same here. absurd (none_some n here)
    ] refl e

child_of : (p : PathValue) (n : List ℕ) → child_name p (p ++ n ∷ []) ≡ Some n
child_of [] n = refl
child_of (x ∷ p) n =
    ap (λ b. only_name (if b then below p (p ++ n ∷ []) else None)) (nat_list_eq_equiv.refl x)
    ∙ child_of p n

-- whether a path is among some paths
abbrev pub has_path : PathValue → List PathValue → Bool
has_path q ps = list_any (λ p. path_eq p q) ps

-- what holds of a path that is among some paths holds of one of them
any_at : (test : PathValue → Bool) (q : PathValue) (ps : List PathValue) → test q ≡ true
    → has_path q ps ≡ true → list_any test ps ≡ true
any_at test q [] h is = is
any_at test q (p ∷ ps) h is = elim (either_or (path_eq p q) (has_path q ps) is) [
  | inl here ↦ first_or (test p) (list_any test ps) (ap test (same_path p q here) ∙ h)
  | inr there ↦ last_or (test p) (list_any test ps) (any_at test q ps h there)
]

-- a path that holds something at first has an entry
held_first : (q : PathValue) (es : List Entry) → is_missing (contents_of es q) ≡ false
    → has_path q (map entry_path es) ≡ true
held_first q [] h = sym h
held_first q (e ∷ es) h = elim (decided (path_eq e.path q)) [
  | inl here ↦ first_or (path_eq e.path q) (has_path q (map entry_path es)) here
  | inr there ↦ last_or (path_eq e.path q) (has_path q (map entry_path es))
      (held_first q es (subst (λ b. is_missing (if b then e.found else contents_of es q) ≡ false) there h))
]

-- a path that holds something after steps held it before, or has a step
held_after : (q : PathValue) (ss : List MadeStep) (x : Found)
    → is_missing (at_after (map step_of ss) q x) ≡ false
    → (is_missing x ≡ false) ⊎ (has_path q (map made_path ss) ≡ true)
held_after q [] x h = inl h
held_after q (s ∷ ss) x h = elim (decided (path_eq s.path q)) [
  | inl here ↦ inr (first_or (path_eq s.path q) (has_path q (map made_path ss)) here)
  | inr there ↦ elim (held_after q ss x (subst (λ b. is_missing (at_after (map step_of ss) q (if b then s.after else x)) ≡ false) there h)) [
    | inl k ↦ inl k
    | inr k ↦ inr (last_or (path_eq s.path q) (has_path q (map made_path ss)) k)
  ]
]

other_here : (f : Contents) (p : PathValue) (names : List (List ℕ)) (q : PathValue) (o : Option (List ℕ))
    → child_name p q ≡ o → is_other_name (f q) names o ≡ true → HasOtherChild f p names
other_here f p names q None is h = absurd (false≢true h)
other_here f p names q (Some n) is h = record {
  name = n;
  other = not_true _ (first_and (not (list_any (text_eq n) names)) (not (is_missing (f q))) h);
  exists = subst (λ p. is_missing (f p) ≡ false) (child_is p q n is)
      (not_true _ (last_and (not (list_any (text_eq n) names)) (not (is_missing (f q))) h));
}

any_other : (f : Contents) (p : PathValue) (names : List (List ℕ)) (qs : List PathValue)
    → list_any (is_other f p names) qs ≡ true → HasOtherChild f p names
any_other f p names [] h = absurd (false≢true h)
any_other f p names (q ∷ qs) h =
    elim (either_or (is_other f p names q) (list_any (is_other f p names) qs) h) [
      | inl here ↦ other_here f p names q (child_name p q) refl here
      | inr there ↦ any_other f p names qs there
    ]

is_other_at : (f : Contents) (p : PathValue) (names : List (List ℕ)) (h : HasOtherChild f p names)
    → is_other f p names (p ++ h.name ∷ []) ≡ true
is_other_at f p names h =
    ap (is_other_name (f (p ++ h.name ∷ [])) names) (child_of p h.name) ∙ both_and _ _ (ap not h.other) (ap not h.exists)

-- a child that isn't among some names has an entry or a step
pub other_child : (first : List Entry) (made : List MadeStep) (p : PathValue) (names : List (List ℕ)) (a b : Bool)
    → a ≡ list_any (is_other (after_steps (map step_of made) (contents_of first)) p names) (map entry_path first)
    → b ≡ list_any (is_other (after_steps (map step_of made) (contents_of first)) p names) (map made_path made)
    → IsTrue (a || b) ↔ HasOtherChild (after_steps (map step_of made) (contents_of first)) p names
other_child first made p names a b is_a is_b =
    let f = after_steps (map step_of made) (contents_of first) in (
      λ h. elim (either_or a b h) [
        | inl k ↦ any_other f p names (map entry_path first) (sym is_a ∙ k)
        | inr k ↦ any_other f p names (map made_path made) (sym is_b ∙ k)
      ],
      λ h.
          let q = p ++ h.name ∷ [] in
          let test = is_other f p names in
          elim (held_after q made (contents_of first q)
          (sym (ap is_missing (after_at (map step_of made) (contents_of first) q)) ∙ h.exists)) [
            | inl k ↦ first_or a b (is_a ∙ any_at test q (map entry_path first) (is_other_at f p names h) (held_first q first k))
            | inr k ↦ last_or a b (is_b ∙ any_at test q (map made_path made) (is_other_at f p names h) k)
          ],
    )
