-- The names in the program's set, as a set of the definitions.
use Rattle.std.proofs.Common.{◌≡◌, ◌∙◌, ℕ, Bool, true, false, cond, ◌||◌, List, [], ◌∷◌, refl}
use Rattle.std.proofs.Common.{ap, sym}
use Rattle.std.specs.Prelude.{not}
use Rattle.std.specs.BTreeSet.{BTreeSet, contains}
use Rattle.std.specs.FinSet as set
use Rattle.std.specs.List.{list_any}
use Rattle.std.specs.Ordering.{eq_by_cmp}
use Rattle.std.proofs.lemmas.Cmp.{nat_list_eq_equiv}
use Rattle.retro_path.specs.Order.{text_cmp, text_exact, text_ties, text_total}
use Rattle.casebook_needs.specs.Words.{words_of}
use Rattle.casebook_shell.specs.Rules.{Rules, means_itself}

-- the set of the keys
abbrev pub names_of : BTreeSet (List ℕ) → set.FinSet text_cmp
names_of names = set.from_list names.keys

as_or : (a b : Bool) → cond a true b ≡ (a || b)
as_or true b = refl
as_or false b = refl

ties_swap : (k q : List ℕ) → eq_by_cmp text_cmp k q ≡ eq_by_cmp text_cmp q k
ties_swap k q = sym (text_ties k q) ∙ nat_list_eq_equiv.symm k q ∙ text_ties q k

-- a set after an insertion
pub insert_key : (before after : BTreeSet (List ℕ)) (k : List ℕ)
    → ((q : List ℕ) → contains text_cmp after q ≡ cond (eq_by_cmp text_cmp k q) true
    (contains text_cmp before q))
    → names_of after ≡ set.insert (names_of before) k
insert_key before after k updates =
    set.same_set text_total text_exact (names_of after) (set.insert (names_of before) k) (λ q.
    set.contains-from_list text_total after.keys q
    ∙ updates q
    ∙ as_or (eq_by_cmp text_cmp k q) (contains text_cmp before q)
    ∙ ap (λ b. b || contains text_cmp before q) (ties_swap k q)
    ∙ ap (λ b. eq_by_cmp text_cmp q k || b)
    (sym (set.contains-from_list text_total before.keys q))
    ∙ sym (set.contains-insert text_total (names_of before) k q))

any_same : {A : Type 0} (f g : A → Bool) → ((x : A) → f x ≡ g x) → (xs : List A)
    → list_any f xs ≡ list_any g xs
any_same f g same [] = refl
any_same f g same (x ∷ xs) = ap (λ b. b || list_any f xs) (same x)
    ∙ ap (λ b. g x || b) (any_same f g same xs)

usual_means : (names : BTreeSet (List ℕ)) (text : List ℕ)
    → means_itself (record { names = names_of names; is_usual = true }) text
    ≡ not (list_any (contains text_cmp names) (words_of text))
unfolding means_itself
usual_means names text =
    ap not (any_same (set.contains (names_of names)) (contains text_cmp names)
    (set.contains-from_list text_total names.keys) (words_of text))

-- what a look-up of each word says
pub words_mean : (names : BTreeSet (List ℕ)) (is_usual : Bool) (rules : Rules)
    (text : List ℕ) (words : List (List ℕ)) (has : Bool)
    → record { names = names_of names; is_usual = is_usual } ≡ rules → is_usual ≡ true
    → words ≡ words_of text → has ≡ list_any (contains text_cmp names) words
    → not has ≡ means_itself rules text
words_mean names is_usual rules text words has is usual all found =
    ap not (found ∙ ap (list_any (contains text_cmp names)) all)
    ∙ sym (usual_means names text)
    ∙ ap (λ (b : Bool). means_itself (record { names = names_of names; is_usual = b }) text)
    (sym usual)
    ∙ ap (λ (r : Rules). means_itself r text) is
