-- Characters that split a text, and escapes, as the code reads them.
use Rattle.std.proofs.Common.{◌≡◌, ◌≢◌, ◌∙◌, eq-eqb, ℕ, ◌+◌, ◌<◌, Bool, true, false, List, [], ◌∷◌, ◌++◌, length, drop}
use Rattle.std.proofs.Common.{get_or, Option, Some, None, option_map, MatchOption, refl, sym, ap, arith, ⊎_elim}
use Rattle.std.proofs.Common.{append_assoc}
use Rattle.std.specs.Prelude.{◌==◌, if◌then◌else◌, suc, zero}
use Rattle.std.proofs.lemmas.Bool.{cases_Bool, eqb-true}
use Rattle.std.proofs.lemmas.Str.Pattern.{IsSplitOnceResult, split_parts, strip_prefix_char}
use Rattle.std.specs.Str.Pattern.{FindsCharPrefix}
use denote.Ref.{Bor}
use Rattle.casebook_script.specs.Ascii.{backslash}
use Rattle.casebook_script.specs.Cells.{after_char, cut_at, escape_in, escaped, joined, unescaped}

pub after_from_strip : (c : ℕ) (text : List ℕ) (r : Option (Bor (List ℕ)))
    → MatchOption r (FindsCharPrefix c text None)
    (λ x. (n : ℕ) × FindsCharPrefix c text (Some n) × (x.now ≡ drop n text) × (length x.now + n ≡ length text))
    → c < 128 → option_map (λ x. x.now) r ≡ after_char c text
after_from_strip c text r h low = by_result text r (strip_prefix_char c text r h low)
  where
    by_result : (text : List ℕ) (r : Option (Bor (List ℕ)))
        → MatchOption r ((rest : List ℕ) → text ≢ c ∷ rest) (λ x. text ≡ c ∷ x.now)
        → option_map (λ x. x.now) r ≡ after_char c text
    by_result text (Some x) e = rw (e, eq-eqb c c refl) refl
    by_result [] None e = refl
    by_result (b ∷ rest) None e =
        ⊎_elim (λ same. absurd (e rest (ap (λ d. d ∷ rest) (eqb-true b c same)))) (λ other. rw other refl) (cases_Bool (b == c))

-- ---- a text is split at the first of some characters

abbrev with_first : ℕ → List ℕ × List ℕ → List ℕ × List ℕ
with_first d cut = (d ∷ cut.0, cut.1)

cut_found : (c : ℕ) (xs ys : List ℕ) → ((i : ℕ) → i < length xs → get_or xs i 0 ≢ c) → Some (xs, ys) ≡ cut_at c (xs ++ c ∷ ys)
unfolding cut_at
cut_found c [] ys none = rw (eq-eqb c c refl) refl
cut_found c (x ∷ xs) ys none =
    let more : Some (xs, ys) ≡ cut_at c (xs ++ c ∷ ys) = cut_found c xs ys (λ i lt. none (suc i) (omega arith)) in
    ⊎_elim (λ same. absurd (none zero (omega arith) (eqb-true x c same)))
    (λ other. rw other (ap (option_map (with_first x)) more)) (cases_Bool (x == c))

cut_missing : (c : ℕ) (xs : List ℕ) → ((i : ℕ) → i < length xs → get_or xs i 0 ≢ c) → None ≡ cut_at c xs
unfolding cut_at
cut_missing c [] none = refl
cut_missing c (x ∷ xs) none =
    let more : None ≡ cut_at c xs = cut_missing c xs (λ i lt. none (suc i) (omega arith)) in
    ⊎_elim (λ same. absurd (none zero (omega arith) (eqb-true x c same)))
    (λ other. rw other (ap (option_map (with_first x)) more)) (cases_Bool (x == c))

pub cut_from_split : (c : ℕ) (text : List ℕ) (r : Option (Bor (List ℕ) × Bor (List ℕ))) → IsSplitOnceResult c text r → c < 128
    → option_map (λ p. (p.0.now, p.1.now)) r ≡ cut_at c text
cut_from_split c text r h low = by_result r (split_parts c text r h low)
  where
    by_result : (r : Option (Bor (List ℕ) × Bor (List ℕ)))
        → MatchOption r ((i : ℕ) → i < length text → get_or text i 0 ≢ c)
        (λ x. (text ≡ x.0.now ++ (c ∷ x.1.now)) × ((i : ℕ) → i < length x.0.now → get_or x.0.now i 0 ≢ c))
        → option_map (λ p. (p.0.now, p.1.now)) r ≡ cut_at c text
    by_result None e = cut_missing c text e
    by_result (Some x) e = cut_found c x.0.now x.1.now e.1 ∙ ap (cut_at c) (sym e.0)

-- ---- what a cell stands for, by its first backslash

pub joined_twice : (a b : List ℕ) (r : Option (List ℕ)) → joined (Some a) (joined (Some b) r) ≡ joined (Some (a ++ b)) r
joined_twice a b (Some c) = ap (λ (t : List ℕ). Some t) (sym (append_assoc a b c))
joined_twice a b None = refl

nothing_before : (r : Option (List ℕ)) → r ≡ joined (Some []) r
nothing_before None = refl
nothing_before (Some t) = refl

abbrev by_cut : List ℕ → Option (List ℕ × List ℕ) → Option (List ℕ)
by_cut text None = Some text
by_cut text (Some cut) = joined (Some cut.0) (unescaped true cut.1)

later_cut : (d : ℕ) (ds : List ℕ) (cut : Option (List ℕ × List ℕ))
    → joined (Some (d ∷ [])) (by_cut ds cut) ≡ by_cut (d ∷ ds) (option_map (with_first d) cut)
later_cut d ds None = refl
later_cut d ds (Some cut) = joined_twice (d ∷ []) cut.0 (unescaped true cut.1)

unescaped_by_cut : (text : List ℕ) → unescaped false text ≡ by_cut text (cut_at backslash text)
unfolding unescaped cut_at
unescaped_by_cut [] = refl
unescaped_by_cut (d ∷ ds) = by_test (unescaped_by_cut ds) (d == backslash)
  where
    by_test : unescaped false ds ≡ by_cut ds (cut_at backslash ds) → (b : Bool)
        → (if b then unescaped true ds else joined (Some (d ∷ [])) (unescaped false ds))
        ≡ by_cut (d ∷ ds) (if b then Some ([], ds) else option_map (with_first d) (cut_at backslash ds))
    by_test more true = nothing_before (unescaped true ds)
    by_test more false = ap (joined (Some (d ∷ []))) more ∙ later_cut d ds (cut_at backslash ds)

-- ---- escapes

some_pair : (a b : List ℕ × List ℕ) → Some a ≡ Some b → a ≡ b
some_pair a b h = cc

escape_read : (after e more : List ℕ) → Some (e, more) ≡ escape_in after
    → unescaped true after ≡ joined (Some e) (unescaped false more)
unfolding unescaped
escape_read [] e more h = absurd (cc)
escape_read (c ∷ cs) e more h = by_escape (escaped c) h
  where
    by_escape : (o : Option (List ℕ)) → Some (e, more) ≡ option_map {U = List ℕ × List ℕ} (λ text. (text, cs)) o
        → joined o (unescaped false cs) ≡ joined (Some e) (unescaped false more)
    by_escape None h = absurd (cc)
    by_escape (Some t) h =
        let same = some_pair (e, more) (t, cs) h in
        rw (ap (λ p. p.0) same, ap (λ p. p.1) same) refl

escape_unread : (after : List ℕ) → None ≡ escape_in after → unescaped true after ≡ None
unfolding unescaped
escape_unread [] h = refl
escape_unread (c ∷ cs) h = by_escape (escaped c) h
  where
    by_escape : (o : Option (List ℕ)) → None ≡ option_map {U = List ℕ × List ℕ} (λ text. (text, cs)) o
        → joined o (unescaped false cs) ≡ None
    by_escape None h = refl
    by_escape (Some t) h = absurd (cc)

-- ---- the rest of a cell gets shorter

escape_shorter : (after e more : List ℕ) → Some (e, more) ≡ escape_in after → length more < length after
escape_shorter [] e more h = absurd (cc)
escape_shorter (c ∷ cs) e more h = by_escape (escaped c) h
  where
    by_escape : (o : Option (List ℕ)) → Some (e, more) ≡ option_map {U = List ℕ × List ℕ} (λ text. (text, cs)) o
        → length more < length (c ∷ cs)
    by_escape None h = absurd (cc)
    by_escape (Some t) h =
        let same : more ≡ cs = ap (λ p. p.1) (some_pair (e, more) (t, cs) h) in
        rw same (omega arith)

cut_shorter : (c : ℕ) (text before after : List ℕ) → Some (before, after) ≡ cut_at c text → length after < length text
unfolding cut_at
cut_shorter c [] before after h = absurd (cc)
cut_shorter c (d ∷ ds) before after h = by_test (cut_shorter c ds) (d == c) h
  where
    by_rest : (o : Option (List ℕ × List ℕ)) → ((b a : List ℕ) → Some (b, a) ≡ o → length a < length ds) → Some (before, after) ≡ option_map (with_first d) o
        → length after < length (d ∷ ds)
    by_rest None shorter h = absurd (cc)
    by_rest (Some cut) shorter h =
        let same : after ≡ cut.1 = ap (λ p. p.1) (some_pair (before, after) (with_first d cut) h) in
        let less = shorter cut.0 cut.1 refl in
        rw same (omega (arith, less))

    by_test : ((b a : List ℕ) → Some (b, a) ≡ cut_at c ds → length a < length ds) → (b : Bool)
        → Some (before, after) ≡ (if b then Some ([], ds) else option_map (with_first d) (cut_at c ds))
        → length after < length (d ∷ ds)
    by_test shorter true h =
        let same : after ≡ ds = ap (λ p. p.1) (some_pair (before, after) ([], ds) h) in
        rw same (omega arith)
    by_test shorter false h = by_rest (cut_at c ds) shorter h

pub rest_shorter : (rest plain after e more : List ℕ) → Some (plain, after) ≡ cut_at 92 rest
    → Some (e, more) ≡ escape_in after → length more < length rest
rest_shorter rest plain after e more cut found =
    let a = cut_shorter 92 rest plain after cut in
    let b = escape_shorter after e more found in
    omega (arith, a, b)

-- ---- the loop over the backslashes of a cell

at_backslash : (rest plain after : List ℕ) → Some (plain, after) ≡ cut_at 92 rest
    → unescaped false rest ≡ joined (Some plain) (unescaped true after)
at_backslash rest plain after cut = unescaped_by_cut rest ∙ ap (by_cut rest) (sym cut)

pub escape_goes_on : (front rest plain after e more new : List ℕ) (total : Option (List ℕ))
    → Some (plain, after) ≡ cut_at 92 rest → Some (e, more) ≡ escape_in after → new ≡ (front ++ plain) ++ e
    → joined (Some front) (unescaped false rest) ≡ total → joined (Some new) (unescaped false more) ≡ total
escape_goes_on front rest plain after e more new total cut found push so_far =
    ap (λ t. joined (Some t) (unescaped false more)) push
    ∙ sym (joined_twice (front ++ plain) e (unescaped false more))
    ∙ ap (joined (Some (front ++ plain))) (sym (escape_read after e more found))
    ∙ sym (joined_twice front plain (unescaped true after))
    ∙ ap (joined (Some front)) (sym (at_backslash rest plain after cut))
    ∙ so_far

pub escape_fails : (front rest plain after : List ℕ) (total : Option (List ℕ)) → Some (plain, after) ≡ cut_at 92 rest
    → None ≡ escape_in after → joined (Some front) (unescaped false rest) ≡ total → total ≡ None
escape_fails front rest plain after total cut missing so_far =
    sym so_far ∙ ap (joined (Some front)) (at_backslash rest plain after cut
    ∙ ap (joined (Some plain)) (escape_unread after missing))

pub escape_ends : (front rest : List ℕ) (total : Option (List ℕ)) → None ≡ cut_at 92 rest
    → joined (Some front) (unescaped false rest) ≡ total → total ≡ Some (front ++ rest)
escape_ends front rest total none so_far =
    sym so_far ∙ ap (joined (Some front)) (unescaped_by_cut rest ∙ ap (by_cut rest) (sym none))
