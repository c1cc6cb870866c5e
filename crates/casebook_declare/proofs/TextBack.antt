-- Texts, printed and read.
use Rattle.std.proofs.Common.{◌≡◌, ◌∙◌, ℕ, ◌+◌, ◌-◌, ◌/◌, ◌%◌, ◌<◌, Bool, true, false, refl}
use Rattle.std.proofs.Common.{sym, ap, All, List, [], ◌∷◌, ◌++◌, length, map, get_or, take}
use Rattle.std.proofs.Common.{Ok, ⊎_elim, append_assoc, append-nil}
use Rattle.std.proofs.Common.{arith, length-append}
use Rattle.std.specs.Prelude.{◌==◌, ◌||◌, flat_map, if◌then◌else◌}
use Rattle.std.proofs.lemmas.Bool.Decides.{nat_tests}
use Rattle.std.specs.List.{list_all, slice_split}
use Rattle.std.proofs.Math.Seq.{get_or-append_seam, take-append_seam}
use Rattle.std.proofs.lemmas.Bool.{and_parts, cases_Bool, eqb-true, not-true}
use Rattle.std.proofs.lemmas.List.Elements.{All-cons, All-head, All-nil, All-tail}
use Rattle.std.proofs.lemmas.List.Folds.{list_all-append}
use Rattle.std.proofs.lemmas.List.Splits.{slice_split_at, slice_split_none}
use Rattle.casebook_declare.specs.Printed.{IsShellVariable, ShellVariable, all_printed, ansi_text}
use Rattle.casebook_declare.specs.Printed.{ansi_texts, code_text}
use Rattle.casebook_declare.specs.Printed.{double_text, flags_text, is_printed, row_text, said_of}
use Rattle.casebook_declare.specs.Printed.{text_of, value_text}
use Rattle.casebook_declare.specs.Texts.{rows_from, variables_of}
use Rattle.casebook_declare.proofs.FlagsBack.{flags_without}
use Rattle.casebook_declare.proofs.InRows.{from_none, from_row}
use Rattle.casebook_declare.proofs.Passed.{differs}
use Rattle.casebook_declare.proofs.RowBack.{is_other, name_without, row_again}

-- ---- no row has a newline

join : (q : ℕ → Bool) (xs ys : List ℕ) → list_all q xs ≡ true → list_all q ys ≡ true
    → list_all q (xs ++ ys) ≡ true
join q xs ys h k = list_all-append q xs ys ∙ rw (h, k) refl

either : (q : ℕ → Bool) (test : Bool) (xs ys : List ℕ) → list_all q xs ≡ true → list_all q ys ≡ true
    → list_all q (if test then xs else ys) ≡ true
either q true xs ys h k = h
either q false xs ys h k = k

-- not a newline
abbrev in_row : ℕ → Bool
in_row b = is_other 10 b

printed_in_row : (shown : Bool) (b : ℕ) → is_printed shown b ≡ true → in_row b ≡ true
printed_in_row shown b h = grind (arith, nat_tests)

double_in_row : (is_shown : ℕ → Bool) (k : ℕ) (value : List ℕ) → all_printed is_shown k value ≡ true
    → list_all in_row (flat_map double_text value) ≡ true
double_in_row is_shown k [] h = refl
double_in_row is_shown k (b ∷ bs) h =
    let parts = and_parts (is_printed (is_shown k) b) (all_printed is_shown (k + 1) bs) h in
    let here : in_row b ≡ true = printed_in_row (is_shown k) b parts.0 in
    join in_row (double_text b) (flat_map double_text bs)
    (either in_row (b == 34 || b == 36 || b == 92 || b == 96) (92 ∷ b ∷ []) (b ∷ [])
    (rw here refl) (rw here refl))
    (double_in_row is_shown (k + 1) bs parts.1)

digit_in_row : (n : ℕ) → in_row (48 + n) ≡ true
digit_in_row n = rw (differs (48 + n) 10 (omega arith)) refl

octal_in_row : (b : ℕ) → list_all in_row
    (92 ∷ (48 + b / 64) ∷ (48 + b % 64 / 8) ∷ (48 + b % 8) ∷ []) ≡ true
octal_in_row b = rw (digit_in_row (b / 64), digit_in_row (b % 64 / 8), digit_in_row (b % 8)) refl

code_in_row : (b : ℕ) → list_all in_row (code_text b) ≡ true
code_in_row b =
    either in_row (b == 7) _ _ refl
    (either in_row (b == 8) _ _ refl (either in_row (b == 9) _ _ refl
    (either in_row (b == 10) _ _ refl
    (either in_row (b == 11) _ _ refl (either in_row (b == 12) _ _ refl
    (either in_row (b == 13) _ _ refl (either in_row (b == 27) _ _ refl (octal_in_row b))))))))

ansi_in_row : (shown : Bool) (b : ℕ) → list_all in_row (ansi_text shown b) ≡ true
ansi_in_row shown b =
    ⊎_elim (λ (same : (b == 10) ≡ true). rw (eqb-true b 10 same) refl)
    (λ (other : (b == 10) ≡ false).
    either in_row (b == 92 || b == 39) (92 ∷ b ∷ []) _ (rw other refl)
    (either in_row (is_printed shown b) (b ∷ []) (code_text b) (rw other refl) (code_in_row b)))
    (cases_Bool (b == 10))

ansi_all_in_row : (is_shown : ℕ → Bool) (k : ℕ) (value : List ℕ)
    → list_all in_row (ansi_texts is_shown k value) ≡ true
ansi_all_in_row is_shown k [] = refl
ansi_all_in_row is_shown k (b ∷ bs) =
    join in_row (ansi_text (is_shown k) b) (ansi_texts is_shown (k + 1) bs)
    (ansi_in_row (is_shown k) b)
    (ansi_all_in_row is_shown (k + 1) bs)

value_in_row : (is_shown : ℕ → Bool) (value : List ℕ)
    → list_all in_row (value_text is_shown value) ≡ true
unfolding value_text
value_in_row is_shown value =
    ⊎_elim
    (λ (printed : all_printed is_shown 0 value ≡ true).
    rw printed (join in_row (flat_map double_text value) (34 ∷ [])
    (double_in_row is_shown 0 value printed) refl))
    (λ (hidden : all_printed is_shown 0 value ≡ false).
    rw hidden (join in_row (ansi_texts is_shown 0 value) (39 ∷ [])
    (ansi_all_in_row is_shown 0 value) refl))
    (cases_Bool (all_printed is_shown 0 value))

row_in_row : (v : ShellVariable) → IsShellVariable v → list_all in_row (row_text v) ≡ true
unfolding row_text
row_in_row v h =
    join in_row (flags_text v.is_set) (32 ∷ (v.name ++ 61 ∷ value_text v.is_shown v.value))
    (flags_without in_row v.is_set refl refl)
    (join in_row v.name (61 ∷ value_text v.is_shown v.value)
    (name_without 10 v.name refl refl h.name)
    (value_in_row v.is_shown v.value))

none_fails : (xs : List ℕ) → list_all in_row xs ≡ true → All (λ b. (b == 10) ≡ false) xs
none_fails [] h = All-nil (λ b. (b == 10) ≡ false)
none_fails (x ∷ xs) h =
    let k = and_parts (in_row x) (list_all in_row xs) h in
    All-cons (λ b. (b == 10) ≡ false) x xs (not-true (x == 10) k.0) (none_fails xs k.1)

-- ---- rows with a newline after each

between_rows : ShellVariable → List ShellVariable → List ℕ
between_rows v [] = row_text v
between_rows v (next ∷ vs) = row_text v ++ 10 ∷ between_rows next vs

text_by_rows : (v : ShellVariable) (vs : List ShellVariable)
    → text_of (v ∷ vs) ≡ between_rows v vs ++ 10 ∷ []
unfolding text_of between_rows
text_by_rows v [] = append-nil (row_text v ++ 10 ∷ [])
text_by_rows v (next ∷ vs) =
    append_assoc (row_text v) (10 ∷ []) (text_of (next ∷ vs))
    ∙ ap (λ rest. row_text v ++ 10 ∷ rest) (text_by_rows next vs)
    ∙ sym (append_assoc (row_text v) (10 ∷ between_rows next vs) (10 ∷ []))

split_again : (v : ShellVariable) (vs : List ShellVariable) → All IsShellVariable (v ∷ vs)
    → slice_split (λ b. b == 10) (between_rows v vs) ≡ row_text v ∷ map row_text vs
unfolding between_rows
split_again v [] h =
    slice_split_none (λ b. b == 10) (row_text v)
    (none_fails (row_text v) (row_in_row v (All-head IsShellVariable v [] h)))
split_again v (next ∷ vs) h =
    slice_split_at (λ b. b == 10) (row_text v) 10 (between_rows next vs)
    (none_fails (row_text v) (row_in_row v (All-head IsShellVariable v (next ∷ vs) h))) refl
    ∙ ap (λ rows. row_text v ∷ rows)
    (split_again next vs (All-tail IsShellVariable v (next ∷ vs) h))

rows_again : (n : ℕ) (vs : List ShellVariable) → All IsShellVariable vs
    → rows_from n (map row_text vs) ≡ Ok (map said_of vs)
rows_again n [] h = from_none n
rows_again n (v ∷ vs) h =
    from_row n (row_text v) (map row_text vs)
    ∙ rw (
      row_again v (All-head IsShellVariable v vs h),
      rows_again (n + 1) vs (All-tail IsShellVariable v vs h),
    ) refl

one_less : (xs : List ℕ) → length (xs ++ 10 ∷ []) - 1 ≡ length xs
one_less xs = omega (arith, length-append xs (10 ∷ []))

last_byte : (xs : List ℕ) → get_or (xs ++ 10 ∷ []) (length (xs ++ 10 ∷ []) - 1) 0 ≡ 10
last_byte xs = rw (one_less xs) (get_or-append_seam xs 10 [] 0)

by_end : (b : ℕ) (rest : List ℕ) → get_or (b ∷ rest) (length (b ∷ rest) - 1) 0 ≡ 10
    → variables_of (b ∷ rest)
    ≡ rows_from 1 (slice_split (λ c. c == 10) (take (length (b ∷ rest) - 1) (b ∷ rest)))
unfolding variables_of
by_end b rest ends = rw ends refl

ended_by : (text : List ℕ) → 0 < length text → get_or text (length text - 1) 0 ≡ 10
    → variables_of text ≡ rows_from 1 (slice_split (λ c. c == 10) (take (length text - 1) text))
ended_by [] some ends = absurd (omega (arith, some))
ended_by (b ∷ rest) some ends = by_end b rest ends

ended : (xs : List ℕ) → variables_of (xs ++ 10 ∷ []) ≡ rows_from 1 (slice_split (λ c. c == 10) xs)
ended xs =
    ended_by (xs ++ 10 ∷ []) (omega (arith, length-append xs (10 ∷ []))) (last_byte xs)
    ∙ ap (λ text. rows_from 1 (slice_split (λ c. c == 10) text))
    (ap (λ n. take n (xs ++ 10 ∷ [])) (one_less xs) ∙ take-append_seam xs (10 ∷ []))

no_rows : variables_of (text_of []) ≡ Ok []
unfolding variables_of text_of
no_rows = refl

pub text_again : (vs : List ShellVariable) → All IsShellVariable vs
    → variables_of (text_of vs) ≡ Ok (map said_of vs)
text_again [] h = no_rows
text_again (v ∷ vs) h =
    ap variables_of (text_by_rows v vs)
    ∙ ended (between_rows v vs)
    ∙ ap (rows_from 1) (split_again v vs h)
    ∙ rows_again 1 (v ∷ vs) h
