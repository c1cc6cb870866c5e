-- What holds of each character that is shown.
use Rattle.std.proofs.Common.{◌≡◌, ℕ, zero, suc, ◌+◌, ◌/◌, ◌%◌, ◌<◌, ◌≤◌, Bool, true, false, not}
use Rattle.std.proofs.Common.{◌&&◌, ◌||◌, nat_lt}
use Rattle.std.proofs.Common.{refl, sym, ap, ◌∙◌, arith, List, [], ◌∷◌, ◌++◌, length, take, drop}
use Rattle.std.proofs.Common.{map, flat_map, Option, Some, None}
use Rattle.std.proofs.Common.{encode_utf8_all, ⊎_elim, length-drop}
use Rattle.std.specs.Prelude.{nat_le, ◌==◌, codes}
use Rattle.std.specs.List.{list_all}
use Rattle.std.specs.Char.{encode_utf8}
use Rattle.std.specs.Str.{chars}
use Rattle.std.proofs.lemmas.Bool.{and_from, and_parts, or_left, or_right, or_from, or_cases}
use Rattle.std.proofs.lemmas.Bool.{not_from_false, le-leb, leb-true, ltb-true}
use Rattle.std.proofs.lemmas.Bool.{ne_eqb, cases_lt, false≢true, cond_both}
use Rattle.std.proofs.Common.{slice_index, lit<, lit≤}
use Rattle.std.specs.Bool.{if◌then◌else◌}
use Rattle.std.proofs.lemmas.List.{append-nil}
use lib.Utf8.{scalar, scalars, low_scalar}
use Rattle.bstr.specs.Utf8.{Decoded, good}
use Rattle.bstr.proofs.lemmas.PieceLemmas.{value-1}
use Rattle.casebook_text.proofs.Parts.{safe_text-step}
use Rattle.casebook_text.proofs.HighBytes.{high_bytes, high_all}
use Rattle.casebook_text.proofs.Lists.{append_all, flat_map_all}
use Rattle.casebook_text.specs.SafeText.{is_plain, is_printable, keeps_spaces, space}
use Rattle.std.proofs.lemmas.Str.{chars-encodes, encode_ascii}
use Rattle.bstr.specs.Utf8.{decoded}
use Rattle.bstr.proofs.lemmas.PieceLemmas.{piece-bounds}
use Rattle.bstr.proofs.lemmas.SoundLemmas.{SpellsChar-decoded}
use Rattle.casebook_text.specs.declared.safe_text.Breaks.{Breaks}
use Rattle.casebook_text.specs.SafeText.{Part, character, stray, parts_in, parts_of, shown}
use Rattle.casebook_text.specs.SafeText.{is_shown, is_harmless, is_break, is_bracket, keeps_breaks}
use Rattle.casebook_text.specs.SafeText.{hex_digit, hex_digits, code_width, in_brackets}
use Rattle.casebook_text.specs.SafeText.{left_bracket, right_bracket, safe_text, is_safe}
use Rattle.casebook_text.specs.SafeText.{is_safe_byte, blurs_words}
use Rattle.casebook_text.proofs.Parts.{parts_of-step, parts_of-nil}
use Rattle.casebook_text.proofs.Harmless.{ascii_harmless, printable_harmless, left_harmless}
use Rattle.casebook_text.proofs.Harmless.{right_harmless, ascii_clear}

map_all : {X Y : Type 0} (q : Y → Bool) (f : X → Y) → ((x : X) → q (f x) ≡ true) → (xs : List X) → list_all q (map f xs) ≡ true
map_all q f each [] = refl
map_all q f each (x ∷ xs) = and_from _ _ (each x) (map_all q f each xs)

-- ---- the parts of bytes

-- a character's code is one, in Unicode's sense
abbrev pub is_part : Part → Bool
is_part (character c) = scalar c
is_part (stray b) = true

parts_in-scalar : (bs front : List ℕ) (o : Option ℕ) → (decoded bs).char ≡ o → list_all is_part (parts_in o front) ≡ true
parts_in-scalar bs front (Some c) e = and_from _ _ (SpellsChar-decoded bs c e).scalar refl
parts_in-scalar bs front None e = map_all is_part stray (λ b. refl) front

parts_of-scalar : (n : ℕ) (bs : List ℕ) → length bs ≤ n → list_all is_part (parts_of bs) ≡ true
parts_of-scalar n [] h = ap (list_all is_part) parts_of-nil
parts_of-scalar zero (b ∷ bs) h = absurd (omega arith)
parts_of-scalar (suc n) (b ∷ bs) h =
    let some : 0 < length (b ∷ bs) = omega arith in
    let size = (decoded (b ∷ bs)).size in
    let left : length (drop size (b ∷ bs)) ≤ n = omega (arith, length-drop size (b ∷ bs), (piece-bounds (b ∷ bs) some).0) in
    ap (list_all is_part) (parts_of-step (b ∷ bs) some)
    ∙ append_all is_part (parts_in (decoded (b ∷ bs)).char (take size (b ∷ bs))) (parts_of (drop size (b ∷ bs)))
    (parts_in-scalar (b ∷ bs) (take size (b ∷ bs)) (decoded (b ∷ bs)).char refl)
    (parts_of-scalar n (drop size (b ∷ bs)) left)

-- ---- what is shown of a part

-- a test that the characters pass with which codes are written
record PassesCodes (p : ℕ → Bool) : Type 0 where
  printable : (c : ℕ) → 32 ≤ c → c < 127 → p c ≡ true
  left : p left_bracket ≡ true
  right : p right_bracket ≡ true

digit_passes : (p : ℕ → Bool) → PassesCodes p → (n : ℕ) → n < 16 → p (hex_digit n) ≡ true
digit_passes p codes_pass n lt =
    cond_both (nat_lt n 10) (48 + n) (55 + n) (λ d. p d ≡ true)
    (λ e. let low = ltb-true n 10 e in codes_pass.printable (48 + n) (omega arith) (omega arith))
    (λ e. codes_pass.printable (55 + n) (omega arith) (omega arith))

digits_pass : (p : ℕ → Bool) → PassesCodes p → (k n : ℕ) → list_all p (hex_digits k n) ≡ true
unfolding hex_digits
digits_pass p codes_pass zero n = refl
digits_pass p codes_pass (suc k) n =
    let below : n % 16 < 16 = omega arith in
    append_all p (hex_digits k (n / 16)) (hex_digit (n % 16) ∷ []) (digits_pass p codes_pass k (n / 16))
    (and_from _ _ (digit_passes p codes_pass (n % 16) below) refl)

brackets_pass : (p : ℕ → Bool) → PassesCodes p → (xs : List ℕ) → list_all p xs ≡ true → list_all p (in_brackets xs) ≡ true
brackets_pass p codes_pass xs all =
    and_from _ _ codes_pass.left
    (append_all p xs (right_bracket ∷ []) all (and_from _ _ codes_pass.right refl))

shown_passes : (p : ℕ → Bool) (b : Breaks) → PassesCodes p
    → ((c : ℕ) → is_shown b c ≡ true → scalar c ≡ true → p c ≡ true)
    → (x : Part) → is_part x ≡ true → list_all p (shown b x) ≡ true
unfolding shown
shown_passes p b codes_pass itself (character c) h =
    cond_both (is_shown b c) (c ∷ []) (in_brackets (codes "U+" ++ hex_digits (code_width c) c)) (λ xs. list_all p xs ≡ true)
    (λ yes_shown. and_from _ _ (itself c yes_shown h) refl)
    (λ _. brackets_pass p codes_pass (codes "U+" ++ hex_digits (code_width c) c)
    (append_all p (codes "U+") (hex_digits (code_width c) c)
    (and_from _ _ (codes_pass.printable 85 (lit≤ tt) (lit< tt))
    (and_from _ _ (codes_pass.printable 43 (lit≤ tt) (lit< tt)) refl))
    (digits_pass p codes_pass (code_width c) c)))
shown_passes p b codes_pass itself (stray x) h = brackets_pass p codes_pass (hex_digits 2 x) (digits_pass p codes_pass 2 x)

text_passes : (p : ℕ → Bool) (b : Breaks) → PassesCodes p
    → ((c : ℕ) → is_shown b c ≡ true → scalar c ≡ true → p c ≡ true)
    → (bs : List ℕ) → list_all p (safe_text b bs) ≡ true
text_passes p b codes_pass itself bs =
    flat_map_all p is_part (shown b) (shown_passes p b codes_pass itself) (parts_of bs)
    (parts_of-scalar (length bs) bs (omega arith))

-- ---- the characters are safe

shown_safe : (b : Breaks) (c : ℕ) → is_shown b c ≡ true → is_safe b c ≡ true
unfolding is_shown
shown_safe b c h =
    tests (is_bracket c) (is_break c) (keeps_breaks b) (is_harmless c)
    (keeps_spaces b || not (blurs_words c)) h
  where
    tests : (bracket break keeps harmless spaced : Bool)
        → (if bracket then false else if break then keeps else harmless && spaced) ≡ true
        → (harmless || (break && keeps)) ≡ true
    tests true break keeps harmless spaced e = absurd (false≢true e)
    tests false true keeps true spaced e = refl
    tests false true keeps false spaced e = e
    tests false false keeps true spaced e = refl
    tests false false keeps false spaced e = e

safe_codes : (b : Breaks) → PassesCodes (is_safe b)
safe_codes b = record {
  printable = λ c low high. or_left _ _ (printable_harmless c low high);
  left = or_left _ _ left_harmless;
  right = or_left _ _ right_harmless;
}

text_safe : (b : Breaks) (bs : List ℕ) → list_all (is_safe b) (safe_text b bs) ≡ true
text_safe b bs = text_passes (is_safe b) b (safe_codes b) (λ c yes_shown _. shown_safe b c yes_shown) bs

text_scalar : (b : Breaks) (bs : List ℕ) → list_all scalar (safe_text b bs) ≡ true
text_scalar b bs =
    text_passes scalar b
    (record { printable = λ c low high. low_scalar c (omega arith); left = refl; right = refl })
    (λ c _ is. is) bs

scalars_all : (cs : List ℕ) → list_all scalar cs ≡ true → scalars cs ≡ true
scalars_all [] h = refl
scalars_all (c ∷ cs) h = let both = and_parts (scalar c) (list_all scalar cs) h in and_from _ _ both.0 (scalars_all cs both.1)

-- the characters of the text that is shown
pub characters_of : (b : Breaks) (bs : List ℕ) → chars (encode_utf8_all (safe_text b bs)) ≡ safe_text b bs
characters_of b bs = chars-encodes (safe_text b bs) (scalars_all (safe_text b bs) (text_scalar b bs))

-- each of them is safe
pub characters_safe : (b : Breaks) (bs text : List ℕ) → text ≡ encode_utf8_all (safe_text b bs)
    → list_all (is_safe b) (chars text) ≡ true
characters_safe b bs text e =
    ap (λ t. list_all (is_safe b) (chars t)) e ∙ ap (list_all (is_safe b)) (characters_of b bs) ∙ text_safe b bs

-- ---- the bytes are safe

safe_byte : (b : Breaks) (c : ℕ) → c < 128 → is_safe b c ≡ true → is_safe_byte b c ≡ true
safe_byte b c lt h =
    let printable = ascii_harmless c lt in
    ⊎_elim
    (λ harmless.
    let parts = and_parts (nat_le 32 c) (nat_lt c 127) (sym printable ∙ harmless) in
    let high = ltb-true c 127 parts.1 in
    or_left _ _ (and_from _ _ parts.0 (not_from_false _ (ne_eqb c 127 (λ e. absurd (omega arith))))))
    (λ kept. or_right (nat_le 32 c && not (c == 127)) _ kept)
    (or_cases (is_harmless c) (is_break c && keeps_breaks b) h)

high_byte : (b : Breaks) (x : ℕ) → 128 ≤ x → is_safe_byte b x ≡ true
high_byte b x high =
    or_left _ _ (and_from _ _ (le-leb 32 x (omega arith)) (not_from_false _ (ne_eqb x 127 (λ e. absurd (omega arith)))))

pub safe_bytes : (b : Breaks) (c : ℕ) → is_safe b c ≡ true → list_all (is_safe_byte b) (encode_utf8 c) ≡ true
safe_bytes b c h =
    ⊎_elim
    (λ low. ap (list_all (is_safe_byte b)) (encode_ascii c low) ∙ and_from _ _ (safe_byte b c low h) refl)
    (λ high. high_all (is_safe_byte b) (high_byte b) (encode_utf8 c) (high_bytes c high))
    (cases_lt c 128)

pub encode_all : (p q : ℕ → Bool) → ((c : ℕ) → q c ≡ true → list_all p (encode_utf8 c) ≡ true)
    → (cs : List ℕ) → list_all q cs ≡ true → list_all p (encode_utf8_all cs) ≡ true
encode_all p q each [] all = refl
encode_all p q each (c ∷ cs) all =
    let both = and_parts (q c) (list_all q cs) all in
    append_all p (encode_utf8 c) (encode_utf8_all cs) (each c both.0) (encode_all p q each cs both.1)

pub bytes_safe : (b : Breaks) (bs text : List ℕ) → text ≡ encode_utf8_all (safe_text b bs)
    → list_all (is_safe_byte b) text ≡ true
bytes_safe b bs text e =
    ap (list_all (is_safe_byte b)) e
    ∙ encode_all (is_safe_byte b) (is_safe b) (safe_bytes b) (safe_text b bs) (text_safe b bs)

-- ---- printable ASCII is shown as itself

printable_shown : (b : Breaks) (c : ℕ) → is_plain b c ≡ true → is_shown b c ≡ true
unfolding is_shown
printable_shown b c h =
    let plain = and_parts (is_printable c) (not (c == space) || keeps_spaces b) h in
    let parts = and_parts (nat_le 32 c) (nat_lt c 127) plain.0 in
    let low = leb-true 32 c parts.0 in
    let high = ltb-true c 127 parts.1 in
    let harmless = printable_harmless c low high in
    let no_bracket : is_bracket c ≡ false = or_from _ _ (ne_eqb c left_bracket (λ e. absurd (omega arith))) (ne_eqb c right_bracket (λ e. absurd (omega arith))) in
    let no_break : is_break c ≡ false = or_from _ _ (ne_eqb c 10 (λ e. absurd (omega arith))) (ne_eqb c 9 (λ e. absurd (omega arith))) in
    let clear = ascii_clear c (omega arith) in
    let spaced : keeps_spaces b || not (blurs_words c) ≡ true = rw clear (swapped (not (c == space)) (keeps_spaces b) plain.1) in
    rw (no_bracket, no_break) (and_from _ _ harmless spaced)
  where
    swapped : (x y : Bool) → (x || y) ≡ true → (y || x) ≡ true
    swapped true true e = refl
    swapped true false e = refl
    swapped false y e = or_left _ _ e

itself : (b : Breaks) (c : ℕ) → is_shown b c ≡ true → shown b (character c) ≡ c ∷ []
unfolding shown
itself b c e = rw e refl

printable_step : (b : Breaks) (c : ℕ) (bs : List ℕ) → is_plain b c ≡ true → safe_text b (c ∷ bs) ≡ c ∷ safe_text b bs
printable_step b c bs h =
    let plain = and_parts (is_printable c) (not (c == space) || keeps_spaces b) h in
    let parts = and_parts (nat_le 32 c) (nat_lt c 127) plain.0 in
    let high = ltb-true c 127 parts.1 in
    let l = c ∷ bs in
    let some : 0 < length l = omega arith in
    let one : decoded l ≡ good c 1 = value-1 (length l) c (slice_index l 1) (slice_index l 2) (slice_index l 3) (some, omega arith) in
    safe_text-step b l some
    ∙ ap (λ (d : Decoded). flat_map (shown b) (parts_in d.char (take d.size l)) ++ safe_text b (drop d.size l)) one
    ∙ ap (λ t. t ++ safe_text b bs) (append-nil (shown b (character c)) ∙ itself b c (printable_shown b c h))

printable_text : (b : Breaks) (bs : List ℕ) → list_all (is_plain b) bs ≡ true → encode_utf8_all (safe_text b bs) ≡ bs
printable_text b [] all = ap (λ t. encode_utf8_all (flat_map (shown b) t)) parts_of-nil
printable_text b (c ∷ bs) all =
    let both = and_parts (is_plain b c) (list_all (is_plain b) bs) all in
    let plain = and_parts (is_printable c) (not (c == space) || keeps_spaces b) both.0 in
    let parts = and_parts (nat_le 32 c) (nat_lt c 127) plain.0 in
    let high = ltb-true c 127 parts.1 in
    ap encode_utf8_all (printable_step b c bs both.0)
    ∙ ap (λ t. t ++ encode_utf8_all (safe_text b bs)) (encode_ascii c (omega arith))
    ∙ ap (λ t. c ∷ t) (printable_text b bs both.1)

pub ascii_itself : (b : Breaks) (bs text : List ℕ) → text ≡ encode_utf8_all (safe_text b bs) → list_all (is_plain b) bs ≡ true → text ≡ bs
ascii_itself b bs text e all = e ∙ printable_text b bs all
