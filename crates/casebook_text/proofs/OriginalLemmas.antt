-- What is shown stands for the bytes.
use Rattle.std.proofs.Common.{◌≡◌, ℕ, zero, suc, ◌+◌, ◌*◌, ◌/◌, ◌%◌, ◌<◌, ◌≤◌, Bool, true, false}
use Rattle.std.proofs.Common.{nat_lt}
use Rattle.std.proofs.Common.{refl, sym, ap, ◌∙◌, arith, List, [], ◌∷◌, ◌++◌, length, take, drop}
use Rattle.std.proofs.Common.{map, flat_map, Option, Some, None}
use Rattle.std.proofs.Common.{append_assoc, take-append-drop, encode_utf8_all, length-drop, ⊎_elim}
use Rattle.std.specs.Prelude.{◌==◌, codes}
use Rattle.std.specs.Bool.{if◌then◌else◌}
use Rattle.std.specs.List.{list_all}
use Rattle.std.specs.Char.{encode_utf8}
use Rattle.std.specs.Str.{chars}
use Rattle.std.proofs.lemmas.Bool.{cond_both, ne_eqb, ltb-true, lt-ltb, le-ltb, and_parts, and_from}
use Rattle.std.proofs.lemmas.Bool.{ltb-false, or_parts, false≢true}
use Rattle.std.proofs.lemmas.List.{append-nil}
use Rattle.std.proofs.lemmas.List.Concat.{flat_map-append}
use lib.Utf8.{scalar, scalar_cases}
use Rattle.bstr.specs.Utf8.{decoded}
use Rattle.bstr.proofs.lemmas.PieceLemmas.{piece-bounds}
use Rattle.bstr.proofs.lemmas.SoundLemmas.{SpellsChar-decoded}
use Rattle.casebook_text.specs.declared.safe_text.Breaks.{Breaks}
use Rattle.casebook_text.specs.SafeText.{Part, character, stray, parts_in, parts_of, shown}
use Rattle.casebook_text.specs.SafeText.{is_shown, is_bracket}
use Rattle.casebook_text.specs.SafeText.{hex_digit, hex_digits, code_width, in_brackets}
use Rattle.casebook_text.specs.SafeText.{left_bracket, right_bracket, safe_text}
use Rattle.casebook_text.specs.SafeText.{outside, of_character, letter_u, plus_sign, digit_of}
use Rattle.casebook_text.specs.SafeText.{original_from, original}
use Rattle.std.proofs.Common.{get_or}
use Rattle.std.proofs.lemmas.List.Folds.{list_all-append}
use Rattle.casebook_text.proofs.Lists.{append_all}
use Rattle.casebook_text.proofs.ShownLemmas.{characters_of}
use Rattle.casebook_text.proofs.Parts.{parts_of-step, parts_of-nil}

-- ---- the bytes of parts

abbrev pub part_bytes : Part → List ℕ
part_bytes (character c) = encode_utf8 c
part_bytes (stray b) = b ∷ []

strays_back : (bs : List ℕ) → flat_map part_bytes (map stray bs) ≡ bs
strays_back [] = refl
strays_back (b ∷ bs) = ap (λ t. b ∷ t) (strays_back bs)

part_back : (bs : List ℕ) (o : Option ℕ) → (decoded bs).char ≡ o
    → flat_map part_bytes (parts_in o (take (decoded bs).size bs)) ++ drop (decoded bs).size bs ≡ bs
part_back bs (Some c) e =
    ap (λ t. t ++ drop (decoded bs).size bs) (append-nil (encode_utf8 c)) ∙ sym (SpellsChar-decoded bs c e).bytes
part_back bs None e =
    ap (λ t. t ++ drop (decoded bs).size bs) (strays_back (take (decoded bs).size bs))
    ∙ take-append-drop (decoded bs).size bs

parts_back : (n : ℕ) (bs : List ℕ) → length bs ≤ n → flat_map part_bytes (parts_of bs) ≡ bs
parts_back n [] h = ap (flat_map part_bytes) parts_of-nil
parts_back zero (b ∷ bs) h = absurd (omega arith)
parts_back (suc n) (b ∷ bs) h =
    let l = b ∷ bs in
    let some : 0 < length l = omega arith in
    let size = (decoded l).size in
    let left : length (drop size l) ≤ n = omega (arith, length-drop size l, (piece-bounds l some).0) in
    ap (flat_map part_bytes) (parts_of-step l some)
    ∙ flat_map-append part_bytes (parts_in (decoded l).char (take size l)) (parts_of (drop size l))
    ∙ ap (λ t. flat_map part_bytes (parts_in (decoded l).char (take size l)) ++ t) (parts_back n (drop size l) left)
    ∙ part_back l (decoded l).char refl

-- ---- digits

digit_value : (n : ℕ) → n < 16 → digit_of (hex_digit n) ≡ n
digit_value n lt =
    cond_both (nat_lt n 10) (48 + n) (55 + n) (λ d. digit_of d ≡ n)
    (λ e. let low = ltb-true n 10 e in rw (lt-ltb (48 + n) 58 (omega arith)) (omega arith))
    (λ e. let high = ltb-false n 10 e in rw (le-ltb (55 + n) 58 (omega arith)) (omega arith))

digit_range : (n : ℕ) → n < 16 → (48 ≤ hex_digit n) × (hex_digit n < 71)
digit_range n lt =
    cond_both (nat_lt n 10) (48 + n) (55 + n) (λ d. (48 ≤ d) × (d < 71))
    (λ e. let low = ltb-true n 10 e in (omega arith, omega arith))
    (λ e. (omega arith, omega arith))

-- ---- a code read back, digit by digit

-- the numbers with this many digits are below it
abbrev pub limit : ℕ → ℕ
limit zero = 1
limit (suc k) = limit k * 16

digit_read : (n d h : ℕ) (rest : List ℕ) → 48 ≤ h → h < 71 → digit_of h ≡ d
    → original_from (of_character n) (h ∷ rest) ≡ original_from (of_character (n * 16 + d)) rest
unfolding original_from
digit_read n d h rest low high is =
    rw (ne_eqb h right_bracket (λ e. absurd (omega arith)), ne_eqb h plus_sign (λ e. absurd (omega arith)), is) refl

code_read : (k x : ℕ) (rest : List ℕ) → x < limit k
    → original_from (of_character 0) (hex_digits k x ++ rest) ≡ original_from (of_character x) rest
unfolding hex_digits
code_read zero x rest lt = let none : 0 ≡ x = omega arith in ap (λ n. original_from (of_character n) rest) none
code_read (suc k) x rest lt =
    let last = x % 16 in
    let below : x / 16 < limit k = omega arith in
    let small : last < 16 = omega arith in
    let range = digit_range last small in
    let whole : (x / 16) * 16 + last ≡ x = omega arith in
    ap (original_from (of_character 0)) (append_assoc (hex_digits k (x / 16)) (hex_digit last ∷ []) rest)
    ∙ code_read k (x / 16) (hex_digit last ∷ rest) below
    ∙ digit_read (x / 16) last (hex_digit last) rest range.0 range.1 (digit_value last small)
    ∙ ap (λ n. original_from (of_character n) rest) whole

wide_enough : (c : ℕ) → scalar c ≡ true → c < limit (code_width c)
wide_enough c h =
    let top : c < 0x11_0000 = ⊎_elim (λ low. omega arith) (λ high. high.1) (scalar_cases c h) in
    cond_both (nat_lt c 0x1_0000) 4 (if nat_lt c 0x10_0000 then 5 else 6) (λ k. c < limit k)
    (λ e. ltb-true c 0x1_0000 e)
    (λ _. cond_both (nat_lt c 0x10_0000) 5 6 (λ k. c < limit k) (λ e. ltb-true c 0x10_0000 e) (λ _. omega arith))

closed : (c : ℕ) (rest : List ℕ) → original_from (of_character c) (right_bracket ∷ rest) ≡ encode_utf8 c ++ original_from outside rest
unfolding original_from
closed c rest = refl

opened : (rest : List ℕ) → original_from outside (left_bracket ∷ letter_u ∷ plus_sign ∷ rest) ≡ original_from (of_character 0) rest
unfolding original_from
opened rest = refl

character_code_back : (c : ℕ) (rest : List ℕ) → scalar c ≡ true
    → original_from outside (in_brackets (codes "U+" ++ hex_digits (code_width c) c) ++ rest)
    ≡ encode_utf8 c ++ original_from outside rest
character_code_back c rest h =
    let digits = hex_digits (code_width c) c in
    opened ((digits ++ right_bracket ∷ []) ++ rest)
    ∙ ap (original_from (of_character 0)) (append_assoc digits (right_bracket ∷ []) rest)
    ∙ code_read (code_width c) c (right_bracket ∷ rest) (wide_enough c h)
    ∙ closed c rest

two_digits_read : (a b n : ℕ) (rest : List ℕ) → 48 ≤ a → a < 71 → 48 ≤ b → b < 71 → digit_of a * 16 + digit_of b ≡ n
    → original_from outside (left_bracket ∷ a ∷ b ∷ right_bracket ∷ rest) ≡ n ∷ original_from outside rest
unfolding original_from
two_digits_read a b n rest alow ahigh blow bhigh is =
    rw (ne_eqb a letter_u (λ e. absurd (omega arith)), ne_eqb b right_bracket (λ e. absurd (omega arith)), is) refl

byte_back : (b : ℕ) (rest : List ℕ) → b < 256
    → original_from outside (in_brackets (hex_digits 2 b) ++ rest) ≡ b ∷ original_from outside rest
unfolding hex_digits
byte_back b rest lt =
    let first = (b / 16) % 16 in
    let last = b % 16 in
    let a : first < 16 = omega arith in
    let z : last < 16 = omega arith in
    let value : digit_of (hex_digit first) * 16 + digit_of (hex_digit last) ≡ b =
    ap (λ n. n * 16 + digit_of (hex_digit last)) (digit_value first a) ∙ ap (λ n. first * 16 + n) (digit_value last z)
    ∙ whole b lt in
    two_digits_read (hex_digit first) (hex_digit last) b rest (digit_range first a).0 (digit_range first a).1
    (digit_range last z).0 (digit_range last z).1 value
  where
    whole : (b : ℕ) → b < 256 → ((b / 16) % 16) * 16 + b % 16 ≡ b
    whole b lt = omega arith

-- ---- parts read back

abbrev pub can_be_read : Part → Bool
can_be_read (character c) = scalar c
can_be_read (stray b) = nat_lt b 256

itself_back : (b : Breaks) (c : ℕ) (rest : List ℕ) → is_shown b c ≡ true
    → original_from outside (c ∷ rest) ≡ encode_utf8 c ++ original_from outside rest
unfolding original_from is_shown
itself_back b c rest h =
    let no_bracket = or_parts (c == left_bracket) (c == right_bracket) (no_test (is_bracket c) _ h) in
    rw no_bracket.0 refl
  where
    no_test : (t : Bool) (u : Bool) → (if t then false else u) ≡ true → t ≡ false
    no_test true u e = absurd (false≢true e)
    no_test false u e = refl

part_read : (b : Breaks) (p : Part) (rest : List ℕ) → can_be_read p ≡ true
    → original_from outside (shown b p ++ rest) ≡ part_bytes p ++ original_from outside rest
unfolding shown
part_read b (character c) rest h =
    cond_both (is_shown b c) (c ∷ []) (in_brackets (codes "U+" ++ hex_digits (code_width c) c))
    (λ cs. original_from outside (cs ++ rest) ≡ encode_utf8 c ++ original_from outside rest)
    (λ e. itself_back b c rest e)
    (λ _. character_code_back c rest h)
part_read b (stray x) rest h = byte_back x rest (ltb-true x 256 h)

parts_read : (b : Breaks) (ps : List Part) → list_all can_be_read ps ≡ true
    → original (flat_map (shown b) ps) ≡ flat_map part_bytes ps
unfolding original_from
parts_read b [] h = refl
parts_read b (p ∷ ps) h =
    let both = and_parts (can_be_read p) (list_all can_be_read ps) h in
    part_read b p (flat_map (shown b) ps) both.0 ∙ ap (λ t. part_bytes p ++ t) (parts_read b ps both.1)

-- ---- the parts of bytes can be read

abbrev pub is_byte : ℕ → Bool
is_byte b = nat_lt b 256

strays_readable : (bs : List ℕ) → list_all is_byte bs ≡ true → list_all can_be_read (map stray bs) ≡ true
strays_readable [] h = refl
strays_readable (b ∷ bs) h =
    let both = and_parts (is_byte b) (list_all is_byte bs) h in and_from _ _ both.0 (strays_readable bs both.1)

part_readable : (bs front : List ℕ) (o : Option ℕ) → (decoded bs).char ≡ o → list_all is_byte front ≡ true
    → list_all can_be_read (parts_in o front) ≡ true
part_readable bs front (Some c) e h = and_from _ _ (SpellsChar-decoded bs c e).scalar refl
part_readable bs front None e h = strays_readable front h

halves : (n : ℕ) (bs : List ℕ) → list_all is_byte bs ≡ true
    → (list_all is_byte (take n bs) ≡ true) × (list_all is_byte (drop n bs) ≡ true)
halves n bs h =
    and_parts (list_all is_byte (take n bs)) (list_all is_byte (drop n bs))
    (sym (list_all-append is_byte (take n bs) (drop n bs)) ∙ ap (list_all is_byte) (take-append-drop n bs) ∙ h)

parts_readable : (n : ℕ) (bs : List ℕ) → length bs ≤ n → list_all is_byte bs ≡ true → list_all can_be_read (parts_of bs) ≡ true
parts_readable n [] h all = ap (list_all can_be_read) parts_of-nil
parts_readable zero (b ∷ bs) h all = absurd (omega arith)
parts_readable (suc n) (b ∷ bs) h all =
    let l = b ∷ bs in
    let some : 0 < length l = omega arith in
    let size = (decoded l).size in
    let left : length (drop size l) ≤ n = omega (arith, length-drop size l, (piece-bounds l some).0) in
    let both = halves size l all in
    ap (list_all can_be_read) (parts_of-step l some)
    ∙ append_all can_be_read (parts_in (decoded l).char (take size l)) (parts_of (drop size l))
    (part_readable l (take size l) (decoded l).char refl both.0)
    (parts_readable n (drop size l) left both.1)

bytes_fit : (bs : List ℕ) → ((i : ℕ) → get_or bs i 0 < 256) → list_all is_byte bs ≡ true
bytes_fit [] h = refl
bytes_fit (b ∷ bs) h = and_from _ _ (lt-ltb b 256 (h 0)) (bytes_fit bs (λ i. h (suc i)))

-- ---- the whole text

pub original_back : (b : Breaks) (bs text : List ℕ) → ((i : ℕ) → get_or bs i 0 < 256)
    → text ≡ encode_utf8_all (safe_text b bs) → original (chars text) ≡ bs
original_back b bs text fits e =
    ap (λ t. original (chars t)) e ∙ ap original (characters_of b bs)
    ∙ parts_read b (parts_of bs) (parts_readable (length bs) bs (omega arith) (bytes_fit bs fits))
    ∙ parts_back (length bs) bs (omega arith)
