-- Texts as they are written, one piece after another.
use Rattle.std.proofs.Common.{◌≡◌, ◌≢◌, ℕ, zero, suc, ◌+◌, ◌-◌, ◌/◌, ◌%◌, ◌<◌, true, false, cond}
use Rattle.std.proofs.Common.{List, [], ◌∷◌, ◌++◌}
use Rattle.std.proofs.Common.{refl, sym, ap, ap₂, ◌∙◌, arith, append_assoc, Result, Ok, Err, is_ok}
use Rattle.std.proofs.Common.{OnOk, drop, length}
use Rattle.std.proofs.Common.{get_or, flat_map, encode_utf8_all}
use Rattle.std.specs.Char.{encode_utf8}
use Rattle.std.proofs.lemmas.List.{append-nil, drop_more}
use Rattle.std.proofs.lemmas.Str.{encodes-append}
use Rattle.casebook_text.specs.declared.safe_text.Breaks.{Breaks}
use Rattle.casebook_text.specs.SafeText.{hex_digit, hex_digits, code_width, is_shown, shown}
use Rattle.casebook_text.specs.SafeText.{character, in_brackets, right_bracket, left_bracket}

-- a text after one more write
pub one_more : {X E : Type 0} (r : Result X E) (old so_far mid more new wanted : List ℕ) → mid ≡ old ++ so_far
    → new ≡ cond (is_ok r) (mid ++ more) mid → so_far ++ more ≡ wanted → OnOk r (new ≡ old ++ wanted)
one_more (Ok x) old so_far mid more new wanted before after all =
    after ∙ ap (λ t. t ++ more) before ∙ append_assoc old so_far more ∙ ap (λ t. old ++ t) all
one_more (Err e) old so_far mid more new wanted before after all = tt

-- a text after its only write
pub only_one : {X E : Type 0} (r : Result X E) (old more new wanted : List ℕ)
    → new ≡ cond (is_ok r) (old ++ more) old → more ≡ wanted → OnOk r (new ≡ old ++ wanted)
only_one (Ok x) old more new wanted after all = after ∙ ap (λ t. old ++ t) all
only_one (Err e) old more new wanted after all = tt

pub two_more : (old a mid b new wanted : List ℕ) → mid ≡ old ++ a → new ≡ mid ++ b → a ++ b ≡ wanted → new ≡ old ++ wanted
two_more old a mid b new wanted before after all =
    after ∙ ap (λ t. t ++ b) before ∙ append_assoc old a b ∙ ap (λ t. old ++ t) all

pub no_digits : (old : List ℕ) (k n : ℕ) → k ≡ 0 → old ≡ old ++ encode_utf8_all (hex_digits k n)
unfolding hex_digits
no_digits old k n e = rw e (sym (append-nil old))

pub more_digits : (k n : ℕ) → k ≢ 0
    → encode_utf8_all (hex_digits (k - 1) (n / 16)) ++ encode_utf8 (hex_digit (n % 16)) ≡ encode_utf8_all (hex_digits k n)
unfolding hex_digits
more_digits zero n h = absurd (h refl)
more_digits (suc k) n h =
    let less : suc k - 1 ≡ k = omega arith in
    rw less
    (sym (encodes-append (hex_digits k (n / 16)) (hex_digit (n % 16) ∷ [])
    ∙ ap (λ t. encode_utf8_all (hex_digits k (n / 16)) ++ t) (append-nil (encode_utf8 (hex_digit (n % 16))))))

pub shown_itself : (b : Breaks) (c : ℕ) → is_shown b c ≡ true → encode_utf8 c ≡ encode_utf8_all (shown b (character c))
unfolding shown
shown_itself b c h = rw h (sym (append-nil (encode_utf8 c)))

-- digits between brackets, after what is written before them
bracketed : (front digits : List ℕ)
    → (encode_utf8_all front ++ encode_utf8_all digits) ++ encode_utf8 right_bracket
    ≡ encode_utf8_all (front ++ (digits ++ right_bracket ∷ []))
bracketed front digits =
    append_assoc (encode_utf8_all front) (encode_utf8_all digits) (encode_utf8 right_bracket)
    ∙ sym (encodes-append front (digits ++ right_bracket ∷ [])
    ∙ ap (λ t. encode_utf8_all front ++ t) (encodes-append digits (right_bracket ∷ [])
    ∙ ap (λ t. encode_utf8_all digits ++ t) (append-nil (encode_utf8 right_bracket))))

pub shown_code : (b : Breaks) (c : ℕ) → is_shown b c ≡ false
    → ((226 ∷ 159 ∷ 168 ∷ 85 ∷ 43 ∷ []) ++ encode_utf8_all (hex_digits (code_width c) c)) ++ encode_utf8 right_bracket
    ≡ encode_utf8_all (shown b (character c))
unfolding shown encode_utf8
shown_code b c h = rw h (bracketed (left_bracket ∷ 85 ∷ 43 ∷ []) (hex_digits (code_width c) c))

pub shown_byte : (b : ℕ) → (encode_utf8 left_bracket ++ encode_utf8_all (hex_digits 2 b)) ++ encode_utf8 right_bracket
    ≡ encode_utf8_all (in_brackets (hex_digits 2 b))
shown_byte b =
    ap (λ t. (t ++ encode_utf8_all (hex_digits 2 b)) ++ encode_utf8 right_bracket) (sym (append-nil (encode_utf8 left_bracket)))
    ∙ bracketed (left_bracket ∷ []) (hex_digits 2 b)

-- ---- what functions write, from what their calls write

pub digits_written : {X E : Type 0} (r : Result X E) (old mid new : List ℕ) (k n d : ℕ) → k ≢ 0
    → mid ≡ old ++ encode_utf8_all (hex_digits (k - 1) (n / 16)) → d ≡ hex_digit (n % 16)
    → new ≡ cond (is_ok r) (mid ++ encode_utf8 d) mid → OnOk r (new ≡ old ++ encode_utf8_all (hex_digits k n))
digits_written r old mid new k n d some front last after =
    one_more r old (encode_utf8_all (hex_digits (k - 1) (n / 16))) mid (encode_utf8 d) new (encode_utf8_all (hex_digits k n))
    front after
    (ap (λ e. encode_utf8_all (hex_digits (k - 1) (n / 16)) ++ encode_utf8 e) last ∙ more_digits k n some)

pub code_written : {X E : Type 0} (r : Result X E) (b : Breaks) (old start mid new : List ℕ) (c k n : ℕ) → is_shown b c ≡ false
    → start ≡ old ++ (226 ∷ 159 ∷ 168 ∷ 85 ∷ 43 ∷ []) → k ≡ code_width c → n ≡ c
    → mid ≡ start ++ encode_utf8_all (hex_digits k n)
    → new ≡ cond (is_ok r) (mid ++ encode_utf8 right_bracket) mid
    → OnOk r (new ≡ old ++ encode_utf8_all (shown b (character c)))
code_written r b old start mid new c k n not_shown front width same digits after =
    let lit = 226 ∷ 159 ∷ 168 ∷ 85 ∷ 43 ∷ [] in
    one_more r old (lit ++ encode_utf8_all (hex_digits k n)) mid (encode_utf8 right_bracket) new (encode_utf8_all (shown b (character c)))
    (two_more old lit start (encode_utf8_all (hex_digits k n)) mid (lit ++ encode_utf8_all (hex_digits k n)) front digits refl)
    after
    (ap₂ (λ i j. (lit ++ encode_utf8_all (hex_digits i j)) ++ encode_utf8 right_bracket) width same ∙ shown_code b c not_shown)

pub byte_written : {X E : Type 0} (r : Result X E) (old start mid new : List ℕ) (b n : ℕ)
    → start ≡ old ++ encode_utf8 left_bracket → n ≡ b
    → mid ≡ start ++ encode_utf8_all (hex_digits 2 n)
    → new ≡ cond (is_ok r) (mid ++ encode_utf8 right_bracket) mid
    → OnOk r (new ≡ old ++ encode_utf8_all (in_brackets (hex_digits 2 b)))
byte_written r old start mid new b n front same digits after =
    let lit = encode_utf8 left_bracket in
    one_more r old (lit ++ encode_utf8_all (hex_digits 2 n)) mid (encode_utf8 right_bracket) new
    (encode_utf8_all (in_brackets (hex_digits 2 b)))
    (two_more old lit start (encode_utf8_all (hex_digits 2 n)) mid (lit ++ encode_utf8_all (hex_digits 2 n)) front digits refl)
    after
    (ap (λ j. (lit ++ encode_utf8_all (hex_digits 2 j)) ++ encode_utf8 right_bracket) same ∙ shown_byte b)

-- one item more of a list whose items are written one after another
pub item_written : (f : ℕ → List ℕ) (old mid new : List ℕ) (xs : List ℕ) (i : ℕ) → i < length xs
    → mid ++ encode_utf8_all (flat_map f (drop i xs)) ≡ old ++ encode_utf8_all (flat_map f xs)
    → new ≡ mid ++ encode_utf8_all (f (get_or xs i 0))
    → new ++ encode_utf8_all (flat_map f (drop (i + 1) xs)) ≡ old ++ encode_utf8_all (flat_map f xs)
item_written f old mid new xs i lt before after =
    ap (λ t. t ++ encode_utf8_all (flat_map f (drop (i + 1) xs))) after
    ∙ append_assoc mid (encode_utf8_all (f (get_or xs i 0))) (encode_utf8_all (flat_map f (drop (i + 1) xs)))
    ∙ ap (λ t. mid ++ t) (sym (encodes-append (f (get_or xs i 0)) (flat_map f (drop (i + 1) xs))))
    ∙ ap (λ t. mid ++ encode_utf8_all (flat_map f t)) (sym (drop_more xs i 0 lt)) ∙ before
