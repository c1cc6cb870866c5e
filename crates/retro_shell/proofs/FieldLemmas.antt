-- Texts that are split at blanks, and the sizes of fields.
use Rattle.std.proofs.Common.{◌≡◌, ◌≢◌, ◌+◌, ◌-◌, ◌<◌, ◌≤◌, ℕ, zero, suc, add-one, arith, Bool, true, false}
use Rattle.std.proofs.Common.{rules, nat_le, get_or, refl, sym, ap, ◌∙◌}
use Rattle.std.proofs.Common.{List, [], ◌∷◌, ◌++◌, length, take, drop, append_assoc, Option, Some, None, if◌then◌else◌}
use Rattle.std.specs.Prelude.{IsUtf8, unwrap_or}
use Rattle.std.specs.Str.{IsCharBoundary}
use Rattle.std.proofs.Math.Nat.{sub-zero}
use Rattle.std.proofs.lemmas.List.{get_or-drop}
use Rattle.std.proofs.lemmas.Str.{IsCharBoundary-after_ascii}
use Rattle.retro_shell.specs.Fields.{Fields, add, add_split, after_byte, before_blank, close, is_blank, size_of}
use Rattle.retro_shell.specs.Fields.{split_at_blank}

-- ---- where a text can be split

small : (b : ℕ) → is_blank b ≡ true → b < 128
small b h = search (rules, h)

-- a text can be split after a blank
pub after_blank : (text rest : List ℕ) (n : ℕ) (b : ℕ) → IsUtf8 text → n + length (b ∷ rest) ≡ length text
    → b ∷ rest ≡ drop n text → is_blank b ≡ true → IsCharBoundary text (n + 1)
after_blank text rest n b utf8 count left blank =
    let here : get_or text n 0 ≡ b =
    ap (λ i. get_or text i 0) (sym (omega arith)) ∙ sym (get_or-drop n text 0 0)
    ∙ ap (λ bs. get_or bs 0 0) (sym left) in
    IsCharBoundary-after_ascii text n utf8 (omega (arith, count)) (rw here (small b blank))

pub ruleset boundaries = (after_blank)

-- ---- a text without a blank

whole_step : (b : ℕ) (bs before : List ℕ) (parts : List ℕ × Option (List ℕ)) (r : Bool)
    → (length before ≡ length bs → ◌≡◌ {A = List ℕ × Option (List ℕ)} (bs, None) parts)
    → length (if r then [] else b ∷ before) ≡ length (b ∷ bs)
    → ◌≡◌ {A = List ℕ × Option (List ℕ)} (b ∷ bs, None) (if r then ([], Some bs) else after_byte b parts)
whole_step b bs before parts true more e = absurd (omega (arith, e))
whole_step b bs before parts false more e = ap (after_byte b) (more (omega (arith, e)))

pub whole : (text : List ℕ) → length (before_blank text) ≡ length text
    → ◌≡◌ {A = List ℕ × Option (List ℕ)} (text, None) (split_at_blank text)
whole [] e = refl
whole (b ∷ bs) e = whole_step b bs (before_blank bs) (split_at_blank bs) (is_blank b) (whole bs) e

-- ---- a text with a blank

apart_step : (b : ℕ) (bs before : List ℕ) (parts : List ℕ × Option (List ℕ)) (r : Bool)
    → (length before ≢ length bs
    → ◌≡◌ {A = List ℕ × Option (List ℕ)} (take (length before) bs, Some (drop (suc (length before)) bs)) parts)
    → length (if r then [] else b ∷ before) ≢ length (b ∷ bs)
    → ◌≡◌ {A = List ℕ × Option (List ℕ)} (
      take (length (if r then [] else b ∷ before)) (b ∷ bs),
      Some (drop (suc (length (if r then [] else b ∷ before))) (b ∷ bs)),
    )
    (if r then ([], Some bs) else after_byte b parts)
apart_step b bs before parts true more ne = refl
apart_step b bs before parts false more ne = ap (after_byte b) (more (λ e. ne (ap (λ n. suc n) e)))

apart_next : (text : List ℕ) → length (before_blank text) ≢ length text
    → ◌≡◌ {A = List ℕ × Option (List ℕ)}
    (take (length (before_blank text)) text, Some (drop (suc (length (before_blank text))) text))
    (split_at_blank text)
apart_next [] ne = absurd (ne refl)
apart_next (b ∷ bs) ne = apart_step b bs (before_blank bs) (split_at_blank bs) (is_blank b) (apart_next bs) ne

pub apart : (text : List ℕ) → length (before_blank text) ≢ length text
    → ◌≡◌ {A = List ℕ × Option (List ℕ)}
    (take (length (before_blank text)) text, Some (drop (length (before_blank text) + 1) text))
    (split_at_blank text)
apart text ne =
    ap (λ n. (take (length (before_blank text)) text, Some (drop n text))) (add-one (length (before_blank text)))
    ∙ apart_next text ne

short_step : (b : ℕ) (bs before : List ℕ) (r : Bool) → length before ≤ length bs
    → length (if r then [] else b ∷ before) ≤ length (b ∷ bs)
short_step b bs before true le = omega arith
short_step b bs before false le = omega (arith, le)

pub short : (text : List ℕ) → length (before_blank text) ≤ length text
short [] = omega arith
short (b ∷ bs) = short_step b bs (before_blank bs) (is_blank b) (short bs)

pub ruleset parts = (whole, apart, short)

-- ---- what is added

-- the part before the first blank, and then the rest, if there is a blank
abbrev pub add_parts : List ℕ × Option (List ℕ) → Fields → Fields
add_parts (part, None) f = add part f
add_parts (part, Some rest) f = add_split rest (close (add part f))

one_more : (b : ℕ) (part : List ℕ) (f : Fields) → add part (add (b ∷ []) f) ≡ add (b ∷ part) f
one_more b [] f = refl
one_more b (c ∷ part) f =
    ap (λ field. record f { current = Some field }) (append_assoc (unwrap_or f.current []) (b ∷ []) (c ∷ part))

parts_more : (b : ℕ) (parts : List ℕ × Option (List ℕ)) (f : Fields)
    → add_parts parts (add (b ∷ []) f) ≡ add_parts (after_byte b parts) f
parts_more b (part, None) f = one_more b part f
parts_more b (part, Some rest) f = ap (λ g. add_split rest (close g)) (one_more b part f)

by_parts_step : (b : ℕ) (bs : List ℕ) (f : Fields) (r : Bool)
    → ((g : Fields) → add_split bs g ≡ add_parts (split_at_blank bs) g)
    → add_split bs (if r then close f else add (b ∷ []) f)
    ≡ add_parts (if r then ([], Some bs) else after_byte b (split_at_blank bs)) f
by_parts_step b bs f true more = refl
by_parts_step b bs f false more = more (add (b ∷ []) f) ∙ parts_more b (split_at_blank bs) f

by_parts : (text : List ℕ) (f : Fields) → add_split text f ≡ add_parts (split_at_blank text) f
by_parts [] f = refl
by_parts (b ∷ bs) f = by_parts_step b bs f (is_blank b) (by_parts bs)

pub last_part : (text part : List ℕ) (f : Fields)
    → ◌≡◌ {A = List ℕ × Option (List ℕ)} (part, None) (split_at_blank text) → add part f ≡ add_split text f
last_part text part f e = ap (λ parts. add_parts parts f) e ∙ sym (by_parts text f)

pub next_part : (text part rest : List ℕ) (f : Fields)
    → ◌≡◌ {A = List ℕ × Option (List ℕ)} (part, Some rest) (split_at_blank text)
    → add_split rest (close (add part f)) ≡ add_split text f
next_part text part rest f e = ap (λ parts. add_parts parts f) e ∙ sym (by_parts text f)

-- the length of what is left, and one more
abbrev left : List ℕ × Option (List ℕ) → ℕ
left (part, None) = 0
left (part, Some rest) = 1 + length rest

left_step : (b : ℕ) (bs : List ℕ) (parts : List ℕ × Option (List ℕ)) (r : Bool) → left parts ≤ length bs
    → left (if r then ([], Some bs) else after_byte b parts) ≤ length (b ∷ bs)
left_step b bs parts true le = omega arith
left_step b bs (part, None) false le = omega arith
left_step b bs (part, Some rest) false le = omega (arith, le)

left_bound : (text : List ℕ) → left (split_at_blank text) ≤ length text
left_bound [] = omega arith
left_bound (b ∷ bs) = left_step b bs (split_at_blank bs) (is_blank b) (left_bound bs)

pub rest_shorter : (text part rest : List ℕ)
    → ◌≡◌ {A = List ℕ × Option (List ℕ)} (part, Some rest) (split_at_blank text) → length rest < length text
rest_shorter text part rest e = omega (arith, ap left e, left_bound text)

pub ruleset splitting = (last_part, next_part, rest_shorter)

-- ---- sizes

pub room_left : (n size room : ℕ) → n ≤ room → nat_le (n + size) room ≡ nat_le size (room - n)
room_left n size room le = grind (arith, le)

pub ruleset sizes = (room_left)
