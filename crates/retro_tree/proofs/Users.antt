-- The fields of the password file, as the code reads them.
use Rattle.std.proofs.Common.{◌≡◌, ◌<◌, ◌≤◌, ◌^◌, ◌==◌, ℕ, zero, suc, Bool, true, false, not, ◌&&◌, nat_le, List, []}
use Rattle.std.proofs.Common.{◌∷◌, length, Option, Some, None, Result, Ok, Err, ◌+◌, drop, get_or, refl, sym, ap, ◌∙◌}
use Rattle.std.proofs.Common.{arith, ◌++◌, ◌-◌, take, nat_eq}
use Rattle.std.specs.Prelude.{option_map}
use Rattle.std.specs.Bool.{if◌then◌else◌}
use Rattle.std.specs.Result.{result_ok, OkIff}
use Rattle.std.specs.List.{list_any, list_all, filter_map, cons_option, slice_split, starts_with, join_with_byte}
use Rattle.std.specs.Char.{is_ascii_digit}
use Rattle.std.specs.Str.{IsUtf8, is_utf8, all_ascii_digits, IsAscii}
use Rattle.std.specs.Str.Parse.{digits_value, ParsesUnsigned}
use Rattle.std.proofs.lemmas.Bool.{true≢false, false≢true, leb-true, le-leb, eq-eqb}
use Rattle.std.proofs.lemmas.Str.{IsUtf8-from_is_utf8, is_utf8-from_IsUtf8, IsUtf8-from_ascii}
use Rattle.std.proofs.lemmas.Str.Parse.{parse_digits, numerals_by_value, tells_all_ascii_digits}
use Rattle.std.proofs.lemmas.List.{at_drop_more, take_rest}
use Rattle.std.proofs.lemmas.List.Splits.{join_with_byte-slice_split}
use Rattle.retro_path.specs.Ascii.{colon}
use Rattle.retro_tree.specs.Order.{text_eq}
use Rattle.retro_tree.specs.User.{is_plain_text, plain_text, user_number, entry_by, entry_of_fields, entry_of_line}
use Rattle.retro_tree.specs.User.{named, first_of}
use Rattle.retro_tree.specs.declared.user.User.{User}
use Rattle.retro_tree.proofs.Small.{none_some, first_true, both_true, and_true, same_text}

-- ---- texts
chosen : {A : Type 0} (b : Bool) (x : A) → b ≡ true → if b then Some x else None ≡ Some x
chosen true x e = refl
chosen false x e = absurd (false≢true e)

passed : {A : Type 0} (b : Bool) (x : A) → b ≡ false → if b then Some x else None ≡ None
passed true x e = absurd (true≢false e)
passed false x e = refl

and_false : (a b : Bool) → b ≡ false → (a && b) ≡ false
and_false true b e = e
and_false false b e = refl

pub with_nul : (bytes : List ℕ) → list_any (λ b. b == 0) bytes ≡ true → plain_text bytes ≡ None
unfolding is_plain_text
with_nul bytes h = passed (is_utf8 bytes && not (list_any (λ b. b == 0) bytes)) bytes
    (and_false (is_utf8 bytes) _ (ap not h))

pub without_nul : (bytes : List ℕ) → IsUtf8 bytes → list_any (λ b. b == 0) bytes ≡ false → plain_text bytes ≡ Some bytes
unfolding is_plain_text
without_nul bytes u h = chosen (is_utf8 bytes && not (list_any (λ b. b == 0) bytes)) bytes
    (and_true _ _ (is_utf8-from_IsUtf8 bytes u) (ap not h))

pub no_utf8 : (bytes : List ℕ) → (IsUtf8 bytes → ⊥) → plain_text bytes ≡ None
unfolding is_plain_text
no_utf8 bytes h = go (is_utf8 bytes) refl
  where
    go : (b : Bool) → is_utf8 bytes ≡ b → if b && not (list_any (λ b. b == 0) bytes) then Some bytes else None ≡ None
    go true e = absurd (h (IsUtf8-from_is_utf8 bytes e))
    go false e = refl

pub ruleset texts = (with_nul, without_nul, no_utf8)

-- ---- numbers
all_digits : (bytes : List ℕ) → list_all is_ascii_digit bytes ≡ all_ascii_digits bytes
all_digits [] = refl
all_digits (c ∷ cs) = ap (λ b. is_ascii_digit c && b) (all_digits cs)

digit_is_ascii : (c : ℕ) → is_ascii_digit c ≡ true → c < 128
digit_is_ascii c e = let le = leb-true c 57 (both_true (nat_le 48 c) (nat_le c 57) e) in omega arith

digits_are_ascii : (bytes : List ℕ) → list_all is_ascii_digit bytes ≡ true → IsAscii bytes
digits_are_ascii [] h i = omega arith
digits_are_ascii (c ∷ cs) h zero = digit_is_ascii c (first_true (is_ascii_digit c) _ h)
digits_are_ascii (c ∷ cs) h (suc i) = digits_are_ascii cs (both_true (is_ascii_digit c) _ h) i

pub digits_are_text : (bytes : List ℕ) → list_all is_ascii_digit bytes ≡ true → IsUtf8 bytes
digits_are_text bytes h = IsUtf8-from_ascii bytes (digits_are_ascii bytes h)

le_false : (m n : ℕ) → n < m → nat_le m n ≡ false
le_false m n h = go (nat_le m n) refl
  where
    go : (b : Bool) → nat_le m n ≡ b → b ≡ false
    go true e = let le = leb-true m n e in absurd (omega arith)
    go false e = refl

first_false : (a b : Bool) → a ≡ false → (a && b) ≡ false
first_false true b e = absurd (true≢false e)
first_false false b e = refl

abbrev passes : List ℕ → Bool
passes bytes =
    nat_le 1 (length bytes)
    && (nat_le (length bytes) 10 && (all_ascii_digits bytes && nat_le (digits_value 10 bytes) 4294967295))

pub too_long : (bytes : List ℕ) → 10 < length bytes → user_number bytes ≡ None
unfolding user_number
too_long bytes h =
    passed (passes bytes) (digits_value 10 bytes)
    (and_false (nat_le 1 (length bytes)) _ (first_false (nat_le (length bytes) 10) _ (le_false _ _ h)))

pub no_digits : (bytes : List ℕ) → list_all is_ascii_digit bytes ≡ false → user_number bytes ≡ None
unfolding user_number
no_digits bytes h =
    passed (passes bytes) (digits_value 10 bytes)
    (and_false (nat_le 1 (length bytes)) _
    (and_false (nat_le (length bytes) 10) _ (first_false (all_ascii_digits bytes) _ (sym (all_digits bytes) ∙ h))))

pub number_read : {E : Type 0} (bytes : List ℕ) (r : Result ℕ E) → length bytes ≤ 10
    → list_all is_ascii_digit bytes ≡ true → ParsesUnsigned 32 10 bytes r → result_ok r ≡ user_number bytes
unfolding user_number
number_read {E} bytes r short digits h =
    go r (parse_digits
    (numerals_by_value (λ ds. all_ascii_digits ds ≡ true) tells_all_ascii_digits) 32 bytes r h
    (sym (all_digits bytes) ∙ digits))
  where
    fits : 0 < length bytes → digits_value 10 bytes < 2 ^ 32 → passes bytes ≡ true
    fits some small =
        and_true _ _ (le-leb _ _ (omega arith))
        (and_true _ _ (le-leb _ _ short) (and_true _ _ (sym (all_digits bytes) ∙ digits) (le-leb _ _ (omega arith))))

    some_digit : passes bytes ≡ true → 0 < length bytes
    some_digit e = let l = leb-true 1 (length bytes) (first_true (nat_le 1 (length bytes)) _ e) in omega arith

    small : passes bytes ≡ true → digits_value 10 bytes < 2 ^ 32
    small e =
        let l = leb-true (digits_value 10 bytes) 4294967295
        (both_true (all_ascii_digits bytes) _
        (both_true (nat_le (length bytes) 10) _ (both_true (nat_le 1 (length bytes)) _ e))) in
        omega arith

    go : (q : Result ℕ E) → OkIff q ((0 < length bytes) × (digits_value 10 bytes < 2 ^ 32))
        (digits_value 10 bytes) → result_ok q ≡ if passes bytes then Some (digits_value 10 bytes) else None
    go (Ok x) k = ap Some k.1 ∙ sym (chosen (passes bytes) (digits_value 10 bytes) (fits k.0.0 k.0.1))
    go (Err e) k = sym (without (passes bytes) refl)
      where
        without : (b : Bool) → passes bytes ≡ b → if b then Some (digits_value 10 bytes) else None ≡ None
        without true t = absurd (k (some_digit t, small t))
        without false t = refl

pub not_text : (bytes : List ℕ) → list_all is_ascii_digit bytes ≡ true → (IsUtf8 bytes → ⊥) → user_number bytes ≡ None
not_text bytes h not_utf8 = absurd (not_utf8 (digits_are_text bytes h))

pub ruleset numbers = (too_long, no_digits, not_text, number_read)

-- ---- the first field of a line
-- a field and a colon, tested one after the other
pub field_then_colon : (line field : List ℕ)
    → (starts_with nat_eq line field && starts_with nat_eq (drop (length field) line) (colon ∷ []))
    ≡ starts_with nat_eq line (field ++ colon ∷ [])
field_then_colon line [] = refl
field_then_colon [] (f ∷ field) = refl
field_then_colon (b ∷ line) (f ∷ field) =
    regroup (nat_eq f b) _ _ ∙ ap (λ t. nat_eq f b && t) (field_then_colon line field)
  where
    regroup : (a b c : Bool) → ((a && b) && c) ≡ (a && (b && c))
    regroup true b c = refl
    regroup false b c = refl

-- the same, as the code slices the line
pub sliced_field : (line field : List ℕ) → starts_with nat_eq line field ≡ true
    → starts_with nat_eq (take (length line - length field) (drop (length field) line)) (colon ∷ [])
    ≡ starts_with nat_eq line (field ++ colon ∷ [])
sliced_field line field h =
    ap (λ rest. starts_with nat_eq rest (colon ∷ [])) (take_rest line (length field))
    ∙ ap (λ t. t && starts_with nat_eq (drop (length field) line) (colon ∷ [])) (sym h)
    ∙ field_then_colon line field

pub no_field : (line field : List ℕ) → starts_with nat_eq line field ≡ false
    → starts_with nat_eq line (field ++ colon ∷ []) ≡ false
no_field line field h = sym (field_then_colon line field)
    ∙ ap (λ t. t && starts_with nat_eq (drop (length field) line) (colon ∷ [])) h

pub ruleset field_and_colon = (sliced_field, no_field)

begins : (field rest : List ℕ) → starts_with nat_eq (field ++ colon ∷ rest) (field ++ colon ∷ []) ≡ true
begins [] rest = refl
begins (f ∷ field) rest = and_true (nat_eq f f) _ (eq-eqb f f refl) (begins field rest)

-- a line of at least two fields begins with its first one and a colon
begins_with_first : (line first second : List ℕ) (more : List (List ℕ))
    → slice_split (λ b. b == colon) line ≡ first ∷ second ∷ more
    → starts_with nat_eq line (first ++ colon ∷ []) ≡ true
begins_with_first line first second more is =
    ap (λ bytes. starts_with nat_eq bytes (first ++ colon ∷ []))
    (sym (join_with_byte-slice_split colon line) ∙ ap (join_with_byte colon) is)
    ∙ begins first (join_with_byte colon (second ∷ more))

named_another : (name login number home : List ℕ) → text_eq login name ≡ false
    → named name (entry_by login number home) ≡ None
named_another name login number home h =
    go (nat_le 1 (length login) && (is_plain_text login && is_plain_text home)) (user_number number)
  where
    go : (fits : Bool) (n : Option ℕ)
        → named name (if fits then option_map (λ n. (login, record { number = n; home = home })) n else None) ≡ None
    go true (Some n) = passed (text_eq login name) _ h
    go true None = refl
    go false n = refl

pub other_name : (name line : List ℕ) → starts_with nat_eq line (name ++ colon ∷ []) ≡ false
    → named name (entry_of_line line) ≡ None
unfolding entry_of_line
other_name name line h = go (slice_split (λ b. b == colon) line) refl
  where
    differs : (first second : List ℕ) (more : List (List ℕ))
        → slice_split (λ b. b == colon) line ≡ first ∷ second ∷ more → text_eq first name ≡ false
    differs first second more is = by_test (text_eq first name) refl
      where
        by_test : (t : Bool) → text_eq first name ≡ t → t ≡ false
        by_test false e = refl
        by_test true e = absurd (true≢false (sym (begins_with_first line first second more is)
            ∙ ap (λ n. starts_with nat_eq line (n ++ colon ∷ [])) (same_text first name e) ∙ h))

    go : (fields : List (List ℕ)) → slice_split (λ b. b == colon) line ≡ fields
        → named name (entry_of_fields fields) ≡ None
    go [] is = refl
    go (a ∷ []) is = refl
    go (a ∷ b ∷ []) is = refl
    go (a ∷ b ∷ c ∷ []) is = refl
    go (a ∷ b ∷ c ∷ d ∷ []) is = refl
    go (a ∷ b ∷ c ∷ d ∷ e ∷ []) is = refl
    go (a ∷ b ∷ c ∷ d ∷ e ∷ f ∷ []) is = refl
    go (a ∷ b ∷ c ∷ d ∷ e ∷ f ∷ g ∷ []) is = named_another name a c f (differs a b (c ∷ d ∷ e ∷ f ∷ g ∷ []) is)
    go (a ∷ b ∷ c ∷ d ∷ e ∷ f ∷ g ∷ h ∷ more) is = refl

-- ---- lines
abbrev pub find_in : List ℕ → List (List ℕ) → Option User
find_in name lines = first_of name (filter_map entry_of_line lines)

pub line_found : (name line : List ℕ) (lines : List (List ℕ)) (user : User)
    → named name (entry_of_line line) ≡ Some user → find_in name (line ∷ lines) ≡ Some user
line_found name line lines user = go (entry_of_line line)
  where
    go : (o : Option (List ℕ × User)) → named name o ≡ Some user
        → first_of name (cons_option o (filter_map entry_of_line lines)) ≡ Some user
    go None h = absurd (none_some user h)
    go (Some e) h = by_test (text_eq e.0 name) h
      where
        by_test : (b : Bool) → if b then Some e.1 else None ≡ Some user
            → if b then Some e.1 else find_in name lines ≡ Some user
        by_test true k = k
        by_test false k = absurd (none_some user k)

pub line_passed : (name line : List ℕ) (lines : List (List ℕ)) → named name (entry_of_line line) ≡ None
    → find_in name (line ∷ lines) ≡ find_in name lines
line_passed name line lines = go (entry_of_line line)
  where
    go : (o : Option (List ℕ × User)) → named name o ≡ None
        → first_of name (cons_option o (filter_map entry_of_line lines)) ≡ find_in name lines
    go None h = refl
    go (Some e) h = by_test (text_eq e.0 name) h
      where
        by_test : (b : Bool) → if b then Some e.1 else None ≡ None
            → if b then Some e.1 else find_in name lines ≡ find_in name lines
        by_test true k = absurd (none_some e.1 (sym k))
        by_test false k = refl

-- the lines from the k-th on, by the k-th
pub at_line : (name : List ℕ) (lines : List (List ℕ)) (k : ℕ) (line : List ℕ)
    → (k < length lines) × (line ≡ get_or lines k line)
    → find_in name (drop k lines) ≡ find_in name (line ∷ drop (k + 1) lines)
at_line name lines k line h =
    at_drop_more (find_in name) lines k line h.0
    ∙ ap (λ l. find_in name (l ∷ drop (k + 1) lines)) (sym h.1)
