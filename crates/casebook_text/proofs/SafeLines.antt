-- Lines that are safe to show, as they grow.
use Rattle.std.proofs.Common.{◌≡◌, ℕ, ◌^◌, ◌+◌, ◌%◌, ◌<◌, ◌≤◌, true, not, refl, sym, ap, ◌∙◌, arith, cond}
use Rattle.std.proofs.Common.{List, [], ◌∷◌, ◌++◌, Result, Ok, Err, is_ok, encode_utf8_all}
use Rattle.std.specs.List.{list_all}
use Rattle.std.specs.Prelude.{◌==◌}
use Rattle.std.specs.Str.{chars, IsUtf8}
use Rattle.std.specs.Fmt.{decimal}
use Rattle.std.specs.Char.{encode_utf8}
use Rattle.ucd_category.proofs.Computing.{ucd_category}
use Rattle.ucd_derived.proofs.Computing.{ucd_derived}
use Rattle.std.proofs.lemmas.Bool.{and_from, and_parts, le-leb, lt-ltb, or_left, or_right}
use Rattle.std.proofs.lemmas.Fmt.{decimal_by_steps}
use Rattle.std.proofs.lemmas.Str.{chars-append, chars-encodes, chars-nil, IsUtf8-append, encodes-chars}
use Rattle.std.proofs.lemmas.List.{append-nil}
use lib.Utf8.{scalar}
use Rattle.casebook_text.specs.SafeText.{is_plain, is_harmless, is_printable, space, is_safe, is_safe_byte, safe_text}
use Rattle.casebook_text.specs.SafeLine.{IsSafeLine}
use Rattle.casebook_text.specs.declared.safe_text.Breaks.TheVariants.{Show}
use Rattle.casebook_text.proofs.Lists.{append_all}
use Rattle.casebook_text.proofs.ShownLemmas.{ascii_itself, characters_safe, encode_all, safe_bytes}

-- ---- lines that grow

pub nothing_safe : IsSafeLine []
nothing_safe = record { utf8 = ([], (refl, refl)); characters = ap (list_all (is_safe Show)) chars-nil }

both_safe : (old more : List ℕ) → IsSafeLine old → IsSafeLine more → IsSafeLine (old ++ more)
both_safe old more a b = record {
  utf8 = IsUtf8-append old more a.utf8 b.utf8;
  characters =
      ap (list_all (is_safe Show)) (chars-append old more a.utf8)
      ∙ append_all (is_safe Show) (chars old) (chars more) a.characters b.characters;
}

pub more_safe : {X E : Type 0} (r : Result X E) (old more new : List ℕ) → IsSafeLine old → IsSafeLine more
    → new ≡ cond (is_ok r) (old ++ more) old → IsSafeLine new
more_safe (Ok x) old more new a b e = rw e (both_safe old more a b)
more_safe (Err x) old more new a b e = rw e a

-- ---- what is appended

-- in one line spaces are kept
plain_from_printable : (text : List ℕ) → list_all is_printable text ≡ true → list_all (is_plain Show) text ≡ true
plain_from_printable [] all = refl
plain_from_printable (b ∷ text) all =
    let both = and_parts (is_printable b) (list_all is_printable text) all in
    and_from _ _ (and_from _ _ both.0 (or_right (not (b == space)) _ refl)) (plain_from_printable text both.1)

pub printable_safe : (text : List ℕ) → IsUtf8 text → list_all is_printable text ≡ true → IsSafeLine text
printable_safe text utf8 all = record {
  utf8 = utf8;
  characters = characters_safe Show text text (sym (ascii_itself Show text (encode_utf8_all (safe_text Show text)) refl (plain_from_printable text all)));
}

digit_printable : (d : ℕ) → d < 10 → list_all is_printable ((48 + d) ∷ []) ≡ true
digit_printable d lt =
    and_from _ _ (and_from _ _ (le-leb 32 (48 + d) (omega arith)) (lt-ltb (48 + d) 127 (omega arith))) refl

pub decimal_printable : (n : ℕ) → n < 2 ^ 64 → list_all is_printable (decimal n) ≡ true
decimal_printable n lt =
    decimal_by_steps (λ m ds. list_all is_printable ds ≡ true) digit_printable
    (λ m ds low so_far. append_all is_printable ds ((48 + m % 10) ∷ []) so_far (digit_printable (m % 10) (omega arith))) n lt

pub harmless_safe : (c : ℕ) → scalar c ≡ true → is_harmless c ≡ true → IsSafeLine (encode_utf8 c)
harmless_safe c is harmless =
    let one : encode_utf8_all (c ∷ []) ≡ encode_utf8 c = append-nil (encode_utf8 c) in
    let all = and_from (scalar c) true is refl in
    record {
      utf8 = (c ∷ [], (all, one));
      characters =
          ap (list_all (is_safe Show)) (ap chars (sym one) ∙ chars-encodes (c ∷ []) all)
          ∙ and_from _ _ (or_left _ _ harmless) refl;
    }

pub ellipsis_harmless : is_harmless 0x2026 ≡ true
unfolding is_harmless ucd_category ucd_derived
ellipsis_harmless = refl

-- ---- the bytes of a safe line

pub bytes_of_line : (text : List ℕ) → IsSafeLine text → list_all (is_safe_byte Show) text ≡ true
bytes_of_line text safe =
    ap (list_all (is_safe_byte Show)) (sym (encodes-chars text safe.utf8))
    ∙ encode_all (is_safe_byte Show) (is_safe Show) (safe_bytes Show) (chars text) safe.characters
