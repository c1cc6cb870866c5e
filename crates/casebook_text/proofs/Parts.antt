-- The parts of bytes, one piece after another.
use Rattle.std.proofs.Common.{◌≡◌, ℕ, ◌<◌, List, [], ◌++◌, sym, ap, ◌∙◌, append_assoc}
use Rattle.std.proofs.Common.{Some, None, take, drop, length, flat_map, encode_utf8_all, ap₂}
use Rattle.std.proofs.lemmas.List.{append-nil, nil_from_length}
use Rattle.std.proofs.lemmas.List.Concat.{flat_map-append}
use Rattle.std.proofs.lemmas.List.Folds.{flat_map-map}
use Rattle.std.proofs.lemmas.Str.{encodes-append}
use Rattle.bstr.specs.Utf8.{decoded}
use Rattle.bstr.proofs.lemmas.PieceLemmas.{pieces-nil, pieces-step}
use Rattle.casebook_text.specs.declared.safe_text.Breaks.{Breaks}
use Rattle.casebook_text.specs.SafeText.{character, stray, parts_in, parts_by, parts_of, shown}
use Rattle.casebook_text.specs.SafeText.{safe_text, in_brackets, hex_digits}

pub parts_of-step : (bs : List ℕ) → 0 < length bs
    → parts_of bs ≡ parts_in (decoded bs).char (take (decoded bs).size bs) ++ parts_of (drop (decoded bs).size bs)
unfolding parts_of
parts_of-step bs some = ap (λ ps. parts_by ps bs) (pieces-step bs some)

pub parts_of-nil : parts_of [] ≡ []
unfolding parts_of
parts_of-nil = ap (λ ps. parts_by ps []) pieces-nil

-- how the first part of bytes is shown
abbrev pub first_shown : Breaks → List ℕ → List ℕ
first_shown b bs = flat_map (shown b) (parts_in (decoded bs).char (take (decoded bs).size bs))

pub safe_text-step : (b : Breaks) (bs : List ℕ) → 0 < length bs
    → safe_text b bs ≡ first_shown b bs ++ safe_text b (drop (decoded bs).size bs)
safe_text-step b bs some =
    ap (flat_map (shown b)) (parts_of-step bs some)
    ∙ flat_map-append (shown b) (parts_in (decoded bs).char (take (decoded bs).size bs)) (parts_of (drop (decoded bs).size bs))

-- how bytes that belong to no character are shown
abbrev pub stray_shown : List ℕ → List ℕ
stray_shown = flat_map (λ byte. in_brackets (hex_digits 2 byte))

-- a character is shown
pub character_shown : (b : Breaks) (bs : List ℕ) (c : ℕ) → (decoded bs).char ≡ Some c
    → shown b (character c) ≡ first_shown b bs
character_shown b bs c is =
    sym (ap (λ o. flat_map (shown b) (parts_in o (take (decoded bs).size bs))) is ∙ append-nil (shown b (character c)))

-- bytes that belong to no character are shown
pub bytes_shown : (b : Breaks) (bs : List ℕ) → (decoded bs).char ≡ None
    → stray_shown (take (decoded bs).size bs) ≡ first_shown b bs
unfolding shown
bytes_shown b bs is =
    sym (ap (λ o. flat_map (shown b) (parts_in o (take (decoded bs).size bs))) is
    ∙ flat_map-map (shown b) stray (take (decoded bs).size bs))

-- one piece more of a text
pub piece_written : (b : Breaks) (old new bs rest whole piece : List ℕ) → 0 < length bs
    → old ++ encode_utf8_all (safe_text b bs) ≡ whole
    → rest ≡ drop (decoded bs).size bs → piece ≡ first_shown b bs → new ≡ old ++ encode_utf8_all piece
    → new ++ encode_utf8_all (safe_text b rest) ≡ whole
piece_written b old new bs rest whole piece some before left first after =
    ap₂ (λ t u. t ++ encode_utf8_all (safe_text b u)) after left
    ∙ append_assoc old (encode_utf8_all piece) _
    ∙ ap (λ t. old ++ (encode_utf8_all t ++ encode_utf8_all (safe_text b (drop (decoded bs).size bs)))) first
    ∙ ap (λ t. old ++ t) (sym (encodes-append (first_shown b bs) (safe_text b (drop (decoded bs).size bs))))
    ∙ ap (λ t. old ++ encode_utf8_all t) (sym (safe_text-step b bs some)) ∙ before

pub all_written : (b : Breaks) (text bs whole : List ℕ) → length bs ≡ 0
    → text ++ encode_utf8_all (safe_text b bs) ≡ whole → text ≡ whole
all_written b text bs whole none before =
    sym (append-nil text)
    ∙ sym (ap (λ t. text ++ encode_utf8_all (safe_text b t)) (nil_from_length bs none)
    ∙ ap (λ t. text ++ encode_utf8_all (flat_map (shown b) t)) parts_of-nil)
    ∙ before
