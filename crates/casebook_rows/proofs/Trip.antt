-- Texts, paths and digests are read back from their texts.
use Rattle.std.proofs.Common.{◌≡◌, ◌∙◌, ◌==◌, ℕ, zero, suc, true, false, not, nat_le, List, []}
use Rattle.std.proofs.Common.{◌∷◌, ◌++◌, All, IsUtf8, length, Some, sym, ap, refl, arith}
use Rattle.std.specs.List.{list_all, list_any, slice_split}
use Rattle.std.specs.Result.{result_ok}
use Rattle.std.proofs.lemmas.Bool.{and_parts, not-true, or_parts}
use Rattle.std.proofs.lemmas.List.Elements.{All-head, All-tail}
use Rattle.std.proofs.lemmas.Str.{is_utf8-from_IsUtf8}
use Rattle.hex.specs.Hex.{IsBytes, encode_lower}
use Rattle.hex.proofs.HexLemmas.{decode_sized-encode_lower}
use Rattle.percent_encoding.specs.Percent.{percent_decode}
use Rattle.percent_encoding.proofs.PercentLemmas.{IsByte, round_trip}
use Rattle.retro_path.specs.Ascii.{slash}
use Rattle.retro_path.specs.Name.{AllNames, is_name}
use Rattle.retro_path.specs.Path.{PathValue}
use Rattle.retro_path.specs.Slashed.{slashed}
use Rattle.casebook_rows.specs.declared.writing.TheConstants.{ESCAPED}
use Rattle.casebook_rows.specs.Reading.{digest_of, path_of, path_of_text, text_of}
use Rattle.casebook_rows.specs.Written.{escaped, path_field}
use Rattle.casebook_rows.proofs.Escapes.{encoded}
use Rattle.casebook_rows.proofs.TextBytes.{bytes_of_utf8}

pub text_again : (text : List ℕ) → All IsByte text → text_of (escaped text) ≡ text
text_again text small =
    ap percent_decode (sym (encoded text small)) ∙ round_trip ESCAPED text refl small

-- ---- paths

without_slash : (name : List ℕ) → is_name name ≡ true → list_any (λ b. b == slash) name ≡ false
unfolding is_name
without_slash name h =
    let rest = (and_parts (nat_le 1 (length name)) _ h).1 in
    let apart = (and_parts (nat_le (length name) 255) _ rest).1 in
    not-true (list_any (λ b. b == slash) name)
    (and_parts (not (list_any (λ b. b == slash) name)) _ apart).0

-- a text without a slash is the front of the first part
cut_after : (name rest : List ℕ) (parts : List (List ℕ)) → list_any (λ b. b == slash) name ≡ false
    → slice_split (λ b. b == slash) rest ≡ [] ∷ parts
    → slice_split (λ b. b == slash) (name ++ rest) ≡ name ∷ parts
cut_after [] rest parts n h = h
cut_after (b ∷ name) rest parts n h =
    let apart = or_parts (b == slash) (list_any (λ c. c == slash) name) n in
    rw (apart.0, cut_after name rest parts apart.1 h) refl

-- the parts of the text of a path are nothing and its names
cut_names : (names : PathValue) → list_all is_name names ≡ true
    → slice_split (λ b. b == slash) (slashed names) ≡ [] ∷ names
cut_names [] h = refl
cut_names (name ∷ names) h =
    let a = and_parts (is_name name) (list_all is_name names) h in
    ap (λ (parts : List (List ℕ)). [] ∷ parts)
    (cut_after name (slashed names) names (without_slash name a.0) (cut_names names a.1))

slashed_again : (path : PathValue) → AllNames path → path_of_text (slashed path) ≡ Some path
slashed_again path names = rw (cut_names path names, names) refl

pub path_again : (path : PathValue) → AllNames path → IsUtf8 (slashed path)
    → path_of (path_field path) ≡ Some path
unfolding path_of
path_again path names utf8 =
    rw (
      text_again (slashed path) (bytes_of_utf8 (slashed path) utf8),
      is_utf8-from_IsUtf8 (slashed path) utf8,
      slashed_again path names,
    ) refl

-- ---- digests

bytes : (xs : List ℕ) → All IsByte xs → IsBytes xs
bytes [] small i = omega arith
bytes (x ∷ xs) small zero = All-head IsByte x xs small
bytes (x ∷ xs) small (suc i) = bytes xs (All-tail IsByte x xs small) i

pub digest_again : (digest : List ℕ) → length digest ≡ 32 → All IsByte digest
    → digest_of (encode_lower digest) ≡ Some digest
unfolding digest_of
digest_again digest long small =
    ap result_ok (decode_sized-encode_lower digest 32 long (bytes digest small))
