-- Texts in one line that are safe to show.
use Rattle.std.specs.Prelude.{◌≡◌, ℕ, ◌==◌, ◌<◌, ◌++◌, ◌∷◌, [], List, flat_map, length, map}
use Rattle.std.specs.Prelude.{encode_utf8, encode_utf8_all, chars, IsTrue}
use Rattle.std.specs.List.{join_with_byte, list_all, slice_split}
use Rattle.std.specs.Str.{IsUtf8}
use Rattle.casebook_text.specs.SafeText.{is_safe, left_bracket, right_bracket, safe_text}
use Rattle.casebook_text.specs.declared.safe_text.Breaks.TheVariants.{Show, Words}

-- A text whose characters are all harmless. So it has no newline and no tab.
pub record IsSafeLine (bytes : List ℕ) : Type 0 where
  pub utf8 : IsUtf8 bytes
  pub characters : IsTrue (list_all (is_safe Show) (chars bytes))

-- bytes as `safe` shows them in one line
abbrev pub safe_bytes : List ℕ → List ℕ
safe_bytes bytes = encode_utf8_all (safe_text Show bytes)

-- bytes as `safe` shows them as a word
abbrev pub word_bytes : List ℕ → List ℕ
word_bytes bytes = encode_utf8_all (safe_text Words bytes)

-- a remark, between the brackets in which codes are shown
abbrev pub remark_bytes : List ℕ → List ℕ
remark_bytes remark = encode_utf8 left_bracket ++ remark ++ encode_utf8 right_bracket

-- the character U+2026
abbrev pub ellipsis : ℕ
ellipsis = 0x2026

-- ---- texts of several lines

abbrev pub line_end : ℕ
line_end = 10

abbrev pub tab_stop : ℕ
tab_stop = 9

-- lines, each with a newline after it
abbrev pub text_of_lines : List (List ℕ) → List ℕ
text_of_lines lines = flat_map (λ line. line ++ line_end ∷ []) lines

-- a row of a table: fields with tabs between them
abbrev pub row_of_fields : List (List ℕ) → List ℕ
row_of_fields fields = join_with_byte tab_stop fields

-- rows, each with a newline after it
abbrev pub text_of_rows : List (List (List ℕ)) → List ℕ
text_of_rows rows = text_of_lines (map row_of_fields rows)

-- splitting a row at tabs gives its fields, if there are any
abbrev pub AreSplit : List (List (List ℕ)) → Type 0
AreSplit [] = Unit {0}
AreSplit (fields ∷ rows) =
    (0 < length fields → slice_split (λ b. b == tab_stop) (row_of_fields fields) ≡ fields)
    × AreSplit rows
