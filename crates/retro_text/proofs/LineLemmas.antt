-- Lines, by the first newline.
use Rattle.std.proofs.Common.{◌≡◌, ◌≢◌, ℕ, ◌+◌, ◌==◌, List, [], ◌∷◌, length, take, drop, Some, None, refl, sym, ap}
use Rattle.std.proofs.Common.{◌∙◌, ◌-◌, ◌<◌, arith}
use Rattle.std.specs.List.{slice_split}
use Rattle.std.proofs.lemmas.List.Splits.{length-slice_split}
use Rattle.std.proofs.lemmas.List.{take_rest}
use Rattle.memchr.specs.Find.{IsFirstByte, is_byte}
use Rattle.retro_text.specs.Lines.{lines_in, lines_of_pieces}
use Rattle.retro_text.proofs.FirstByte.{pieces_more, pieces_last}

-- a split gives at least one piece
first_piece : (text line : List ℕ)
    → lines_of_pieces (line ∷ slice_split (λ x. x == 10) text)
    ≡ line ∷ lines_of_pieces (slice_split (λ x. x == 10) text)
first_piece text line = go (slice_split (λ x. x == 10) text) (some text)
  where
    go : (pieces : List (List ℕ)) → pieces ≢ []
        → lines_of_pieces (line ∷ pieces) ≡ line ∷ lines_of_pieces pieces
    go [] filled = absurd (filled refl)
    go (next ∷ pieces) filled = refl

    some : (xs : List ℕ) → slice_split (λ x. x == 10) xs ≢ []
    some xs e =
        let none : length (slice_split (λ x. x == 10) xs) ≡ 0 = ap length e in
        absurd (omega (arith, none, length-slice_split (λ x. x == 10) xs))

pub no_lines : lines_in [] ≡ []
unfolding lines_in
no_lines = refl

pub line_more : (text : List ℕ) (k : ℕ) → IsFirstByte (is_byte 10) text (Some k)
    → lines_in text ≡ take k text ∷ lines_in (drop (k + 1) text)
unfolding lines_in
line_more text k h = ap lines_of_pieces (pieces_more 10 text k h) ∙ first_piece (drop (k + 1) text) (take k text)

-- the same, as the code slices the text
pub line_split : (text : List ℕ) (k : ℕ) → IsFirstByte (is_byte 10) text (Some k)
    → lines_in text ≡ take k text ∷ lines_in (take (length text - (k + 1)) (drop (k + 1) text))
line_split text k h = line_more text k h ∙ ap (λ rest. take k text ∷ lines_in rest) (sym (take_rest text (k + 1)))

pub one_line_less : (text : List ℕ) (k : ℕ) → IsFirstByte (is_byte 10) text (Some k)
    → length (lines_in (take (length text - (k + 1)) (drop (k + 1) text))) < length (lines_in text)
one_line_less text k h = omega (arith, ap length (line_split text k h))

pub line_last : (text : List ℕ) → length text ≢ 0 → IsFirstByte (is_byte 10) text None → lines_in text ≡ text ∷ []
unfolding lines_in
line_last [] some h = absurd (some refl)
line_last (b ∷ text) some h = ap lines_of_pieces (pieces_last 10 (b ∷ text) h)

pub empty_text : (text : List ℕ) → length text ≡ 0 → lines_in text ≡ []
empty_text [] e = no_lines
empty_text (b ∷ text) e = absurd (omega (arith, e))

pub ruleset first_line = (no_lines, empty_text, line_split, one_line_less, line_last)
