-- The lines of a text make it.
use Rattle.std.proofs.Common.{◌≡◌, ℕ, Bool, true, false, not, nat_eq, List, [], ◌∷◌, length}
use Rattle.std.proofs.Common.{refl, sym, ap, ap₂, arith}
use Rattle.std.specs.List.{list_all}
use Rattle.std.proofs.lemmas.Bool.{and_from, and_parts, eqb-true, lt-ltb, or_right}
use Rattle.casebook_words.specs.Lines.{AreLinesOf, Line, are_closed, has_no_newline, line_of, lines_of, with_byte}

-- one more line that is only a newline
line_first : (b : ℕ) (text : List ℕ) (lines : List Line) → nat_eq b 10 ≡ true → AreLinesOf text lines
    → AreLinesOf (b ∷ text) (line_of [] true ∷ lines)
line_first b text lines is so_far = record {
  joined = ap₂ (λ x xs. x ∷ xs) (sym (eqb-true b 10 is)) so_far.joined;
  no_newlines = so_far.no_newlines;
  closed = closed_more lines so_far.closed;
}
  where
    closed_more : (ls : List Line) → are_closed ls ≡ true → are_closed (line_of [] true ∷ ls) ≡ true
    closed_more [] h = refl
    closed_more (l ∷ ls) h = h

-- one more byte of the first line
byte_first : (b : ℕ) (text : List ℕ) (lines : List Line) → nat_eq b 10 ≡ false → AreLinesOf text lines
    → AreLinesOf (b ∷ text) (with_byte b lines)
byte_first b text [] other so_far = record {
  joined = ap (λ xs. b ∷ xs) so_far.joined;
  no_newlines = and_from _ _ (and_from _ _ (ap not other) refl) refl;
  closed = refl;
}
byte_first b text (line ∷ lines) other so_far =
    let both = and_parts (has_no_newline line) (list_all has_no_newline lines) so_far.no_newlines in
    record {
      joined = ap (λ xs. b ∷ xs) so_far.joined;
      no_newlines = and_from _ _ (and_from _ _ (ap not other) both.0) both.1;
      closed = closed_more lines so_far.closed;
    }
  where
    closed_more : (ls : List Line) → are_closed (line ∷ ls) ≡ true → are_closed (line_of (b ∷ line.text) line.is_ended ∷ ls) ≡ true
    closed_more [] h = or_right line.is_ended _ (lt-ltb 0 (length (b ∷ line.text)) (omega arith))
    closed_more (l ∷ ls) h = h

pub lines_make_text : (text : List ℕ) → AreLinesOf text (lines_of text)
unfolding lines_of
lines_make_text [] = record { joined = refl; no_newlines = refl; closed = refl }
lines_make_text (b ∷ text) = go (nat_eq b 10) refl (lines_make_text text)
  where
    go : (t : Bool) → nat_eq b 10 ≡ t → AreLinesOf text (lines_of text) → AreLinesOf (b ∷ text) (lines_of (b ∷ text))
    go true is so_far = rw is (line_first b text (lines_of text) is so_far)
    go false other so_far = rw other (byte_first b text (lines_of text) other so_far)
