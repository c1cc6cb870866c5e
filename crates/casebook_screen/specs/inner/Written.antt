-- Lines that are written piece by piece.
use Rattle.std.specs.Prelude.{◌≡◌, ℕ, List, [], ◌∷◌, ◌++◌}
use Rattle.casebook_text.specs.SafeLine.{line_end, text_of_lines}
use Rattle.casebook_screen.specs.declared.written.Written.{Written}

-- what is written so far
abbrev pub written_text : Written → List ℕ
written_text w = text_of_lines w.lines.items ++ w.line

-- the lines, of which the last one ends if it has something in it
abbrev pub AreWrittenBy : List ℕ → List (List ℕ) → List (List ℕ) → Type 0
AreWrittenBy [] lines written = written ≡ lines
AreWrittenBy (b ∷ line) lines written = written ≡ lines ++ (b ∷ line) ∷ []

abbrev pub AreWritten : Written → List (List ℕ) → Type 0
AreWritten w written = AreWrittenBy w.line w.lines.items written
