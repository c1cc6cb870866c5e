-- The cells of a row, and numbers in cells.
use Rattle.std.specs.Prelude.{ℕ, ◌==◌, Bool, true, false, List, [], ◌∷◌, ◌++◌, Option, Some, None}
use Rattle.std.specs.Prelude.{Result, codes, if◌then◌else◌, ok_or, option_map}
use Rattle.std.specs.List.{slice_split}
use Rattle.retro_text.specs.Ascii.{tab}
use Rattle.retro_text.specs.Numbers.{number_in}
use Rattle.casebook_script.specs.Ascii.{backslash, letter_n, letter_r, letter_t, zero_digit}
use Rattle.casebook_script.specs.Steps.{each}
use Rattle.casebook_script.specs.declared.fault.RowFault.{RowFault}
use Rattle.casebook_script.specs.declared.fault.RowFault.TheVariants.{Escape}

-- what a character after a backslash stands for
abbrev pub escaped : ℕ → Option (List ℕ)
escaped c =
    if c == letter_t then Some (codes "\t")
    else if c == letter_n then Some (codes "\n")
    else if c == letter_r then Some (codes "\r")
    else if c == backslash then Some (codes "\\")
    else None

-- what a text is after a character that it begins with
abbrev pub after_char : ℕ → List ℕ → Option (List ℕ)
after_char c [] = None
after_char c (d ∷ ds) = if d == c then Some ds else None

-- what the text after a backslash begins with, and the rest
abbrev pub escape_in : List ℕ → Option (List ℕ × List ℕ)
escape_in [] = None
escape_in (c ∷ cs) = option_map (λ text. (text, cs)) (escaped c)

-- the texts before and after the first such character, if there is one
unfoldable pub cut_at : ℕ → List ℕ → Option (List ℕ × List ℕ)
cut_at c [] = None
cut_at c (d ∷ ds) =
    if d == c then Some ([], ds) else option_map (λ cut. (d ∷ cut.0, cut.1)) (cut_at c ds)

-- two texts, one after the other
abbrev pub joined : Option (List ℕ) → Option (List ℕ) → Option (List ℕ)
joined (Some front) (Some rest) = Some (front ++ rest)
joined (Some front) None = None
joined None rest = None

-- what the rest of a cell stands for, by whether a backslash precedes it
unfoldable pub unescaped : Bool → List ℕ → Option (List ℕ)
unescaped false [] = Some []
unescaped true [] = None
unescaped true (c ∷ cs) = joined (escaped c) (unescaped false cs)
unescaped false (c ∷ cs) =
    if c == backslash then unescaped true cs else joined (Some (c ∷ [])) (unescaped false cs)

-- the text that a cell stands for
abbrev pub text_of : List ℕ → Result (List ℕ) RowFault
text_of cell = ok_or (unescaped false cell) Escape

-- the texts of the cells of a row
abbrev pub cells_of : List ℕ → Result (List (List ℕ)) RowFault
cells_of row = each text_of (slice_split (λ b. b == tab) row)

-- ---- numbers

-- two characters and more, of which the first is a zero
abbrev pub has_leading_zero : List ℕ → Bool
has_leading_zero (c ∷ d ∷ rest) = c == zero_digit
has_leading_zero _ = false

-- a decimal number of 32 bits, without a sign and without leading zeros
abbrev pub number_of : List ℕ → Option ℕ
number_of text = if has_leading_zero text then None else number_in text
