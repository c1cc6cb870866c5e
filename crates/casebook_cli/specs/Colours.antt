-- Colours of a terminal: codes before and after a line (ECMA-48, Select Graphic Rendition).
use Rattle.std.specs.Prelude.{ℕ, ◌==◌, Bool, true, false, ◌&&◌, List, [], ◌∷◌, ◌++◌, codes, flat_map, if◌then◌else◌, nat_le}
use Rattle.casebook_text.specs.SafeLine.{line_end, text_of_lines}
use Rattle.casebook_cli.specs.declared.style.Style.{Style}
use Rattle.casebook_cli.specs.declared.style.Style.TheVariants.{Plain, Head, Added, Removed, Place}

-- how a line is shown that begins with a byte: +, -, @, or a capital letter
abbrev pub style_of_byte : ℕ → Style
style_of_byte byte =
    if byte == 43 then Added
    else if byte == 45 then Removed
    else if byte == 64 then Place
    else if nat_le 65 byte && nat_le byte 90 then Head else Plain

abbrev pub style_of : List ℕ → Style
style_of [] = Plain
style_of (byte ∷ line) = style_of_byte byte

-- an escape and [
abbrev pub begin_code : List ℕ
begin_code = 27 ∷ 91 ∷ []

-- the code before a line: bold, green, red or cyan
abbrev pub code_of : Style → List ℕ
code_of Plain = []
code_of Head = begin_code ++ codes "1m"
code_of Added = begin_code ++ codes "32m"
code_of Removed = begin_code ++ codes "31m"
code_of Place = begin_code ++ codes "36m"

-- the code after a line
abbrev pub end_of : Style → List ℕ
end_of Plain = []
end_of style = begin_code ++ codes "0m"

-- a line between the codes of a style, and a newline
abbrev pub styled : Style → List ℕ → List ℕ
styled style line = code_of style ++ line ++ end_of style ++ line_end ∷ []

abbrev pub coloured_line : List ℕ → List ℕ
coloured_line line = styled (style_of line) line

-- lines as a text, with a newline after each, and with codes if colours are wanted
abbrev pub shown_lines : Bool → List (List ℕ) → List ℕ
shown_lines false lines = text_of_lines lines
shown_lines true lines = flat_map coloured_line lines
