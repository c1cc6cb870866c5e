-- Pairs of fields: a word, and a text or nothing.
use Rattle.std.specs.Prelude.{ℕ, ◌==◌, ◌&&◌, List, length, Option, Some, None, codes}
use Rattle.std.specs.Prelude.{if◌then◌else◌}
use Rattle.retro_path.specs.Order.{text_eq}

-- a text after one word, or nothing after the other one: there the text is empty
abbrev pub text_after : List ℕ → List ℕ → List ℕ → List ℕ → Option (Option (List ℕ))
text_after given none word text =
    if text_eq word given then Some (Some text)
    else if text_eq word none && length text == 0 then Some None
    else None

-- the text of a line, or nothing if it is hidden
unfoldable pub line_of : List ℕ → List ℕ → Option (Option (List ℕ))
line_of word text = text_after (codes "shown") (codes "hidden") word text

-- a new text, or nothing if it is that of the last record that has one
unfoldable pub change_of : List ℕ → List ℕ → Option (Option (List ℕ))
change_of word text = text_after (codes "new") (codes "same") word text
