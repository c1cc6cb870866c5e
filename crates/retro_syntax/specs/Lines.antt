-- Which line a text spells, and what `parse` returns for a text.
use Rattle.std.specs.Prelude.{◌≢◌, Bool, true, false, nat_le, ◌≡◌, ◌<◌, ◌≤◌, ℕ, List, [], ◌∷◌, length, Option, Some}
use Rattle.std.specs.Prelude.{None, option_map, option_and_then, if◌then◌else◌, Result, Ok, Err}
use Rattle.std.specs.Str.{chars}
use Rattle.retro_syntax.specs.Tree.{Token, Commands}
use Rattle.retro_syntax.specs.Parsing.{commands_of}
use Rattle.retro_syntax.specs.Quoting.{tokens_of}
use Rattle.retro_syntax.specs.Spells.{Spells}
use Rattle.retro_syntax.specs.Depth.{line_depth, deepest_nesting}
use Rattle.retro_syntax.specs.View as V
use Rattle.retro_syntax.specs.declared.lines.Line.{Line}
use Rattle.retro_syntax.specs.declared.syntax_error.SyntaxError.{SyntaxError}
use Rattle.retro_syntax.specs.declared.syntax_error.SyntaxError.TheVariants as s
use Rattle.retro_syntax.specs.declared.lines.Refused.{Refused}
use Rattle.retro_syntax.specs.declared.lines.Refused.TheVariants.{Unsupported, TooLong, TooDeep, NoMem}

-- the greatest length of a line, in bytes
abbrev pub longest_line : ℕ
longest_line = 4096

-- the tree of a line, None for a blank line
abbrev pub line_view : Line → Option Commands
line_view l = option_map (V.commands_of V.view) l.commands

-- The tokens spell the line. A blank line has no tokens.
abbrev pub SpellsLine : List Token → Option Commands → Type 0
SpellsLine ts None = ts ≡ []
SpellsLine ts (Some c) = Spells ts c

-- A text spells a line if its tokens (XCU 2.2, 2.3) spell it (XCU 2.4, 2.10).
pub record TextSpells (text : List ℕ) (line : Option Commands) : Type 0 where
  pub tokens : List Token
  pub lexed : tokens_of (chars text) ≡ Some tokens
  pub spelled : SpellsLine tokens line

-- the line of these tokens, as a function
abbrev pub line_of_tokens : List Token → Option (Option Commands)
line_of_tokens [] = Some None
line_of_tokens (t ∷ ts) = option_map (λ c. Some c) (commands_of (t ∷ ts))

-- the line of a text, as a function
unfoldable pub line_of : List ℕ → Option (Option Commands)
line_of text = option_and_then line_of_tokens (tokens_of (chars text))

-- ---- what `parse` returns

abbrev pub refused_of : SyntaxError → Refused
refused_of s.Unsupported = Unsupported
refused_of s.NoMem = NoMem

-- What each result of `parse` says of the text. The refusals are in this order: too long, no line,
-- too deep.
abbrev pub Meets : List ℕ → Result Line Refused → Type 0
Meets text (Ok line) =
    (length text ≤ longest_line) × TextSpells text (line_view line) × (line_depth (line_view line) ≤ deepest_nesting)
Meets text (Err Unsupported) =
    (length text ≤ longest_line) × ((line : Option Commands) → TextSpells text line → ⊥)
Meets text (Err TooDeep) =
    (length text ≤ longest_line)
    × ((line : Option Commands) × TextSpells text line × (deepest_nesting < line_depth line))
Meets text (Err TooLong) = longest_line < length text
Meets text (Err NoMem) = Unit {0}

abbrev pub if_shallow : Option Commands → Option (Option Commands)
if_shallow line = if nat_le (line_depth line) deepest_nesting then Some line else None

abbrev pub if_short : Bool → List ℕ → Option (Option Commands)
if_short true text = option_and_then if_shallow (line_of text)
if_short false text = None

-- the line that `parse` returns for a text, as a function; None for a text that is refused
unfoldable pub parsed : List ℕ → Option (Option Commands)
parsed text = if_short (nat_le (length text) longest_line) text

-- what each result of `parse` says of the text, by the function
abbrev pub Answers : List ℕ → Result Line Refused → Type 0
Answers text (Ok line) = parsed text ≡ Some (line_view line)
Answers text (Err Unsupported) = parsed text ≡ None
Answers text (Err TooDeep) = parsed text ≡ None
Answers text (Err TooLong) = parsed text ≡ None
Answers text (Err NoMem) = Unit {0}

-- The text spells the line, and both keep the limits.
pub record SpellsWithin (text : List ℕ) (line : Option Commands) : Type 0 where
  pub short : length text ≤ longest_line
  pub spelled : TextSpells text line
  pub shallow : line_depth line ≤ deepest_nesting

-- The answer is a result of `parse` for the text, and isn't `NoMem`.
pub record IsAnswer (text : List ℕ) (answer : Result Line Refused) : Type 0 where
  pub meets : Meets text answer
  pub function : Answers text answer
  pub answered : answer ≢ Err NoMem
