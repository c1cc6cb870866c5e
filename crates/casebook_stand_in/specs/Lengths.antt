-- The lengths of texts.
use Rattle.std.specs.Prelude.{ℕ, Bool, List, nat_le, length}
use Rattle.retro_syntax.specs.Lines.{longest_line}

-- whether a text isn't too long for a line
abbrev pub is_short : List ℕ → Bool
is_short text = nat_le (length text) longest_line
