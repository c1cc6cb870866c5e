-- The lines of a file, read one by one.
use Rattle.std.specs.Prelude.{◌≡◌, ℕ, false, List, ◌++◌, ◌==◌, map}
use Rattle.std.specs.List.{All, list_any}
use Rattle.std.specs.Prelude.{IsUtf8}
use Rattle.std.specs.Borrow.{Bor}
use Rattle.retro_path.specs.Ascii.{nul}
use Rattle.casebook_patch.specs.Lines.{lines_of}

-- borrowed lines
abbrev pub texts_of : List (Bor (List ℕ)) → List (List ℕ)
texts_of lines = map (λ line. line.now) lines

-- The first lines of a file without NUL are read, and each is UTF-8.
pub record AreRead (bytes rest : List ℕ) (lines : List (List ℕ)) : Type 0 where
  pub no_nul : list_any (λ b. b == nul) bytes ≡ false
  pub read : lines ++ lines_of rest ≡ lines_of bytes
  pub utf8 : All IsUtf8 lines
