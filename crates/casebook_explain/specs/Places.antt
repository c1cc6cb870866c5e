-- What a recording keeps below /.casebook, which isn't on the machine.
use Rattle.std.specs.Prelude.{ℕ, Bool, [], ◌∷◌, codes, decimal, is_some}
use Rattle.retro_path.specs.Path.{PathValue, below}

-- /.casebook
unfoldable pub casebook : PathValue
casebook = codes ".casebook" ∷ []

-- whether a path is /.casebook or below it
abbrev pub is_ours : PathValue → Bool
is_ours p = is_some (below casebook p)

-- /.casebook/LINE, the directory of a line's shelf
unfoldable pub shelf_directory : ℕ → PathValue
shelf_directory line = codes ".casebook" ∷ decimal line ∷ []

-- /.casebook/LINE/NUMBER, a file on it
unfoldable pub shelf_path : ℕ → ℕ → PathValue
shelf_path line number = codes ".casebook" ∷ decimal line ∷ decimal number ∷ []

-- /.casebook/shell/SESSION, the functions, aliases and options of a session
unfoldable pub shell_path : ℕ → PathValue
shell_path session = codes ".casebook" ∷ codes "shell" ∷ decimal session ∷ []
