-- Names of sessions and of directories.
use Rattle.std.specs.Prelude.{ℕ, ◌==◌, ◌&&◌, ◌||◌, Bool, false, nat_le, List, [], ◌∷◌, length}
use Rattle.std.specs.Prelude.{Option, Some, None, option_map, if◌then◌else◌}
use Rattle.std.specs.List.{list_all}
use Rattle.std.specs.Char.{is_ascii_alphanumeric}
use Rattle.retro_path.specs.Ascii.{slash}

-- '-'
abbrev pub dash : ℕ
dash = 45

-- an ASCII letter, a digit or a dash
abbrev pub is_session_byte : ℕ → Bool
is_session_byte c = is_ascii_alphanumeric c || c == dash

-- 1 to 64 such bytes
abbrev pub is_session_name : List ℕ → Bool
is_session_name bytes =
    nat_le 1 (length bytes) && (nat_le (length bytes) 64 && list_all is_session_byte bytes)

-- the session that a field names
unfoldable pub session_of : List ℕ → Option (List ℕ)
session_of field = if is_session_name field then Some field else None

-- the session that a field names, or none if the field is empty
unfoldable pub parent_of : List ℕ → Option (Option (List ℕ))
parent_of [] = Some None
parent_of (c ∷ cs) = option_map (λ name. Some name) (session_of (c ∷ cs))

-- whether a name begins with a slash
abbrev pub is_absolute : List ℕ → Bool
is_absolute [] = false
is_absolute (c ∷ cs) = c == slash

-- the directory that a field names
unfoldable pub directory_of : List ℕ → Option (List ℕ)
directory_of field = if is_absolute field then Some field else None
