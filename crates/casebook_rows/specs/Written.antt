-- Values as fields.
use Rattle.std.specs.Prelude.{ℕ, ◌==◌, ◌&&◌, Bool, false, not, nat_le, List, [], ◌∷◌, flat_map}
use Rattle.std.specs.Prelude.{if◌then◌else◌}
use Rattle.std.specs.Fmt.{digits}
use Rattle.percent_encoding.specs.Percent.{percent_encode_byte}
use Rattle.retro_path.specs.Path.{PathValue}
use Rattle.retro_path.specs.Slashed.{slashed}

-- octal digits
abbrev pub octal : ℕ → List ℕ
octal n = digits 8 false n

-- an ASCII letter, a digit, a blank or a mark, but not '%'
abbrev pub is_kept : ℕ → Bool
is_kept b = nat_le 32 b && nat_le b 126 && not (b == 37)

-- Any other byte is '%' and two hexadecimal digits.
abbrev pub escape : ℕ → List ℕ
escape b = if is_kept b then b ∷ [] else percent_encode_byte b

abbrev pub escaped : List ℕ → List ℕ
escaped text = flat_map escape text

-- a slash before each name, escaped
abbrev pub path_field : PathValue → List ℕ
path_field path = escaped (slashed path)
