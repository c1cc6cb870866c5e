-- Values that are cut to a limit. No character is split, unless the bytes aren't UTF-8.
use Rattle.std.specs.Prelude.{ℕ, ◌-◌, Bool, not, ◌&&◌, nat_le, nat_lt, List, ◌++◌, length, take}
use Rattle.std.specs.Prelude.{encode_utf8, if◌then◌else◌, slice_index, [], unwrap_or}
use Rattle.std.specs.List.{slice_get}
use Rattle.casebook_text.specs.SafeLine.{ellipsis, safe_bytes}
use Rattle.casebook_words.specs.Lines.{texts_in}

-- a byte that continues a character in UTF-8
abbrev pub continues : ℕ → Bool
continues b = nat_le 128 b && nat_lt b 192

-- whether a character may begin at a place, or the bytes end there
unfoldable pub may_begin : List ℕ → ℕ → Bool
may_begin bytes i = not (continues (slice_index bytes i))

-- the last place, at the limit or up to three bytes before it, where a character may begin, or the
-- limit if there is none
unfoldable pub cut_end : ℕ → List ℕ → ℕ
cut_end limit bytes =
    if may_begin bytes limit then limit
    else if may_begin bytes (limit - 1) then limit - 1
    else if may_begin bytes (limit - 2) then limit - 2
    else if may_begin bytes (limit - 3) then limit - 3 else limit

-- all bytes, or those before the cut and an ellipsis
unfoldable pub cut_words : ℕ → List ℕ → List ℕ
cut_words limit bytes =
    if nat_le (length bytes) limit then safe_bytes bytes
    else safe_bytes (take (cut_end limit bytes) bytes) ++ encode_utf8 ellipsis

-- the first line of a text, or nothing if it has none
abbrev pub first_text : List ℕ → List ℕ
first_text text = unwrap_or (slice_get (texts_in text) 0) []
