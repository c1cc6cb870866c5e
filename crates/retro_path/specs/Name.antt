-- The names of files: which texts can be one, and their maximum length.
use Rattle.std.specs.Prelude.{ℕ, ◌==◌, Bool, not, ◌&&◌, ◌||◌, IsTrue, List, length, nat_le, codes}
use Rattle.std.specs.List.{list_any, list_all}
use Rattle.retro_path.specs.Ascii.{slash}
use Rattle.retro_path.specs.Order.{text_eq}

-- the maximum length of a name, in bytes
abbrev pub name_limit : ℕ
name_limit = 255

-- 1 to 255 bytes without a slash, but not "." or ".."
unfoldable pub is_name : List ℕ → Bool
is_name bs =
    nat_le 1 (length bs)
    && (nat_le (length bs) name_limit
    && (not (list_any (λ b. b == slash) bs)
    && not (text_eq bs (codes ".") || text_eq bs (codes ".."))))

abbrev pub AllNames : List (List ℕ) → Type 0
AllNames names = IsTrue (list_all is_name names)
