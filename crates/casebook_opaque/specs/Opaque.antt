-- What stands in a state for bytes that a spool doesn't have, or that a state can't hold.
use Rattle.std.specs.Prelude.{ℕ, ◌==◌, Bool, List, codes, drop, length, nat_eq, position, take}
use Rattle.std.specs.Prelude.{Option, Some, None}
use Rattle.std.specs.List.{starts_with}

-- the text with which all that stands for something else begins
unfoldable pub opaque_mark : List ℕ
opaque_mark = codes "not kept by casebook: "

-- whether bytes stand for something else
abbrev pub is_opaque : List ℕ → Bool
is_opaque bytes = starts_with nat_eq bytes opaque_mark

-- a tab, which ends what is said
abbrev pub tab : ℕ
tab = 9

abbrev pub is_tab : ℕ → Bool
is_tab b = b == tab

abbrev pub up_to : Option ℕ → List ℕ → List ℕ
up_to None bytes = bytes
up_to (Some n) bytes = take n bytes

-- what precedes the first tab, or all if there is none
abbrev pub before_tab : List ℕ → List ℕ
before_tab bytes = up_to (position is_tab bytes) bytes

-- what bytes say that they stand for, if they do: what follows the mark, up to a tab
unfoldable pub stands_for : List ℕ → List ℕ
stands_for bytes = before_tab (drop (length opaque_mark) bytes)
