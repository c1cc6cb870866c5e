-- What stands in a state for bytes that a spool doesn't have, or that a state can't hold.
use Rattle.std.specs.Prelude.{ℕ, List, ◌++◌}
use Rattle.casebook_opaque.specs.Opaque.{opaque_mark}
use Rattle.casebook_rows.specs.Rows.{row_text}

-- the mark, what it is, and fields that tell it from others
unfoldable pub opaque : List ℕ → List (List ℕ) → List ℕ
opaque what fields = row_text (opaque_mark ++ what) fields
