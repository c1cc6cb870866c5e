-- Values whose text is read back as the same value.
use Rattle.std.specs.Prelude.{◌≡◌, Some, IsUtf8}
use Rattle.json.specs.Tree.{HasNumbers}
use Rattle.serde_json.specs.Data.{Data}
use Rattle.serde_json.specs.Read.{of_json}
use Rattle.serde_json.specs.Written.{compact_text, outline}

-- the value's JSON tree is read as the value, its numbers are JSON numbers, and its text is UTF-8
pub record IsReadBack (d : Data) : Type 0 where
  pub value : of_json (outline d) ≡ Some d
  pub numbers : HasNumbers (outline d)
  pub utf8 : IsUtf8 (compact_text d)
