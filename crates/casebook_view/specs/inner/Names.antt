-- Names of the directories above the password file.
use Rattle.std.specs.Prelude.{ℕ, Bool, false, List, Option, Some, None, codes}
use Rattle.retro_tree.specs.Order.{text_eq}

-- whether there is a name, and it is that of the directory of the password file
abbrev pub is_etc : Option (List ℕ) → Bool
is_etc None = false
is_etc (Some name) = text_eq name (codes "etc")
