-- Sets of names, as references to them.
use Rattle.std.specs.Prelude.{ℕ, Bool, List}
use Rattle.std.specs.Borrow.{Bor}
use Rattle.std.specs.BTreeMap.{is_at}
use Rattle.std.specs.List.{list_any}
use Rattle.retro_tree.specs.Order.{text_cmp}

-- whether a name is one of a set's
abbrev pub has_name : List ℕ → List (Bor (List ℕ)) → Bool
has_name name keys = list_any (is_at (λ (key : Bor (List ℕ)). text_cmp name key.now)) keys
