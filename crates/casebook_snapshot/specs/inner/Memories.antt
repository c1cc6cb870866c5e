-- A listing in memory: what its entries say, of which the first of a name in a directory counts.
use Rattle.std.specs.Prelude.{◌≡◌, ◌⊎◌, ℕ, Bool, ◌&&◌, false, if◌then◌else◌, List, [], ◌∷◌, ◌++◌}
use Rattle.std.specs.Prelude.{Option, Some}
use Rattle.std.specs.Prelude.{None}
use Rattle.retro_path.specs.Order.{path_eq, text_eq}
use Rattle.retro_path.specs.Path.{PathValue, last_of, parent_of}
use Rattle.casebook_snapshot.specs.Items.{Contents, is_missing}
use Rattle.casebook_snapshot.specs.Children.{ArePresent, IsNamed}
use Rattle.casebook_snapshot.specs.declared.child.Child.{Child}
use Rattle.casebook_snapshot.specs.declared.item.Item.{Item}
use Rattle.casebook_snapshot.specs.declared.item.Item.TheVariants.{Missing}
use Rattle.casebook_snapshot.specs.declared.memory.MemoryEntry.{MemoryEntry}

-- whether an entry is of a name in a directory
abbrev pub is_of : MemoryEntry → PathValue → List ℕ → Bool
is_of e p n = path_eq e.child.parent p && text_eq e.child.name.items n

abbrev pub item_in : List MemoryEntry → PathValue → List ℕ → Item
item_in [] p n = Missing
item_in (e ∷ es) p n = if is_of e p n then e.item else item_in es p n

abbrev pub item_by : Item → List MemoryEntry → PathValue → Option (List ℕ) → Item
item_by root es p None = root
item_by root es p (Some n) = item_in es p n

abbrev pub contents_of : Item → List MemoryEntry → Contents
contents_of root es q = item_by root es (parent_of q) (last_of q)

-- the children of a directory that some entries don't have any more
pub record AreChildrenBut (f : Contents) (p : PathValue) (es : List MemoryEntry) (cs : List Child)
    : Type 0 where
  pub sound : ArePresent f p cs
  pub complete : (n : List ℕ) → is_missing (f (p ++ n ∷ [])) ≡ false
      → IsNamed cs n ⊎ (is_missing (item_in es p n) ≡ false)
