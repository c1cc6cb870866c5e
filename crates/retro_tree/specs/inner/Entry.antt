-- The encoding of entries of a tree, which finite maps need.
use Rattle.std.specs.Prelude.{ℕ, List, Option, Some, None, refl}
use Rattle.std.specs.Coded.{Coded, code_by, coded_ℕ, coded_list, coded_option}
use Rattle.retro_tree.specs.declared.entry.Entry.{Entry}
use Rattle.retro_tree.specs.declared.entry.Entry.TheVariants.{Dir, File}

abbrev pub bytes_of : Entry → Option (List ℕ)
bytes_of Dir = None
bytes_of (File bytes) = Some bytes

abbrev pub entry_of : Option (List ℕ) → Entry
entry_of None = Dir
entry_of (Some bytes) = File bytes

abbrev pub coded_entry : Coded Entry
coded_entry =
    code_by (Option (List ℕ)) (coded_option (coded_list coded_ℕ)) bytes_of entry_of
    (elim [ Dir ↦ refl | File bytes ↦ refl ])
