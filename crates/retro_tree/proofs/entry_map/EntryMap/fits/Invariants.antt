use Rattle.std.proofs.Common.{◌≡◌}
use Rattle.std.specs.List.{list_all}
use Rattle.retro_tree.specs.Limits.{entry_fits, files_fit}
use Rattle.retro_tree.proofs.entry_map.EntryMap.fits.Given as goal

abbrev pub invariant-loop-entry : goal.invariant-loop-entry
invariant-loop-entry l = files_fit l.self ≡ list_all entry_fits l.entry-iterator
