-- The code of next uses.
use Rattle.std.specs.Prelude.{List}
use Rattle.std.specs.Coded.{Coded, coded×, coded_list, coded_ℕ}
use Rattle.retro_tree.specs.CellOrder.{coded_cell}
use Rattle.retro_difference.specs.NextUses.{Use}

-- entries are stored as pairs
abbrev pub coded_uses : Coded (List Use)
coded_uses = coded_list (coded× coded_ℕ coded_cell)
