-- The code of a set of paths.
use Rattle.std.specs.Prelude.{List}
use Rattle.std.specs.Coded.{Coded, coded_list, coded_ℕ}
use Rattle.retro_tree.specs.Path.{PathValue}

abbrev pub coded_paths : Coded (List PathValue)
coded_paths = coded_list (coded_list (coded_list coded_ℕ))
