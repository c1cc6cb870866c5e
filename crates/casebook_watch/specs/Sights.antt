-- The sights of one look: a finite map from paths.
use Rattle.std.specs.FinMap as finmap
use Rattle.retro_path.specs.Order.{path_cmp}
use Rattle.casebook_watch.specs.declared.sight.Sight.{Sight}

abbrev pub Sights : Type 0
Sights = finmap.FinMap path_cmp Sight
