-- What a look at watched folders finds.
use Rattle.std.specs.Prelude.{List}
use Rattle.retro_path.specs.Path.{PathValue}
use Rattle.casebook_spool.specs.declared.note.Looked.{Looked}
use Rattle.casebook_watch.specs.Sights.{Sights}
use Rattle.casebook_observe.specs.declared.found.Found.{Found}

-- What a look finds: the sight of each path, what files and links hold, and the times of last
-- reading that the look itself leaves.
pub record World : Type 0 where
  pub sights : Sights
  pub held : PathValue → Found
  pub looked : List Looked
