-- What can be written to a spool and read back: what the types of the program say of it.
use Rattle.std.specs.Prelude.{All, IsTrue}
use Rattle.std.specs.FinMap as finmap
use Rattle.retro_path.specs.Path.{PathValue}
use Rattle.casebook_spool.specs.Valid.{AreBytes, IsPath, IsSight, IsTime}
use Rattle.casebook_spool.specs.declared.note.Looked.{Looked}
use Rattle.casebook_watch.specs.Sights.{Sights}
use Rattle.casebook_watch.specs.declared.sight.Sight.{Sight}
use Rattle.casebook_observe.specs.Notes.{is_read}
use Rattle.casebook_observe.specs.Worlds.{World}
use Rattle.casebook_observe.specs.declared.found.Found.{Found}
use Rattle.casebook_observe.specs.declared.found.Found.TheVariants as founds

-- what a file or a link holds
abbrev pub IsFound : Found → Type 0
IsFound (founds.Bytes bytes) = Unit {0}
IsFound (founds.Target target) = AreBytes target
IsFound (founds.Unkept why) = Unit {0}

-- a path with its sight, and what it holds if it is a file or a link
abbrev pub IsSeen : World → PathValue × Sight → Type 0
IsSeen world e =
    IsPath e.0 × IsSight e.1 × (IsTrue (is_read e.1.kind) → IsFound (world.held e.0))

abbrev pub IsLooked : Looked → Type 0
IsLooked looked = IsPath looked.path × IsTime looked.read

-- what a look finds
abbrev pub IsWritable : World → Type 0
IsWritable world = All (IsSeen world) (finmap.entries world.sights) × All IsLooked world.looked

-- a path with its sight
abbrev pub IsSightOf : PathValue × Sight → Type 0
IsSightOf e = IsPath e.0 × IsSight e.1

-- the paths of a look, with their sights
abbrev pub AreSights : Sights → Type 0
AreSights sights = All IsSightOf (finmap.entries sights)

-- the paths of a look
abbrev pub ArePaths : Sights → Type 0
ArePaths sights = All (λ e. IsPath e.0) (finmap.entries sights)
