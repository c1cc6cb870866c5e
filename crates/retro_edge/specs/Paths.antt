-- Paths that words name.
use Rattle.std.specs.Prelude.{ℕ, ◌==◌, Bool, false, List, [], ◌∷◌, Option, Some, None, if◌then◌else◌}
use Rattle.retro_path.specs.Ascii.{slash}
use Rattle.retro_path.specs.Path.{PathValue}
use Rattle.retro_path.specs.Resolving.{resolve}
use Rattle.retro_path.specs.declared.resolving.Resolved.{Resolved}
use Rattle.retro_path.specs.declared.resolving.Resolved.TheVariants.{Is, Empty, LongName}

abbrev pub begins_at_root : List ℕ → Bool
begins_at_root [] = false
begins_at_root (b ∷ text) = b == slash

abbrev pub path_resolved : Resolved → Option PathValue
path_resolved (Is path) = Some path
path_resolved Empty = None
path_resolved LongName = None

-- the path that a text names, which begins at the root
unfoldable pub path_named : List ℕ → Option PathValue
path_named text = if begins_at_root text then path_resolved (resolve [] text) else None
