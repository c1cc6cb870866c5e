-- Tables of mounts (fstab(5)), and where reading is seen.
use Rattle.std.specs.Prelude.{ℕ, ◌==◌, ◌||◌, Bool, false, not, List, [], ◌∷◌, ◌++◌, codes, nat_eq}
use Rattle.std.specs.Prelude.{filter, find, reverse, Option, Some, None}
use Rattle.std.specs.List.{filter_map, list_any, slice_split, starts_with}
use Rattle.std.specs.Option.{option_map_or}
use Rattle.retro_path.specs.Ascii.{slash}
use Rattle.retro_path.specs.Order.{text_eq}
use Rattle.retro_path.specs.Path.{PathValue}
use Rattle.retro_path.specs.Slashed.{slashed}
use Rattle.casebook_host.specs.Escapes.{unescaped}
use Rattle.casebook_host.specs.Words.{rows_of, words_of}
use Rattle.casebook_host.specs.declared.mount.Mount.{Mount}

-- ','
abbrev pub comma : ℕ
comma = 44

-- ---- the mounts of a table

-- the options of a mount in which reading isn't seen
abbrev pub hiding_options : List (List ℕ)
hiding_options =
    codes "relatime" ∷ codes "noatime" ∷ codes "nodiratime" ∷ codes "ro" ∷ []

abbrev pub hides_reading : List ℕ → Bool
hides_reading option = list_any (text_eq option) hiding_options

-- whether reading is seen in a mount with these options, which commas separate
unfoldable pub shows_reading : List ℕ → Bool
shows_reading options = not (list_any hides_reading (slice_split (λ b. b == comma) options))

-- the mount of a row with four words or more: its device, point, type and options
abbrev pub mount_of : List (List ℕ) → Option Mount
mount_of (device ∷ point ∷ kind ∷ options ∷ rest) =
    Some (record { point = unescaped point; shows_reading = shows_reading options })
mount_of _ = None

-- the mounts of a table, in the order of its rows
unfoldable pub mounts_in : List ℕ → List Mount
mounts_in table = filter_map (λ row. mount_of (words_of row)) (rows_of table)

-- ---- the mount of a path

-- Whether a point is a path or lies above it: the point is the root, or the path's text is that of
-- the point, or begins with it and a slash.
unfoldable pub covers : PathValue → List ℕ → Bool
covers path point =
    text_eq point (codes "/")
    || (text_eq (slashed path) point || starts_with nat_eq (slashed path) (point ++ slash ∷ []))

-- the mount of a path: the last one whose point is the path or lies above it
abbrev pub mount_at : List Mount → PathValue → Option Mount
mount_at mounts path = find (λ mount. covers path mount.point) (reverse mounts)

-- whether reading is seen at a path
unfoldable pub is_seen : List Mount → PathValue → Bool
is_seen mounts path = option_map_or (λ mount. mount.shows_reading) (mount_at mounts path) false

-- the folders in which reading isn't seen
unfoldable pub unseen : List ℕ → List PathValue → List PathValue
unseen table folders = filter (λ folder. not (is_seen (mounts_in table) folder)) folders
