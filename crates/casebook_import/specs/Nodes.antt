-- What a path holds in a state, by its sight and by what an observation says that it holds.
use Rattle.std.specs.Prelude.{ℕ, List, [], ◌∷◌, codes, decimal, Option, Some, None}
use Rattle.std.specs.Fmt.{signed_decimal}
use Rattle.std.specs.FinMap as finmap
use Rattle.hex.specs.Hex.{encode_lower}
use Rattle.retro_tree.specs.declared.node.Node.{Node}
use Rattle.retro_tree.specs.declared.node.Node.TheVariants.{Missing, Dir, File}
use Rattle.casebook_rows.specs.Written.{escaped}
use Rattle.casebook_watch.specs.declared.kind.Kind.{Kind}
use Rattle.casebook_watch.specs.declared.kind.Kind.TheVariants as kinds
use Rattle.casebook_watch.specs.declared.sight.Sight.{Sight}
use Rattle.casebook_spool.specs.declared.content.Content.{Content}
use Rattle.casebook_spool.specs.declared.content.Content.TheVariants as contents
use Rattle.casebook_spool.specs.declared.content.Unkept.{Unkept}
use Rattle.casebook_spool.specs.declared.content.Unkept.TheVariants as unkepts
use Rattle.casebook_spool.specs.Held.{Held}
use Rattle.casebook_import.specs.Opaque.{opaque}

-- What tells a file from others, and from itself once it was changed: its size, its number, and the
-- second and nanosecond of its last change.
abbrev pub version : Sight → List (List ℕ)
version sight =
    decimal sight.size ∷ decimal sight.number
    ∷ signed_decimal sight.changed.second ∷ decimal sight.changed.nanosecond ∷ []

-- why the bytes of a file aren't kept
abbrev pub unkept_text : Unkept → List ℕ
unkept_text unkepts.TooLarge = codes "a file that is too large"
unkept_text unkepts.Unreadable = codes "a file that can't be read"
unkept_text unkepts.Changing = codes "a file that changes"

-- bytes by their digest
abbrev pub kept_bytes : List ℕ → Option (List ℕ) → List ℕ
kept_bytes digest None = opaque (codes "bytes that are missing") (encode_lower digest ∷ [])
kept_bytes digest (Some bytes) = bytes

-- the bytes that the file of a state has
unfoldable pub bytes_by : Held → Sight → Option Content → List ℕ
bytes_by held sight None = opaque (codes "neither a file nor a directory") (version sight)
bytes_by held sight (Some (contents.Kept digest)) =
    kept_bytes digest.bytes (finmap.get held digest.bytes)
bytes_by held sight (Some (contents.Target target)) =
    opaque (codes "a link") (escaped target ∷ [])
bytes_by held sight (Some (contents.Unkept why)) = opaque (unkept_text why) (version sight)

-- what is at a path, by its kind: whatever isn't a directory is a file
abbrev pub node_by : Kind → List ℕ → Node
node_by kinds.Dir bytes = Dir
node_by kinds.File bytes = File bytes
node_by kinds.Link bytes = File bytes
node_by kinds.Other bytes = File bytes

-- what is at a path that has a sight, or none if nothing is there
abbrev pub node_of : Held → Option Sight → Option Content → Node
node_of held None content = Missing
node_of held (Some sight) content = node_by sight.kind (bytes_by held sight content)
