-- Versions as the code stores them, where a file that has grown is a range of a buffer.
use Rattle.std.specs.Prelude.{◌≡◌, ℕ, ◌-◌, ◌≤◌, List, [], ◌∷◌, drop, take, length}
use Rattle.retro_tree.specs.declared.value.Value.{Value}
use Rattle.retro_tree.specs.declared.value.Value.TheVariants as values
use Rattle.retro_tree.specs.declared.node.Node.TheVariants as nodes
use Rattle.retro_tree.specs.ValueRef.{ref_value}
use Rattle.retro_history.specs.inner.Tracks.{VersionValue}
use Rattle.retro_history.specs.declared.place.ValuePlace.{ValuePlace}
use Rattle.retro_history.specs.declared.place.ValuePlace.TheVariants.{Borrowed, Buffer}
use Rattle.retro_history.specs.declared.version.Version.{Version}

-- the value at a place
abbrev pub place_value : List ℕ → ValuePlace → Value
place_value buffer (Borrowed v) = ref_value v
place_value buffer (Buffer span) =
    values.Node (nodes.File (take (span.end - span.start) (drop span.start buffer)))

-- a version with its value
abbrev pub version_value : List ℕ → Version → VersionValue
version_value buffer v = record {
  number = v.number;
  checkpoint = v.checkpoint;
  growths = v.growths;
  value = place_value buffer v.place;
}

-- a range is within the first n bytes of a buffer
abbrev pub IsWithin : ℕ → ValuePlace → Type 0
IsWithin n (Borrowed v) = Unit {0}
IsWithin n (Buffer span) = (span.start ≤ span.end) × (span.end ≤ n)

-- a range ends where the n bytes of a buffer end
abbrev pub EndsAt : ℕ → ValuePlace → Type 0
EndsAt n (Borrowed v) = Unit {0}
EndsAt n (Buffer span) = (span.start ≤ span.end) × (span.end ≡ n)

abbrev pub AreWithin : ℕ → List Version → Type 0
AreWithin n [] = Unit {0}
AreWithin n (v ∷ vs) = IsWithin n v.place × AreWithin n vs

-- all ranges are within the buffer, and the range of the last version ends where the buffer ends
pub record RangesFit (versions : List Version) (newest : Version) (buffer : List ℕ) : Type 0 where
  pub earlier : AreWithin (length buffer) versions
  pub last : EndsAt (length buffer) newest.place
