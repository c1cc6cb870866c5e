-- What a look-up gives.
use Rattle.std.specs.Prelude.{ℕ}
use Rattle.retro_tree.specs.Cell.{value}
use Rattle.retro_tree.specs.declared.cell.Cell.{Cell}
use Rattle.retro_tree.specs.declared.value.Value.{Value}
use Rattle.retro_tree.specs.ValueRef.{ref_value}
use Rattle.retro_keep.specs.Recording.{RecordingValue}
use Rattle.retro_keep.specs.Recorded.{lines_below}
use Rattle.retro_history.specs.inner.Tracks.{VersionValue, current, whole_version}
use Rattle.retro_history.specs.declared.version_ref.VersionRef.{VersionRef}

-- the checkpoint and the value of a borrowed version
abbrev pub version_ref_parts : VersionRef → ℕ × Value
version_ref_parts version = (version.checkpoint, ref_value version.value)

-- the checkpoint and the value of a version
abbrev pub version_parts : VersionValue → ℕ × Value
version_parts v = (v.checkpoint, v.value)

-- the checkpoint and the value of a cell before a number, by what its track gives
abbrev pub parts_before : Cell → ℕ → RecordingValue → ℕ × Value
parts_before c number r = version_parts (current c (lines_below number r.lines) (whole_version 0 (value c r.first)))
