-- Which errors a listing itself returns.
use Rattle.std.specs.Prelude.{Bool, true, false}
use Rattle.casebook_snapshot.specs.declared.error.SnapshotError.{SnapshotError}
use Rattle.casebook_snapshot.specs.declared.error.SnapshotError.TheVariants.{NoMem, Failed}
use Rattle.casebook_snapshot.specs.declared.error.SnapshotError.TheVariants.{NotADirectory}

-- whether looking at a folder may return the error
abbrev pub is_of_listing : SnapshotError → Bool
is_of_listing NoMem = true
is_of_listing Failed = true
is_of_listing NotADirectory = false
