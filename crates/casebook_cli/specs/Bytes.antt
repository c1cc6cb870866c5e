-- The bytes of a repair: those of a file, and those that a line prints.
use Rattle.std.specs.Prelude.{◌≡◌, ◌==◌, ⊤, ℕ, Bool, true, false, List, Option, Some, None}
use Rattle.std.specs.FinMap as map
use Rattle.std.specs.List.{list_any}
use Rattle.retro_tree.specs.declared.entry.Entry.{Entry}
use Rattle.retro_tree.specs.declared.entry.Entry.TheVariants.{Dir, File}
use Rattle.retro_keep.specs.Recording.{noted_at}
use Rattle.retro_keep.specs.declared.noted.Noted.{Noted}
use Rattle.retro_redo.specs.Repair.{repaired_state}
use Rattle.casebook_opaque.specs.Opaque.{is_opaque}
use Rattle.casebook_view.specs.Lines.{observed_in}
use Rattle.casebook_request.specs.Request.{CatRequest}
use Rattle.casebook_request.specs.declared.repair_request.BytesOf.{BytesOf}
use Rattle.casebook_request.specs.declared.repair_request.BytesOf.TheVariants as wanted
use Rattle.casebook_repairs.specs.Inputs.{InputsValue}
use Rattle.casebook_repairs.specs.Repairs.{IsAsked, asked_source}
use Rattle.casebook_repairs.specs.Stops.{StopsAsked}
use Rattle.casebook_repairs.specs.declared.repairs.AskedRepair.{AskedRepair}
use Rattle.casebook_repairs.specs.declared.stop.Stop.{Stop}
use Rattle.casebook_repairs.specs.declared.stop.Stop.TheVariants as stops

-- what there is at a path is a file with these bytes, which don't stand for something else
abbrev pub IsKeptFile : Option Entry → List ℕ → Type 0
IsKeptFile entry bytes = (entry ≡ Some (File bytes)) × (is_opaque bytes ≡ false)

-- whether a line stands as it was observed, so that it isn't known what it prints
abbrev pub is_observed : AskedRepair → ℕ → Bool
is_observed asked number = list_any (λ n. n == number) (observed_in (asked_source asked))

-- These bytes are what the line with a number prints in a repair.
pub record IsPrinted (asked : AskedRepair) (number : ℕ) (bytes : List ℕ) : Type 0 where
  pub seen : is_observed asked number ≡ false
  pub noted : Noted
  pub line : noted_at number asked.repair.recording.lines ≡ Some noted
  pub output : bytes ≡ noted.output

-- the bytes that are wanted of a repair: those of the file at a path at its end, or what a line
-- prints
abbrev pub IsBytesOf : BytesOf → AskedRepair → List ℕ → Type 0
IsBytesOf (wanted.File path) asked bytes = IsKeptFile (map.get (repaired_state asked.repair).tree path) bytes
IsBytesOf (wanted.Output number) asked bytes = IsPrinted asked number bytes

-- The bytes are those that are asked for.
pub record IsBytes (inputs : InputsValue) (request : CatRequest) (bytes : List ℕ) : Type 0 where
  pub asked : AskedRepair
  pub is_asked : IsAsked inputs request.repair asked
  pub are_bytes : IsBytesOf request.bytes asked bytes

-- ---- why there are none

-- there is no file, or one that stands for something else
abbrev pub StopsFile : Option Entry → Stop → Type 0
StopsFile entry stops.NoFile = entry ≡ None
StopsFile entry stops.NotAFile = entry ≡ Some Dir
StopsFile (Some (File bytes)) stops.NotKept = is_opaque bytes ≡ true
StopsFile entry stops.OutOfMemory = ⊤
StopsFile entry other = ⊥

-- there is no such line, it is cancelled, or it isn't known what it prints
abbrev pub StopsOutput : AskedRepair → ℕ → Stop → Type 0
StopsOutput asked number (stops.NoLine n) = (n ≡ number) × (noted_at number asked.recording.lines ≡ None)
StopsOutput asked number (stops.LineCancelled n) =
    (n ≡ number) × (noted_at number asked.repair.recording.lines ≡ None)
StopsOutput asked number (stops.UnknownOutput n) = (n ≡ number) × (is_observed asked number ≡ true)
StopsOutput asked number stops.OutOfMemory = ⊤
StopsOutput asked number other = ⊥

abbrev pub StopsBytesOf : BytesOf → AskedRepair → Stop → Type 0
StopsBytesOf (wanted.File path) asked stop = StopsFile (map.get (repaired_state asked.repair).tree path) stop
StopsBytesOf (wanted.Output number) asked stop = StopsOutput asked number stop

pub data StopsBytes (inputs : InputsValue) (request : CatRequest) (stop : Stop) : Type 0 where
  not_repaired : StopsAsked inputs request.repair stop → StopsBytes inputs request stop
  no_bytes : (asked : AskedRepair) → IsAsked inputs request.repair asked → StopsBytesOf request.bytes asked stop
      → StopsBytes inputs request stop
