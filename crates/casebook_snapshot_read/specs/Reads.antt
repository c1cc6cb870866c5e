-- What a reader returns, by the definition of what it reads.
use Rattle.std.specs.Prelude.{◌≡◌, Result, Ok, Err, Bool, ⊤, if◌then◌else◌}
use Rattle.retro_value.specs.declared.error.ReadError.{ReadError}
use Rattle.retro_value.specs.declared.error.ReadError.TheVariants as errors
use Rattle.casebook_snapshot_read.specs.declared.fault.SnapshotFault.{SnapshotFault}
use Rattle.casebook_snapshot_read.specs.declared.fault.SnapshotFault.TheVariants as faults

abbrev pub fault_of_read : ReadError → SnapshotFault
fault_of_read errors.NoMem = faults.NoMem
fault_of_read errors.NotJson = faults.NotJson

-- a fault is the one that reading gives, unless memory ran out
abbrev pub FailsAs : {Y : Type 0} → SnapshotFault → Result Y SnapshotFault → Type 0
FailsAs faults.NoMem read = Unit {0}
FailsAs fault read = read ≡ Err fault

-- the result, seen by `view`, is what reading gives, unless memory ran out
abbrev pub Reads : {X Y : Type 0} → (X → Y) → Result X SnapshotFault → Result Y SnapshotFault → Type 0
Reads view (Ok x) read = read ≡ Ok (view x)
Reads view (Err fault) read = FailsAs fault read

-- ---- step by step: the first fault ends it

infixl 10 ◌>>=◌
abbrev pub ◌>>=◌ : {A B : Type 0} → Result A SnapshotFault → (A → Result B SnapshotFault) → Result B SnapshotFault
(Ok x) >>= f = f x
(Err e) >>= f = Err e

-- the fault, if a test fails
abbrev pub guard : Bool → SnapshotFault → Result ⊤ SnapshotFault
guard holds fault = if holds then Ok tt else Err fault
