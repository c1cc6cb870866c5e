-- What a reader returns, by the definition of what it reads.
use Rattle.std.specs.Prelude.{◌≡◌, Result, Ok, Err}
use Rattle.casebook_script.specs.declared.fault.TableFault.{TableFault}
use Rattle.casebook_script.specs.declared.fault.TableFault.TheVariants as faults

-- a fault is the one that reading gives, unless memory ran out
abbrev pub FailsAs : {Y : Type 0} → TableFault → Result Y TableFault → Type 0
FailsAs faults.NoMem read = Unit {0}
FailsAs fault read = read ≡ Err fault

-- the result, seen by `view`, is what reading gives, unless memory ran out
abbrev pub Reads : {X Y : Type 0} → (X → Y) → Result X TableFault → Result Y TableFault → Type 0
Reads view (Ok x) read = read ≡ Ok (view x)
Reads view (Err fault) read = FailsAs fault read
