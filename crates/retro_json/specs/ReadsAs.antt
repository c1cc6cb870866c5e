-- What a reader returns, by the definition of what it reads.
use Rattle.std.specs.Prelude.{Option, Some, None, Result, Ok, Err}
use Rattle.retro_tree.specs.OutOfMemory.{IsMeant, UnlessOutOfMemory}
use Rattle.retro_json.specs.declared.fault.Refusal.{Refusal}
use Rattle.retro_json.specs.declared.fault.LogFault.{LogFault}
use Rattle.retro_json.specs.declared.fault.LogFault.TheVariants as fault

-- the refusal of a fault, or None if memory ran out
abbrev pub refused : {Y : Type 0} → LogFault → Option (Result Y Refusal)
refused fault.NoMem = None
refused (fault.Refused refusal) = Some (Err refusal)

-- a fault is the refusal that reading gives, unless memory ran out
abbrev pub FailsAs : {Y : Type 0} → LogFault → Result Y Refusal → Type 0
FailsAs e read = IsMeant (refused e) read

-- the result, seen by `view`, is what reading gives, unless memory ran out
abbrev pub ReadsAs : {X Y : Type 0} → (X → Y) → Result X LogFault → Result Y Refusal → Type 0
ReadsAs view result read = UnlessOutOfMemory (λ x. Ok (view x)) refused result read

-- a value seen by `view`, or the refusal
abbrev pub seen : {X Y : Type 0} → (X → Y) → Result X Refusal → Result Y Refusal
seen view (Ok x) = Ok (view x)
seen view (Err refusal) = Err refusal
