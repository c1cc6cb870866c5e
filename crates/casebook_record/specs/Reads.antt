-- What a reader returns, by the definition of what it reads.
use Rattle.std.specs.Prelude.{Option, Some, None, Result, Ok, Err}
use Rattle.retro_path.specs.OutOfMemory.{UnlessOutOfMemory}
use Rattle.casebook_record.specs.declared.record_error.RecordError.{RecordError}
use Rattle.casebook_record.specs.declared.record_error.RecordError.TheVariants.{NoMem, CutOff}
use Rattle.casebook_record.specs.declared.record_error.RecordError.TheVariants.{TooMany, Wrong}
use Rattle.casebook_record.specs.declared.record_error.RecordError.TheVariants.{UnknownKind}

-- what an error means, or None for the one that says that memory ran out
abbrev pub refused : {Y : Type 0} → RecordError → Option (Result Y RecordError)
refused NoMem = None
refused CutOff = Some (Err CutOff)
refused TooMany = Some (Err TooMany)
refused UnknownKind = Some (Err UnknownKind)
refused (Wrong field) = Some (Err (Wrong field))

-- the result, seen by `view`, is what reading gives, unless memory ran out
abbrev pub Reads : {X Y : Type 0} → (X → Y) → Result X RecordError → Result Y RecordError → Type 0
Reads view result read = UnlessOutOfMemory (λ x. Ok (view x)) refused result read

infixl 10 ◌>>=◌
-- what reading gives, and what comes after it, unless there is an error
abbrev pub ◌>>=◌ : {A B : Type 0} → Result A RecordError → (A → Result B RecordError)
    → Result B RecordError
(Ok x) >>= f = f x
(Err error) >>= f = Err error
