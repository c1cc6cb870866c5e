-- An error of a step is that of the steps from it on.
use Rattle.std.proofs.Common.{Result, ap}
use Rattle.retro_path.specs.OutOfMemory.{IsMeant}
use Rattle.casebook_record.specs.Reads.{◌>>=◌, refused}
use Rattle.casebook_record.specs.declared.record_error.RecordError.{RecordError}
use Rattle.casebook_record.specs.declared.record_error.RecordError.TheVariants.{CutOff, NoMem, TooMany, UnknownKind, Wrong}

pub passes : {A B : Type 0} (e : RecordError) (read : Result A RecordError) (f : A → Result B RecordError)
    → IsMeant (refused e) read → IsMeant (refused e) (read >>= f)
passes NoMem read f h = tt
passes CutOff read f h = ap (λ r. r >>= f) h
passes TooMany read f h = ap (λ r. r >>= f) h
passes UnknownKind read f h = ap (λ r. r >>= f) h
passes (Wrong field) read f h = ap (λ r. r >>= f) h
