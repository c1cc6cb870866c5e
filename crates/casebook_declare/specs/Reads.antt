-- What a reader returns, by the definition of what it reads.
use Rattle.std.specs.Prelude.{Option, Some, None, Result, Ok, Err}
use Rattle.retro_path.specs.OutOfMemory.{UnlessOutOfMemory}
use Rattle.casebook_declare.specs.declared.declare_error.DeclareError.{DeclareError}
use Rattle.casebook_declare.specs.declared.declare_error.DeclareError.TheVariants.{CutOff, NoMem}
use Rattle.casebook_declare.specs.declared.declare_error.DeclareError.TheVariants.{NotPrinted}

-- what an error means, or None for the one that says that memory ran out
abbrev pub refused : {Y : Type 0} → DeclareError → Option (Result Y DeclareError)
refused NoMem = None
refused CutOff = Some (Err CutOff)
refused (NotPrinted row) = Some (Err (NotPrinted row))

-- the result, seen by `view`, is what reading gives, unless memory ran out
abbrev pub Reads : {X Y : Type 0} → (X → Y) → Result X DeclareError → Result Y DeclareError → Type 0
Reads view result read = UnlessOutOfMemory (λ x. Ok (view x)) refused result read
