-- What a call returns that reads a utility's fields.
use Rattle.std.specs.Prelude.{Option, Some, None, Result}
use Rattle.retro_path.specs.OutOfMemory.{UnlessOutOfMemory}
use Rattle.retro_text.specs.declared.usage.UsageError.{UsageError}
use Rattle.retro_text.specs.declared.usage.UsageError.TheVariants.{Usage, NoMem}

-- the meaning of an error in definitions: an error that says that memory ran out means nothing
abbrev pub refused : {M : Type 0} → UsageError → Option (Option M)
refused Usage = Some None
refused NoMem = None

-- the meant value, or the usage error if there is none
abbrev pub Reads : {X M : Type 0} → (X → M) → Result X UsageError → Option M → Type 0
Reads value result meant = UnlessOutOfMemory (λ x. Some (value x)) refused result meant
