-- What readers of a spool return.
use Rattle.std.specs.Prelude.{Option, Some, None, Result, Ok, Err}
use Rattle.retro_path.specs.OutOfMemory.{UnlessOutOfMemory}
use Rattle.casebook_observe.specs.declared.observe_error.ObserveError.{ObserveError}
use Rattle.casebook_observe.specs.declared.observe_error.ObserveError.TheVariants as errors

-- what an error says of a spool, or None if memory ran out or the system refused
abbrev pub refused : {A : Type 0} → ObserveError → Option (Result A ObserveError)
refused errors.NoMem = None
refused (errors.Spool error) = None
refused error = Some (Err error)

-- the result is what the spool is read as, unless memory ran out or the system refused
abbrev pub ReadsLook : {A : Type 0} → Result A ObserveError → Result A ObserveError → Type 0
ReadsLook result read = UnlessOutOfMemory (λ x. Ok x) refused result read

-- nothing is read, or what the look is
abbrev pub as_listed : {A : Type 0} → Option A → Option (Result A ObserveError)
as_listed None = None
as_listed (Some x) = Some (Ok x)

abbrev pub refused_listed : {A : Type 0} → ObserveError → Option (Option (Result A ObserveError))
refused_listed errors.NoMem = None
refused_listed (errors.Spool error) = None
refused_listed error = Some (Some (Err error))

-- the same of a look that there may not be
abbrev pub ReadsListed : {A : Type 0} → Result (Option A) ObserveError
    → Option (Result A ObserveError) → Type 0
ReadsListed result read = UnlessOutOfMemory as_listed refused_listed result read
