-- Why a record isn't taken.
use Rattle.std.specs.Prelude.{◌≡◌, ℕ, Bool, true, false, List, Result, Err}
use Rattle.casebook_record.specs.Records.{record_of}
use Rattle.casebook_observe.specs.declared.last_look.LastLook.{LastLook}
use Rattle.casebook_observe.specs.declared.observe_error.ObserveError.{ObserveError}
use Rattle.casebook_observe.specs.declared.observe_error.ObserveError.TheVariants as errors

-- what was sent isn't a record, for this reason
abbrev pub IsBadRecord : List ℕ → ObserveError → Type 0
IsBadRecord sent (errors.Record error) = record_of sent ≡ Err error
IsBadRecord sent errors.NoMem = Unit {0}
IsBadRecord sent other = ⊥

-- what was sent isn't a record, or the spool is damaged, for this reason
abbrev pub IsRefusal : Result LastLook ObserveError → List ℕ → ObserveError → Type 0
IsRefusal look sent (errors.Record error) = record_of sent ≡ Err error
IsRefusal look sent errors.First = look ≡ Err errors.First
IsRefusal look sent (errors.Lines at row) = look ≡ Err (errors.Lines at row)
IsRefusal look sent other = Unit {0}

-- whether an error is that of a call of the system, or says that memory ran out
abbrev pub is_of_system : ObserveError → Bool
is_of_system errors.NoMem = true
is_of_system (errors.Watched error) = true
is_of_system (errors.Spool error) = true
is_of_system other = false

-- whether an error can be that of the last look
abbrev pub is_of_look : ObserveError → Bool
is_of_look (errors.Record error) = false
is_of_look other = true
