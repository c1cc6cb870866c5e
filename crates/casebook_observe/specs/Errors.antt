-- Errors of records, watched folders and spools as errors of observations.
use Rattle.casebook_record.specs.declared.record_error.RecordError.{RecordError}
use Rattle.casebook_record.specs.declared.record_error.RecordError.TheVariants as records
use Rattle.casebook_observe.specs.declared.observe_error.ObserveError.{ObserveError}
use Rattle.casebook_observe.specs.declared.observe_error.ObserveError.TheVariants as errors
use Rattle.casebook_observe.specs.declared.spool_error.SpoolError.{SpoolError}
use Rattle.casebook_observe.specs.declared.spool_error.SpoolError.TheVariants as spools
use Rattle.casebook_observe.specs.declared.watch_error.WatchError.{WatchError}
use Rattle.casebook_observe.specs.declared.watch_error.WatchError.TheVariants as watches

abbrev pub of_record : RecordError → ObserveError
of_record records.NoMem = errors.NoMem
of_record error = errors.Record error

abbrev pub of_watched : WatchError → ObserveError
of_watched watches.NoMem = errors.NoMem
of_watched error = errors.Watched error

abbrev pub of_spool : SpoolError → ObserveError
of_spool spools.NoMem = errors.NoMem
of_spool error = errors.Spool error
