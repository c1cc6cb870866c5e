-- Which refusals errors of records and of looks are.
use Rattle.std.proofs.Common.{◌≡◌, ◌∙◌, ℕ, Bool, List, Option, Some, None, Ok, Err, Result, ap, false, true}
use Rattle.std.proofs.lemmas.Bool.{false≢true}
use Rattle.std.specs.Prelude.{IfSome, IsTrue}
use Rattle.casebook_record.specs.Fields.{fields_of}
use Rattle.casebook_record.specs.Reads.{◌>>=◌, refused as refused_record}
use Rattle.casebook_record.specs.Records.{record_in, record_of}
use Rattle.casebook_record.specs.declared.record_error.RecordError.{RecordError}
use Rattle.casebook_record.specs.declared.record_error.RecordError.TheVariants as records
use Rattle.retro_path.specs.OutOfMemory.{IsMeant}
use Rattle.casebook_observe.specs.Errors.{of_record}
use Rattle.casebook_observe.specs.Files.{SpoolFiles}
use Rattle.casebook_observe.specs.Last.{last_look}
use Rattle.casebook_observe.specs.Refusals.{IsBadRecord, IsRefusal, is_of_look}
use Rattle.casebook_observe.specs.declared.observe_error.ObserveError.{ObserveError}
use Rattle.casebook_observe.specs.declared.observe_error.ObserveError.TheVariants as errors
use Rattle.casebook_observe.specs.inner.Reads.{refused}

-- bytes that aren't a list of fields aren't a record
pub fields_refused : (sent : List ℕ) (e : RecordError) → IsMeant (refused_record e) (fields_of sent)
    → IsBadRecord sent (of_record e)
unfolding record_of
fields_refused sent records.NoMem h = tt
fields_refused sent records.CutOff h = ap (λ r. r >>= record_in) h
fields_refused sent records.TooMany h = ap (λ r. r >>= record_in) h
fields_refused sent records.UnknownKind h = ap (λ r. r >>= record_in) h
fields_refused sent (records.Wrong field) h = ap (λ r. r >>= record_in) h

-- nor are bytes whose fields aren't those of one
pub record_refused : (sent : List ℕ) (fields : List (List ℕ)) (e : RecordError) → fields_of sent ≡ Ok fields
    → IsMeant (refused_record e) (record_in fields) → IsBadRecord sent (of_record e)
unfolding record_of
record_refused sent fields records.NoMem is h = tt
record_refused sent fields records.CutOff is h = ap (λ r. r >>= record_in) is ∙ h
record_refused sent fields records.TooMany is h = ap (λ r. r >>= record_in) is ∙ h
record_refused sent fields records.UnknownKind is h = ap (λ r. r >>= record_in) is ∙ h
record_refused sent fields (records.Wrong field) is h = ap (λ r. r >>= record_in) is ∙ h

-- a last look that can't be read
pub look_refused : (held : Option SpoolFiles) (sent : List ℕ) (e : ObserveError) → IsTrue (is_of_look e)
    → IfSome held (λ files. IsMeant (refused e) (last_look files))
    → IfSome held (λ files. IsRefusal (last_look files) sent e)
look_refused None sent e is h = tt
look_refused (Some files) sent errors.NoMem is h = tt
look_refused (Some files) sent (errors.Record error) is h = absurd (false≢true is)
look_refused (Some files) sent errors.First is h = h
look_refused (Some files) sent (errors.Lines at row) is h = h
look_refused (Some files) sent (errors.Watched error) is h = tt
look_refused (Some files) sent (errors.Spool error) is h = tt
