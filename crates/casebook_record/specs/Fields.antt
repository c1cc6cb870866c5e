-- The fields of bytes, each ended by a NUL.
use Rattle.std.specs.Prelude.{ℕ, ◌-◌, ◌==◌, ◌&&◌, Bool, List, length, take, slice_index}
use Rattle.std.specs.Prelude.{Result, Ok, Err, nat_lt, if◌then◌else◌}
use Rattle.std.specs.List.{slice_split}
use Rattle.retro_path.specs.Ascii.{nul}
use Rattle.casebook_record.specs.declared.record_error.RecordError.{RecordError}
use Rattle.casebook_record.specs.declared.record_error.RecordError.TheVariants.{CutOff, TooMany}

-- whether bytes end in a NUL
abbrev pub is_ended : List ℕ → Bool
is_ended bytes = nat_lt 0 (length bytes) && slice_index bytes (length bytes - 1) == nul

-- the fields: what is before, between and after the NULs but the last one, which ends the bytes
unfoldable pub fields_of : List ℕ → Result (List (List ℕ)) RecordError
fields_of bytes =
    if is_ended bytes then Ok (slice_split (λ b. b == nul) (take (length bytes - 1) bytes))
    else Err CutOff

-- why fields aren't exactly so many
abbrev pub wrong_count : ℕ → List (List ℕ) → RecordError
wrong_count wanted fields = if nat_lt (length fields) wanted then CutOff else TooMany
