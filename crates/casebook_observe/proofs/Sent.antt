-- The fields of bytes are bytes, and a record is of its fields.
use Rattle.std.proofs.Common.{◌≡◌, ℕ, ◌-◌, ◌<◌, ◌==◌, Bool, true, false, cond, List, [], ◌∷◌, All}
use Rattle.std.proofs.Common.{Ok, Err, Result, ap, length, refl, sym, take}
use Rattle.std.specs.List.{onto_first, slice_split}
use Rattle.std.specs.Prelude.{IsOk, if◌then◌else◌}
use Rattle.std.proofs.lemmas.Bool.{false≢true}
use Rattle.std.proofs.lemmas.List.Elements.{All-cons, All-head, All-nil, All-tail, All-take}
use Rattle.casebook_record.specs.Fields.{fields_of, is_ended}
use Rattle.casebook_record.specs.Reads.{◌>>=◌}
use Rattle.casebook_record.specs.Records.{record_in, record_of}
use Rattle.casebook_record.specs.declared.record.Record.{Record}
use Rattle.casebook_record.specs.declared.record_error.RecordError.{RecordError}
use Rattle.casebook_record.specs.declared.record_error.RecordError.TheVariants.{CutOff}
use Rattle.casebook_spool.specs.Valid.{AreBytes}
use Rattle.casebook_observe.specs.Followed.{IsRecordWith}

abbrev IsByte : ℕ → Type 0
IsByte b = b < 256

one_on : (b : Bool) (c : ℕ) (parts : List (List ℕ)) → IsByte c → All AreBytes parts
    → All AreBytes (cond b ([] ∷ parts) (onto_first c parts))
one_on true c parts is h = All-cons AreBytes [] parts (All-nil IsByte) h
one_on false c [] is h =
    All-cons AreBytes (c ∷ []) [] (All-cons IsByte c [] is (All-nil IsByte)) (All-nil AreBytes)
one_on false c (part ∷ parts) is h =
    All-cons AreBytes (c ∷ part) parts
    (All-cons IsByte c part is (All-head AreBytes part parts h)) (All-tail AreBytes part parts h)

split_bytes : (p : ℕ → Bool) (text : List ℕ) → AreBytes text → All AreBytes (slice_split p text)
split_bytes p [] h = All-cons AreBytes [] [] (All-nil IsByte) (All-nil AreBytes)
split_bytes p (c ∷ cs) h =
    one_on (p c) c (slice_split p cs) (All-head IsByte c cs h)
    (split_bytes p cs (All-tail IsByte c cs h))

split_if : (b : Bool) (parts fields : List (List ℕ))
    → (if b then Ok parts else Err CutOff) ≡ Ok fields → All AreBytes parts
    → All AreBytes fields
split_if true parts fields e h = let same : fields ≡ parts = cc in rw same h
split_if false parts fields e h = absurd (cc)

pub fields_are_bytes : (sent : List ℕ) (fields : List (List ℕ)) → IsRecordWith fields sent
    → All AreBytes fields
unfolding fields_of
fields_are_bytes sent fields h =
    split_if (is_ended sent) (slice_split (λ b. b == 0) (take (length sent - 1) sent)) fields h.1
    (split_bytes (λ b. b == 0) (take (length sent - 1) sent)
    (All-take IsByte (length sent - 1) sent h.0))

one_said : (read : Result Record RecordError) → IsOk read → (said : Record) × (read ≡ Ok said)
one_said (Ok said) h = (said, refl)
one_said (Err e) h = absurd (false≢true h)

pub record_said : (sent : List ℕ) (fields : List (List ℕ)) → IsRecordWith fields sent
    → (said : Record) × (record_in fields ≡ Ok said)
unfolding record_of
record_said sent fields h =
    let read : (fields_of sent >>= record_in) ≡ record_in fields = ap (λ r. r >>= record_in) h.1 in
    one_said (record_in fields) (rw (sym read) h.2)
