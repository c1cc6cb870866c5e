-- Observations as they are written and read back.
use Rattle.std.specs.Prelude.{◌≡◌, ℕ, ◌<◌, All, List, [], ◌∷◌, ◌++◌, Ok, length, map, take}
use Rattle.casebook_record.specs.Records.{record_in}
use Rattle.casebook_record.specs.declared.record.Record.{Record}
use Rattle.casebook_spool.specs.Valid.{AreBytes, IsNote}
use Rattle.casebook_spool.specs.Written.{observation_text}
use Rattle.casebook_spool.specs.declared.item.Item.{Item}
use Rattle.casebook_spool.specs.declared.item.Item.TheVariants as items
use Rattle.casebook_spool.specs.declared.note.Note.{Note}

-- the notes of an observation, and the fields of its record
pub record Observation : Type 0 where
  pub noted : List Note
  pub fields : List (List ℕ)
  pub said : Record

-- The notes are ones, and the fields are those of the record.
abbrev pub IsObservation : Observation → Type 0
IsObservation o = All IsNote o.noted × All AreBytes o.fields × (record_in o.fields ≡ Ok o.said)

abbrev pub text_of : Observation → List ℕ
text_of o = observation_text o.noted o.fields

abbrev pub items_of : Observation → List Item
items_of o = map (λ note. items.Note note) o.noted ++ items.Record o.said ∷ []

-- a text that lacks the end of an observation's, or all of it
abbrev pub IsCutOff : List ℕ → Type 0
IsCutOff text =
    (o : Observation) × (n : ℕ) × IsObservation o × (n < length (text_of o))
    × (text ≡ take n (text_of o))
