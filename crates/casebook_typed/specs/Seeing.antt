-- What values of the program stand for.
use Rattle.casebook_record.specs.declared.record.Record.{Record}
use Rattle.casebook_typed.specs.declared.observation.Observation.{Observation}
use Rattle.casebook_typed.specs.Observations.{Observed, notes_in}

abbrev pub observed : Observation → Observed
observed o = record { noted = notes_in o.notes.now; said = o.record.now }

abbrev pub said : Observation → Record
said o = o.record.now
