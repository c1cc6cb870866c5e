-- Recordings with their repairs, as the type of cases has them in contracts.
use Rattle.std.specs.Prelude.{◌≡◌, ℕ, List, Option, Some, None, refl}
use Rattle.std.specs.Coded.{Coded, code_by, coded×, coded_list, coded_option, coded_ℕ}
use Rattle.retro_keep.specs.Recording.{RecordingValue}
use Rattle.retro_keep.specs.inner.EditCode.{coded_edit}
use Rattle.retro_keep.specs.inner.RecordingCode.{coded_recording}
use Rattle.retro_keep.specs.declared.edit.Edit.{Edit}
use Rattle.retro_redo.specs.declared.repair.Repair.{Repair}
use Rattle.retro_redo.specs.contracts.repair.Repair as repair_type
use Rattle.casebook_cause.specs.Cause.{TwoRecordings}
use Rattle.casebook_view.specs.Sources.{SeenValue, SourceValue, Played, Seen}

-- a recording, a repair of it, the edits of that repair, and where the lines come from
pub record CaseValue : Type 0 where
  pub recording : RecordingValue
  pub repair : Repair
  pub edits : List Edit
  pub source : SourceValue

abbrev pub coded_repair : Coded Repair
coded_repair = (repair_type.the_row).coded

abbrev pub coded_numbers : Coded (List ℕ)
coded_numbers = coded_list coded_ℕ

abbrev pub coded_texts : Coded (List (List ℕ))
coded_texts = coded_list coded_numbers

-- what a recorder says is stored as pairs of lists
abbrev pub coded_seen : Coded SeenValue
coded_seen =
    code_by (List ℕ × (List ℕ × (List ℕ × (List ℕ × List (List ℕ)))))
    (coded× coded_numbers (coded× coded_numbers (coded× coded_numbers (coded× coded_numbers coded_texts))))
    (λ s. (s.observed, (s.overlapping, (s.outside, (s.incomplete, s.unseen)))))
    (λ p. record {
      observed = p.0;
      overlapping = p.1.0;
      outside = p.1.1.0;
      incomplete = p.1.1.1.0;
      unseen = p.1.1.1.1;
    }) (λ _. refl)

-- a source is stored as what a recorder says, if one saw the lines
abbrev pub seen_in : SourceValue → Option SeenValue
seen_in Played = None
seen_in (Seen seen) = Some seen

abbrev pub source_seen : Option SeenValue → SourceValue
source_seen None = Played
source_seen (Some seen) = Seen seen

pub seen_again : (source : SourceValue) → source_seen (seen_in source) ≡ source
seen_again Played = refl
seen_again (Seen seen) = refl

abbrev pub coded_source : Coded SourceValue
coded_source = code_by (Option SeenValue) (coded_option coded_seen) seen_in source_seen seen_again

-- a recording with its repair, the edits and the source is stored as pairs of them
abbrev pub coded_case : Coded CaseValue
coded_case =
    code_by (RecordingValue × (Repair × (List Edit × SourceValue)))
    (coded× coded_recording (coded× coded_repair (coded× (coded_list coded_edit) coded_source)))
    (λ c. (c.recording, (c.repair, (c.edits, c.source))))
    (λ p. record { recording = p.0; repair = p.1.0; edits = p.1.1.0; source = p.1.1.1 }) (λ _. refl)

-- what a case keeps: the differences of its two recordings, and the history of the repaired one
pub record AreOfCase (recorded repaired : RecordingValue) (differences : TwoRecordings) (history : RecordingValue)
    : Type 0 where
  pub recorded_is : differences.recorded ≡ recorded
  pub repaired_is : differences.repaired ≡ repaired
  pub history_is : history ≡ repaired
