-- The first records so far, and else those of the observations that are left.
use Rattle.std.proofs.Common.{◌≡◌, ℕ, List, drop, map}
use Rattle.std.specs.Option.{option_or}
use Rattle.casebook_typed.specs.Seeing.{said}
use Rattle.casebook_typed.specs.Sessions.{first_record, first_start}
use Rattle.casebook_typed.specs.inner.FirstRecords.{named}
use Rattle.casebook_typed.proofs.first_records.FirstRecords.of.Given as goal

abbrev pub invariant-loop-observation : goal.invariant-loop-observation
invariant-loop-observation l = record {
  records : (q : List ℕ) → option_or (named q l.records) (first_record q (map said (drop l.observation-index l.observations)))
      ≡ first_record q (map said l.observations);
  starts : (q : List ℕ) → option_or (named q l.starts) (first_start q (map said (drop l.observation-index l.observations)))
      ≡ first_start q (map said l.observations);
}
