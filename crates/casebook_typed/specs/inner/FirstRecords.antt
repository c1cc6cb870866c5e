-- The first records of sessions, as they are looked up.
use Rattle.std.specs.Prelude.{◌≡◌, ℕ, List, Option, Some, None, option_map, if◌then◌else◌}
use Rattle.std.specs.Borrow.{Bor}
use Rattle.std.specs.BTreeMap.{BTreeMap, get_by}
use Rattle.retro_path.specs.Order.{text_cmp, text_eq}
use Rattle.casebook_record.specs.declared.record.Record.{Record}
use Rattle.casebook_typed.specs.Sessions.{first_record, first_start}
use Rattle.casebook_typed.specs.declared.first_records.FirstRecords.{FirstRecords}

-- what is known of the session with a name
abbrev pub named : {X : Type 0} → List ℕ → BTreeMap (List ℕ) (Bor X) → Option X
named q known = option_map (λ x. x.now) (get_by (text_cmp q) known)

-- what a record says of the session with a name
abbrev pub value_if : {X : Type 0} → List ℕ → List ℕ → X → Option X
value_if q name x = if text_eq q name then Some x else None

-- the first record of each session is known, and the first that says how it started
pub record AreFirsts (firsts : FirstRecords) (records : List Record) : Type 0 where
  pub records_are : (q : List ℕ) → named q firsts.records ≡ first_record q records
  pub starts_are : (q : List ℕ) → named q firsts.starts ≡ first_start q records
