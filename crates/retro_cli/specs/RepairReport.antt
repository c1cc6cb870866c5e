-- The text of the report of a repair.
use Rattle.std.specs.Prelude.{ℕ, List, [], ◌∷◌, ◌++◌, map, codes}
use Rattle.serde_json.specs.Data.{Data, object, no_members, member}
use Rattle.serde_json.specs.Written.{compact_text}
use Rattle.retro_json.specs.Values.{array_of, number_data, hex_data, tree_data, sessions_data}
use Rattle.retro_keep.specs.Recording.{RecordingValue}
use Rattle.retro_redo.specs.Moments.{CompensationValue}
use Rattle.retro_redo.specs.Repair.{compensations_in, met_numbers, numbers_with, repaired_outputs, repaired_state}
use Rattle.retro_redo.specs.declared.repair.Repair.{Repair}
use Rattle.retro_redo.specs.declared.verdict.Verdict.TheVariants.{Cancelled, Redone}
use Rattle.retro_cli.specs.Report.{output_data}

abbrev pub numbers_data : List ℕ → Data
numbers_data numbers = array_of (map number_data numbers)

-- `[number,"before","now"]`: a line, what it printed, and what it prints in the repaired run
abbrev pub compensation_data : CompensationValue → Data
compensation_data c = array_of (number_data c.number ∷ hex_data c.before ∷ hex_data c.now ∷ [])

-- `{"cancelled":..,"compensations":..,"met":..,"outputs":..,"redone":..,"sessions":..,"tree":..}`,
-- with the keys in byte order
unfoldable pub repair_data : RecordingValue → Repair → Data
repair_data recorded repair = object
    (member (codes "cancelled") (numbers_data (numbers_with Cancelled repair.lines.items))
    (member (codes "compensations") (array_of (map compensation_data (compensations_in recorded repair)))
    (member (codes "met") (numbers_data (met_numbers repair.lines.items))
    (member (codes "outputs") (array_of (map output_data (repaired_outputs repair)))
    (member (codes "redone") (numbers_data (numbers_with Redone repair.lines.items))
    (member (codes "sessions") (sessions_data (repaired_state repair).sessions)
    (member (codes "tree") (tree_data (repaired_state repair).tree) no_members)))))))

-- the report of the repair of a recording: compact, with a newline at the end
unfoldable pub repair_text : RecordingValue → Repair → List ℕ
repair_text recorded repair = compact_text (repair_data recorded repair) ++ codes "\n"
