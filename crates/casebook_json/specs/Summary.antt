-- What a repair would do, as JSON.
use Rattle.std.specs.Prelude.{ℕ, List, ◌++◌, codes, map}
use Rattle.serde_json.specs.Data.{Data, boolean, string, object, no_members, member}
use Rattle.serde_json.specs.Written.{compact_text}
use Rattle.retro_json.specs.Values.{array_of, number_data}
use Rattle.casebook_summary.specs.Effects.{effect_value}
use Rattle.casebook_summary.specs.Groups.{group_value}
use Rattle.casebook_view.specs.Sources.{SourceValue}
use Rattle.casebook_summary.specs.declared.summary.Summary.{Summary}
use Rattle.casebook_about.specs.declared.labels.Labels.{Labels}
use Rattle.casebook_json.specs.Causes.{effect_data}
use Rattle.casebook_json.specs.Counts.{counts_data}
use Rattle.casebook_json.specs.Leaked.{leak_data}
use Rattle.casebook_json.specs.Lines.{line_data}
use Rattle.casebook_json.specs.Restore.{doubtful_paths, restoration_data}
use Rattle.casebook_json.specs.Source.{incomplete_in, numbers_data, observed_in, outside_in, overlapping_in, source_name, texts_data, unseen_in}
use Rattle.casebook_json.specs.Tell.{group_data}
use Rattle.casebook_json.specs.Unknown.{unknown_data}
use Rattle.casebook_json.specs.Values.{path_data}

-- `{"causes":..,"counts":..,"doubtful":..,"incomplete":..,"leaked":..,"lines":..,"looked":..,
-- "observed":..,"outside":..,"overlapping":..,"recording":..,"restore":..,"show":1,"source":..,
-- "tell":..,"unknown":..,"unseen":..}`, with the keys in byte order
unfoldable pub summary_data : Summary → SourceValue → Labels → Data
summary_data summary source labels = object
    (member (codes "causes")
    (array_of (map (λ effect. effect_data (effect_value effect)) summary.effects.items))
    (member (codes "counts") (counts_data summary.lines)
    (member (codes "doubtful")
    (array_of (map path_data (doubtful_paths summary.restorations.items ++ summary.undecided.items)))
    (member (codes "incomplete") (numbers_data (incomplete_in source))
    (member (codes "leaked") (array_of (map (leak_data labels) summary.leaks.items))
    (member (codes "lines") (array_of (map line_data summary.lines))
    (member (codes "looked")
    (array_of (map (λ group. group_data labels (group_value group)) summary.looked.items))
    (member (codes "observed") (numbers_data (observed_in source))
    (member (codes "outside") (numbers_data (outside_in source))
    (member (codes "overlapping") (numbers_data (overlapping_in source))
    (member (codes "recording") (boolean summary.is_recording)
    (member (codes "restore") (array_of (map restoration_data summary.restorations.items))
    (member (codes "show") (number_data 1)
    (member (codes "source") (string (source_name source))
    (member (codes "tell")
    (array_of (map (λ group. group_data labels (group_value group)) summary.told.items))
    (member (codes "unknown") (array_of (map unknown_data summary.unknown.items))
    (member (codes "unseen") (texts_data (unseen_in source)) no_members)))))))))))))))))

-- the document: compact, with a newline at the end
unfoldable pub summary_text : Summary → SourceValue → Labels → List ℕ
summary_text summary source labels = compact_text (summary_data summary source labels) ++ codes "\n"
