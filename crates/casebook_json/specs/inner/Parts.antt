-- The parts of the document, as the code has them.
use Rattle.std.specs.Prelude.{◌≡◌, ◌++◌, Bool, codes, map}
use Rattle.serde_json.specs.Data.{Data, boolean, string, object, no_members, member}
use Rattle.serde_json.specs.View.{view}
use Rattle.retro_json.specs.Values.{array_of, number_data}
use Rattle.casebook_summary.specs.Effects.{effect_value}
use Rattle.casebook_summary.specs.Groups.{group_value}
use Rattle.casebook_view.specs.Sources.{SourceValue}
use Rattle.casebook_summary.specs.declared.summary.Summary.{Summary}
use Rattle.casebook_about.specs.declared.labels.Labels.{Labels}
use Rattle.casebook_json.specs.Causes.{effect_data}
use Rattle.casebook_json.specs.Counts.{counts_data}
use Rattle.casebook_json.specs.Leaked.{leak_data}
use Rattle.casebook_json.specs.Lines.{line_data}
use Rattle.casebook_json.specs.Restore.{doubtful_paths, restoration_data}
use Rattle.casebook_json.specs.Source.{incomplete_in, observed_in, outside_in, overlapping_in, source_name, unseen_in}
use Rattle.casebook_json.specs.Tell.{group_data}
use Rattle.casebook_json.specs.Unknown.{unknown_data}
use Rattle.casebook_json.specs.Values.{path_data}
use Rattle.casebook_json.specs.declared.parts.Parts.{Parts}

-- the document of parts
abbrev pub document : Bool → Parts → Data
document is_recording parts = object
    (member (codes "causes") (array_of (map view parts.causes.items))
    (member (codes "counts") (view parts.counts)
    (member (codes "doubtful") (array_of (map view parts.doubtful.items))
    (member (codes "incomplete") (array_of (map view parts.incomplete.items))
    (member (codes "leaked") (array_of (map view parts.leaked.items))
    (member (codes "lines") (array_of (map view parts.lines.items))
    (member (codes "looked") (array_of (map view parts.looked.items))
    (member (codes "observed") (array_of (map view parts.observed.items))
    (member (codes "outside") (array_of (map view parts.outside.items))
    (member (codes "overlapping") (array_of (map view parts.overlapping.items))
    (member (codes "recording") (boolean is_recording)
    (member (codes "restore") (array_of (map view parts.restore.items))
    (member (codes "show") (number_data 1)
    (member (codes "source") (string parts.source.now)
    (member (codes "tell") (array_of (map view parts.tell.items))
    (member (codes "unknown") (array_of (map view parts.unknown.items))
    (member (codes "unseen") (array_of (map view parts.unseen.items)) no_members)))))))))))))))))

-- These are the parts of the document of a repair.
pub record AreParts (summary : Summary) (source : SourceValue) (labels : Labels) (parts : Parts) : Type 0 where
  pub causes : map view parts.causes.items ≡ map (λ effect. effect_data (effect_value effect)) summary.effects.items
  pub counts : view parts.counts ≡ counts_data summary.lines
  pub doubtful : map view parts.doubtful.items
      ≡ map path_data (doubtful_paths summary.restorations.items ++ summary.undecided.items)
  pub incomplete : map view parts.incomplete.items ≡ map number_data (incomplete_in source)
  pub leaked : map view parts.leaked.items ≡ map (leak_data labels) summary.leaks.items
  pub lines : map view parts.lines.items ≡ map line_data summary.lines
  pub looked : map view parts.looked.items ≡ map (λ group. group_data labels (group_value group)) summary.looked.items
  pub observed : map view parts.observed.items ≡ map number_data (observed_in source)
  pub outside : map view parts.outside.items ≡ map number_data (outside_in source)
  pub overlapping : map view parts.overlapping.items ≡ map number_data (overlapping_in source)
  pub restore : map view parts.restore.items ≡ map restoration_data summary.restorations.items
  pub named : parts.source.now ≡ source_name source
  pub tell : map view parts.tell.items ≡ map (λ group. group_data labels (group_value group)) summary.told.items
  pub unknown : map view parts.unknown.items ≡ map unknown_data summary.unknown.items
  pub unseen : map view parts.unseen.items ≡ map string (unseen_in source)
