-- The document has no float, so its text is determined.
use Rattle.std.proofs.Common.{◌≡◌, ◌++◌, ℕ, List, false, Option, Some, None, refl}
use Rattle.serde_json.specs.Data.{string}
use Rattle.serde_json.specs.Written.{has_float}
use Rattle.retro_json.proofs.Floats.{array_float}
use Rattle.retro_json.specs.Values.{number_data}
use Rattle.casebook_profile.specs.declared.unknown_line.UnknownLine.{UnknownLine}
use Rattle.casebook_summary.specs.Effects.{EffectValue, effect_value}
use Rattle.casebook_summary.specs.Groups.{GroupValue, group_value}
use Rattle.casebook_view.specs.Reasons.{cause_in}
use Rattle.casebook_view.specs.Sources.{SourceValue}
use Rattle.casebook_summary.specs.declared.effect.Effect.{Effect}
use Rattle.casebook_view.specs.declared.case_line.CaseLine.{CaseLine}
use Rattle.casebook_summary.specs.declared.group.Group.{Group}
use Rattle.casebook_summary.specs.declared.leak.Leak.{Leak}
use Rattle.casebook_view.specs.declared.reason.Reason.{Reason}
use Rattle.casebook_summary.specs.declared.subject.Subject.{Subject}
use Rattle.casebook_summary.specs.declared.subject.Subject.TheVariants.{At, Directory, Variable}
use Rattle.casebook_summary.specs.declared.subject.Subject.TheVariants.{Status, Text, Again}
use Rattle.casebook_summary.specs.declared.summary.Summary.{Summary}
use Rattle.casebook_about.specs.declared.labels.Labels.{Labels}
use Rattle.casebook_summary.specs.declared.restoration.Restoration.{Restoration}
use Rattle.casebook_json.specs.Causes.{effect_data}
use Rattle.casebook_json.specs.Counts.{counts_data}
use Rattle.casebook_json.specs.Leaked.{leak_data}
use Rattle.casebook_json.specs.Lines.{failing_in, line_data, origin_in, why_or_null}
use Rattle.casebook_json.specs.Restore.{added_in, doubtful_paths, removed_in, restoration_data}
use Rattle.casebook_json.specs.Source.{incomplete_in, observed_in, outside_in, overlapping_in, unseen_in}
use Rattle.casebook_json.specs.Summary.{summary_data}
use Rattle.casebook_json.specs.Tell.{group_data, subject_path, subject_variable}
use Rattle.casebook_json.specs.Unknown.{unknown_data}
use Rattle.casebook_about.specs.Labels.{name_in}
use Rattle.casebook_json.specs.Values.{name_or_null, number_or_null, path_data, user_data}

number_float : (n : Option ℕ) → has_float (number_or_null n) ≡ false
number_float None = refl
number_float (Some n) = refl

user_float : (labels : Labels) (session : ℕ) → has_float (user_data labels session) ≡ false
user_float labels session = by_name (name_in session labels)
  where
    by_name : (name : Option (List ℕ)) → has_float (name_or_null name) ≡ false
    by_name None = refl
    by_name (Some name) = refl

path_float : (subject : Subject) → has_float (subject_path subject) ≡ false
path_float (At path) = refl
path_float Directory = refl
path_float (Variable name) = refl
path_float Status = refl
path_float Text = refl
path_float Again = refl

variable_float : (subject : Subject) → has_float (subject_variable subject) ≡ false
variable_float (At path) = refl
variable_float Directory = refl
variable_float (Variable name) = refl
variable_float Status = refl
variable_float Text = refl
variable_float Again = refl

restoration_float : (r : Restoration) → has_float (restoration_data r) ≡ false
unfolding restoration_data
restoration_float r = rw (number_float (added_in r.extent), number_float (removed_in r.extent)) refl

group_float : (labels : Labels) (g : GroupValue) → has_float (group_data labels g) ≡ false
unfolding group_data
group_float labels g = rw (
  array_float number_data (λ n. refl) g.lines,
  path_float g.subject,
  user_float labels g.session,
  variable_float g.subject,
) refl

leak_float : (labels : Labels) (leak : Leak) → has_float (leak_data labels leak) ≡ false
unfolding leak_data
leak_float labels leak = rw (user_float labels leak.session) refl

effect_float : (effect : EffectValue) → has_float (effect_data effect) ≡ false
unfolding effect_data
effect_float effect = rw (
  array_float path_data (λ p. refl) effect.wrote,
  array_float path_data (λ p. refl) effect.read,
) refl

why_float : (reason : Option Reason) → has_float (why_or_null reason) ≡ false
why_float None = refl
why_float (Some reason) = refl

line_float : (line : CaseLine) → has_float (line_data line) ≡ false
unfolding line_data
line_float line = rw (
  number_float (cause_in line.reason),
  number_float (failing_in line.reason),
  number_float (origin_in line.reason),
  why_float line.reason,
) refl

counts_float : (lines : List CaseLine) → has_float (counts_data lines) ≡ false
unfolding counts_data
counts_float lines = refl

unknown_float : (line : UnknownLine) → has_float (unknown_data line) ≡ false
unknown_float line = refl

pub summary_float : (summary : Summary) (source : SourceValue) (labels : Labels)
    → has_float (summary_data summary source labels) ≡ false
unfolding summary_data
summary_float summary source labels = rw (
  array_float (λ (e : Effect). effect_data (effect_value e)) (λ e. effect_float (effect_value e))
      summary.effects.items,
  counts_float summary.lines,
  array_float path_data (λ p. refl) (doubtful_paths summary.restorations.items ++ summary.undecided.items),
  array_float number_data (λ n. refl) (incomplete_in source),
  array_float (leak_data labels) (leak_float labels) summary.leaks.items,
  array_float line_data line_float summary.lines,
  array_float (λ (g : Group). group_data labels (group_value g))
      (λ g. group_float labels (group_value g)) summary.looked.items,
  array_float number_data (λ n. refl) (observed_in source),
  array_float number_data (λ n. refl) (outside_in source),
  array_float number_data (λ n. refl) (overlapping_in source),
  array_float restoration_data restoration_float summary.restorations.items,
  array_float (λ (g : Group). group_data labels (group_value g))
      (λ g. group_float labels (group_value g)) summary.told.items,
  array_float unknown_data unknown_float summary.unknown.items,
  array_float string (λ t. refl) (unseen_in source),
) refl
