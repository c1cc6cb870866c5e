-- The document nests few arrays and objects, so its text can be read back.
use Rattle.std.proofs.Common.{◌≡◌, ◌++◌, ℕ, ◌≤◌, List, [], ◌∷◌, Bool, Option, Some, None, arith}
use Rattle.std.proofs.Common.{map, refl}
use Rattle.serde_json.specs.Data.{Data, Members, boolean, depth, items_depth, member, members_depth, no_members, object, string}
use Rattle.serde_json.specs.Read.{max_depth}
use Rattle.serde_json.specs.View.{items_of}
use Rattle.retro_json.specs.Values.{array_of, number_data}
use Rattle.casebook_profile.specs.declared.unknown_line.UnknownLine.{UnknownLine}
use Rattle.casebook_summary.specs.Effects.{EffectValue, effect_value}
use Rattle.casebook_summary.specs.Groups.{GroupValue, group_value}
use Rattle.casebook_view.specs.Reasons.{cause_in}
use Rattle.casebook_view.specs.Sources.{SourceValue}
use Rattle.casebook_summary.specs.declared.effect.Effect.{Effect}
use Rattle.casebook_view.specs.declared.case_line.CaseLine.{CaseLine}
use Rattle.casebook_summary.specs.declared.group.Group.{Group}
use Rattle.casebook_summary.specs.declared.leak.Leak.{Leak}
use Rattle.casebook_view.specs.declared.reason.Reason.{Reason}
use Rattle.casebook_summary.specs.declared.subject.Subject.{Subject}
use Rattle.casebook_summary.specs.declared.subject.Subject.TheVariants.{At, Directory, Variable}
use Rattle.casebook_summary.specs.declared.subject.Subject.TheVariants.{Status, Text, Again}
use Rattle.casebook_summary.specs.declared.summary.Summary.{Summary}
use Rattle.casebook_about.specs.declared.labels.Labels.{Labels}
use Rattle.casebook_summary.specs.declared.restoration.Restoration.{Restoration}
use Rattle.casebook_json.specs.Causes.{effect_data}
use Rattle.casebook_json.specs.Counts.{counts_data}
use Rattle.casebook_json.specs.Leaked.{leak_data}
use Rattle.casebook_json.specs.Lines.{failing_in, line_data, origin_in, why_or_null}
use Rattle.casebook_json.specs.Restore.{added_in, doubtful_paths, removed_in, restoration_data}
use Rattle.casebook_json.specs.Source.{incomplete_in, observed_in, outside_in, overlapping_in, source_name, unseen_in}
use Rattle.casebook_json.specs.Summary.{summary_data}
use Rattle.casebook_json.specs.Tell.{group_data, subject_path, subject_variable}
use Rattle.casebook_json.specs.Unknown.{unknown_data}
use Rattle.casebook_about.specs.Labels.{name_in}
use Rattle.casebook_json.specs.Values.{name_or_null, number_or_null, path_data, user_data}

number_depth : (n : Option ℕ) → depth (number_or_null n) ≡ 0
number_depth None = refl
number_depth (Some n) = refl

user_depth : (labels : Labels) (session : ℕ) → depth (user_data labels session) ≡ 0
user_depth labels session = by_name (name_in session labels)
  where
    by_name : (name : Option (List ℕ)) → depth (name_or_null name) ≡ 0
    by_name None = refl
    by_name (Some name) = refl

path_depth : (subject : Subject) → depth (subject_path subject) ≡ 0
path_depth (At path) = refl
path_depth Directory = refl
path_depth (Variable name) = refl
path_depth Status = refl
path_depth Text = refl
path_depth Again = refl

variable_depth : (subject : Subject) → depth (subject_variable subject) ≡ 0
variable_depth (At path) = refl
variable_depth Directory = refl
variable_depth (Variable name) = refl
variable_depth Status = refl
variable_depth Text = refl
variable_depth Again = refl

-- an array nests one more than its items
items_low : {X : Type 0} (f : X → Data) (n : ℕ) → ((x : X) → depth (f x) ≤ n) → (xs : List X)
    → items_depth (items_of (map f xs)) ≤ n
items_low f n one [] = omega arith
items_low f n one (x ∷ xs) = let a = one x in let b = items_low f n one xs in omega (arith, a, b)

restoration_low : (r : Restoration) → depth (restoration_data r) ≤ 1
unfolding restoration_data
restoration_low r =
    let a = number_depth (added_in r.extent) in
    let b = number_depth (removed_in r.extent) in
    omega (arith, a, b)

group_low : (labels : Labels) (g : GroupValue) → depth (group_data labels g) ≤ 2
unfolding group_data
group_low labels g =
    let a = items_low number_data 0 (λ n. omega arith) g.lines in
    let b = path_depth g.subject in
    let c = user_depth labels g.session in
    let d = variable_depth g.subject in
    omega (arith, a, b, c, d)

leak_low : (labels : Labels) (leak : Leak) → depth (leak_data labels leak) ≤ 1
unfolding leak_data
leak_low labels leak = let a = user_depth labels leak.session in omega (arith, a)

effect_low : (effect : EffectValue) → depth (effect_data effect) ≤ 2
unfolding effect_data
effect_low effect =
    let a = items_low path_data 0 (λ p. omega arith) effect.wrote in
    let b = items_low path_data 0 (λ p. omega arith) effect.read in
    omega (arith, a, b)

why_depth : (reason : Option Reason) → depth (why_or_null reason) ≡ 0
why_depth None = refl
why_depth (Some reason) = refl

line_low : (line : CaseLine) → depth (line_data line) ≤ 1
unfolding line_data
line_low line =
    let a = number_depth (cause_in line.reason) in
    let b = number_depth (failing_in line.reason) in
    let c = number_depth (origin_in line.reason) in
    let d = why_depth line.reason in
    omega (arith, a, b, c, d)

unknown_low : (line : UnknownLine) → depth (unknown_data line) ≤ 1
unknown_low line = omega arith

counts_low : (lines : List CaseLine) → depth (counts_data lines) ≤ 1
unfolding counts_data
counts_low lines = omega arith

-- ---- the members of the document

record AreLow (ms : Members) : Type 0 where
  low : members_depth ms ≤ 3

record IsLow (d : Data) : Type 0 where
  low : depth d ≤ max_depth

low_member : (key : List ℕ) (d : Data) (ms : Members) → depth d ≤ 3 → AreLow ms → AreLow (member key d ms)
low_member key d ms one rest = let low = rest.low in record { low = omega (arith, one, low) }

low_object : (ms : Members) → AreLow ms → IsLow (object ms)
low_object ms all = let low = all.low in record { low = omega (arith, low) }

low_array : {X : Type 0} (f : X → Data) → ((x : X) → depth (f x) ≤ 2) → (xs : List X)
    → depth (array_of (map f xs)) ≤ 3
low_array f one xs = let low = items_low f 2 one xs in omega (arith, low)

low_groups : (labels : Labels) (groups : List Group)
    → depth (array_of (map (λ group. group_data labels (group_value group)) groups)) ≤ 3
low_groups labels groups =
    low_array (λ (g : Group). group_data labels (group_value g)) (λ g. group_low labels (group_value g)) groups

low_numbers : (numbers : List ℕ) → depth (array_of (map number_data numbers)) ≤ 3
low_numbers numbers = low_array number_data (λ n. omega arith) numbers

low_flag : (b : Bool) → depth (boolean b) ≤ 3
low_flag b = omega arith

low_number : (n : ℕ) → depth (number_data n) ≤ 3
low_number n = omega arith

low_text : (text : List ℕ) → depth (string text) ≤ 3
low_text text = omega arith

low_counts : (lines : List CaseLine) → depth (counts_data lines) ≤ 3
low_counts lines = let low = counts_low lines in omega (arith, low)

leak_lower : (labels : Labels) (leak : Leak) → depth (leak_data labels leak) ≤ 2
leak_lower labels leak = let low = leak_low labels leak in omega (arith, low)

line_lower : (line : CaseLine) → depth (line_data line) ≤ 2
line_lower line = let low = line_low line in omega (arith, low)

restoration_lower : (r : Restoration) → depth (restoration_data r) ≤ 2
restoration_lower r = let low = restoration_low r in omega (arith, low)

unknown_lower : (line : UnknownLine) → depth (unknown_data line) ≤ 2
unknown_lower line = let low = unknown_low line in omega (arith, low)

low_none : AreLow no_members
low_none = record { low = omega arith }

is_low : (summary : Summary) (source : SourceValue) (labels : Labels)
    → IsLow (summary_data summary source labels)
unfolding summary_data
is_low summary source labels =
    low_object _
    (low_member _ _ _
    (low_array (λ (e : Effect). effect_data (effect_value e)) (λ e. effect_low (effect_value e)) summary.effects.items)
    (low_member _ _ _ (low_counts summary.lines)
    (low_member _ _ _ (low_array path_data (λ p. omega arith) (doubtful_paths summary.restorations.items ++ summary.undecided.items))
    (low_member _ _ _ (low_numbers (incomplete_in source))
    (low_member _ _ _ (low_array (leak_data labels) (leak_lower labels) summary.leaks.items)
    (low_member _ _ _ (low_array line_data line_lower summary.lines)
    (low_member _ _ _ (low_groups labels summary.looked.items)
    (low_member _ _ _ (low_numbers (observed_in source))
    (low_member _ _ _ (low_numbers (outside_in source))
    (low_member _ _ _ (low_numbers (overlapping_in source))
    (low_member _ _ _ (low_flag summary.is_recording)
    (low_member _ _ _ (low_array restoration_data restoration_lower summary.restorations.items)
    (low_member _ _ _ (low_number 1)
    (low_member _ _ _ (low_text (source_name source))
    (low_member _ _ _ (low_groups labels summary.told.items)
    (low_member _ _ _ (low_array unknown_data unknown_lower summary.unknown.items)
    (low_member _ _ _ (low_array string (λ t. omega arith) (unseen_in source)) low_none)))))))))))))))))

pub summary_low : (summary : Summary) (source : SourceValue) (labels : Labels)
    → depth (summary_data summary source labels) ≤ max_depth
summary_low summary source labels =
    (is_low summary source labels).low
