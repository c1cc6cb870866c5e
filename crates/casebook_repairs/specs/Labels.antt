-- The names and times of lines: those that a machine says, and those of an about document.
use Rattle.std.specs.Prelude.{◌≡◌, ℕ, ℤ, List, [], ◌∷◌, ◌++◌, Option, Some, None, Result, Ok, Err, map}
use Rattle.std.specs.List.{fold}
use Rattle.std.specs.Str.{IsUtf8}
use Rattle.casebook_about.specs.About.{AboutView, about_in}
use Rattle.casebook_about.specs.Rows.{user_view}
use Rattle.casebook_about.specs.Time.{IsTimeText}
use Rattle.casebook_about.specs.declared.fault.AboutFault.{AboutFault}
use Rattle.casebook_account.specs.Edits.{observed_numbers, outside_numbers, overlapping_numbers}
use Rattle.casebook_account.specs.declared.account.Machine.{Machine}
use Rattle.casebook_account.specs.declared.machine_line.MachineLine.{MachineLine}
use Rattle.casebook_view.specs.Sources.{SeenValue, SourceValue, Played, Seen}
use Rattle.casebook_about.specs.Labels.{named, no_labels, timed}
use Rattle.casebook_about.specs.declared.labels.Labels.{Labels}
use Rattle.casebook_repairs.specs.Inputs.{DocumentValue}
use Rattle.casebook_repairs.specs.declared.accounts.SeenLines.{SeenLines}

-- The document says this.
pub record IsAbout (document : DocumentValue) (about : AboutView) : Type 0 where
  pub is_text : IsUtf8 document.bytes
  pub read : about_in document.bytes ≡ Ok about

-- labels with the names of users
abbrev pub with_user : Labels → ℕ × List ℕ → Labels
with_user labels user = named user.0 user.1 labels

abbrev pub with_users : List (ℕ × List ℕ) → Labels → Labels
with_users users labels = fold with_user labels users

-- The labels are the old ones with the time of a line.
pub record IsTimeAdded (time : ℕ × ℤ) (old new : Labels) : Type 0 where
  pub text : List ℕ
  pub shown : IsTimeText time.1 text
  pub added : new ≡ timed time.0 text old

-- the labels are the old ones with the times of lines
pub data AreTimesAdded : List (ℕ × ℤ) → Labels → Labels → Type 0 where
  none : {labels : Labels} → AreTimesAdded [] labels labels
  one : {time : ℕ × ℤ} {times : List (ℕ × ℤ)} {old between new : Labels} → IsTimeAdded time old between
      → AreTimesAdded times between new → AreTimesAdded (time ∷ times) old new

-- ---- what a machine says

-- the users of a machine's sessions; none, if there is no machine
abbrev pub users_by : Option Machine → List (ℕ × List ℕ)
users_by None = []
users_by (Some machine) = map user_view machine.users.items

abbrev pub line_time : MachineLine → ℕ × ℤ
line_time line = (line.number, line.second)

-- when its lines were seen
abbrev pub times_by : Option Machine → List (ℕ × ℤ)
times_by None = []
times_by (Some machine) = map line_time machine.lines.items

-- the labels are those of what a machine says; none, if there is no machine
abbrev pub AreOwnLabels : Option Machine → Labels → Type 0
AreOwnLabels machine labels =
    AreTimesAdded (times_by machine) (with_users (users_by machine) no_labels) labels

-- what a recorder says of the lines of a machine
abbrev pub seen_of : Machine → SeenValue
seen_of machine = record {
  observed = observed_numbers machine.lines.items;
  overlapping = overlapping_numbers machine.lines.items;
  outside = outside_numbers machine.lines.items;
  incomplete = machine.incomplete.items;
  unseen = machine.unseen.items;
}

-- the same, if there is a machine
abbrev pub seen_by : Option Machine → Option SeenValue
seen_by None = None
seen_by (Some machine) = Some (seen_of machine)

abbrev pub lines_view : SeenLines → SeenValue
lines_view seen = record {
  observed = seen.observed.items;
  overlapping = seen.overlapping.items;
  outside = seen.outside.items;
  incomplete = seen.incomplete.items;
  unseen = seen.unseen.items;
}

-- where lines come from: those of a machine were seen, and others were played
abbrev pub source_by : Option SeenValue → SourceValue
source_by None = Played
source_by (Some seen) = Seen seen

-- ---- what an about document says

-- The labels are others with what an about document says.
pub record AreLabelsIn (document : DocumentValue) (own labels : Labels) : Type 0 where
  pub about : AboutView
  pub is_about : IsAbout document about
  pub times : AreTimesAdded about.times (with_users about.users own) labels

-- The labels are those of what a machine says, and then those of an about document.
pub record AreLabelsOfBoth (machine : Option Machine) (document : DocumentValue) (labels : Labels) : Type 0 where
  pub own : Labels
  pub are_own : AreOwnLabels machine own
  pub more : AreLabelsIn document own labels

-- the labels of lines: without an about document those of what a machine says
abbrev pub AreLabels : Option Machine → Option DocumentValue → Labels → Type 0
AreLabels machine None labels = AreOwnLabels machine labels
AreLabels machine (Some document) labels = AreLabelsOfBoth machine document labels

-- the times of lines that an about document says; none, if it is refused
abbrev pub times_of : Result AboutView AboutFault → List (ℕ × ℤ)
times_of (Ok about) = about.times
times_of (Err fault) = []

-- the times of lines: those that a machine says, and then those of an about document
abbrev pub times_in : Option Machine → Option DocumentValue → List (ℕ × ℤ)
times_in machine None = times_by machine
times_in machine (Some document) = times_by machine ++ times_of (about_in document.bytes)
