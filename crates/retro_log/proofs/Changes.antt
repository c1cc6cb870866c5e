-- The test of a log's changes is exact, and so is the recording of a state and lines.
use Rattle.std.proofs.Common.{◌≡◌, ◌≤◌, ℕ, Bool, true, false, not, ◌&&◌, List, [], ◌∷◌, map, Ok, Err, refl, ap}
use Rattle.std.specs.List.{list_all}
use Rattle.std.proofs.lemmas.Bool.{and_parts, false≢true}
use Rattle.retro_tree.specs.Change.{IsLawfulChange, apply, grows_dir, has_its_session}
use Rattle.retro_tree.specs.Lawful.{IsLawful, is_lawful}
use Rattle.retro_tree.specs.Notes.{AllAllowed, after}
use Rattle.retro_tree.specs.declared.change.Change.{Change}
use Rattle.retro_tree.specs.declared.note.Note.{Note}
use Rattle.retro_tree.specs.declared.note.Note.TheVariants.{Asked, Made}
use Rattle.retro_tree.specs.declared.state.State.{State}
use Rattle.retro_tree.proofs.WholeLaw.{state_from_test, test_from_state}
use Rattle.retro_keep.specs.Recording.{AllLinesAllowed, IsWellFormed, RecordingValue, is_line_of_kind, is_own_line}
use Rattle.retro_keep.specs.Recording.{none_below, number_in}
use Rattle.retro_keep.specs.Script.{rises_from}
use Rattle.retro_keep.specs.RecordingFault.{IsFaultOf, numbers_rise, sessions_exist}
use Rattle.retro_keep.specs.declared.noted.Noted.{Noted}
use Rattle.retro_keep.specs.declared.recording_fault.RecordingFault.{RecordingFault}
use Rattle.retro_keep.specs.declared.recording_fault.RecordingFault.TheVariants as recording
use Rattle.retro_json.specs.declared.fault.Refusal.TheVariants.{LawlessTree}
use Rattle.retro_log.specs.Allowed.{are_allowed, are_lines_allowed, is_lawful_change}
use Rattle.retro_log.specs.Document.{recording_of}
use Rattle.retro_json.specs.ReadsAs.{FailsAs}
use Rattle.retro_json.specs.RecordingFaults.{recording_fault}

off : (b : Bool) → not b ≡ true → b ≡ false
off true h = absurd (false≢true h)
off false h = refl

and_both : (a b : Bool) → a ≡ true → b ≡ true → a && b ≡ true
and_both a b h g = rw (h, g) refl

change_from_test : (c : Change) (s : State) → is_lawful_change c s ≡ true → IsLawfulChange c s
change_from_test c s h =
    let first = and_parts (not (grows_dir c s)) (has_its_session c s && is_lawful (apply c s)) h in
    let rest = and_parts (has_its_session c s) (is_lawful (apply c s)) first.1 in
    record {
      growth = off (grows_dir c s) first.0;
      session = rest.0;
      after = state_from_test (apply c s) rest.1;
    }

test_from_change : (c : Change) (s : State) → IsLawfulChange c s → is_lawful_change c s ≡ true
test_from_change c s h =
    and_both (not (grows_dir c s)) (has_its_session c s && is_lawful (apply c s)) (ap not h.growth)
    (and_both (has_its_session c s) (is_lawful (apply c s)) h.session (test_from_state (apply c s) h.after))

notes_from_test : (notes : List Note) (s : State) → are_allowed notes s ≡ true → AllAllowed notes s
notes_from_test [] s h = tt
notes_from_test (Asked a r ∷ notes) s h = notes_from_test notes s h
notes_from_test (Made c ∷ notes) s h =
    let parts = and_parts (is_lawful_change c s) (are_allowed notes (apply c s)) h in
    (change_from_test c s parts.0, notes_from_test notes (apply c s) parts.1)

test_from_notes : (notes : List Note) (s : State) → AllAllowed notes s → are_allowed notes s ≡ true
test_from_notes [] s h = refl
test_from_notes (Asked a r ∷ notes) s h = test_from_notes notes s h
test_from_notes (Made c ∷ notes) s h =
    and_both (is_lawful_change c s) (are_allowed notes (apply c s)) (test_from_change c s h.0)
    (test_from_notes notes (apply c s) h.1)

lines_from_test : (lines : List (ℕ × Noted)) (s : State) → are_lines_allowed lines s ≡ true → AllLinesAllowed lines s
lines_from_test [] s h = tt
lines_from_test (l ∷ lines) s h =
    let parts = and_parts (are_allowed l.1.notes s) (are_lines_allowed lines (after l.1.notes s)) h in
    (notes_from_test l.1.notes s parts.0, lines_from_test lines (after l.1.notes s) parts.1)

test_from_lines : (lines : List (ℕ × Noted)) (s : State) → AllLinesAllowed lines s → are_lines_allowed lines s ≡ true
test_from_lines [] s h = refl
test_from_lines (l ∷ lines) s h =
    and_both (are_allowed l.1.notes s) (are_lines_allowed lines (after l.1.notes s)) (test_from_notes l.1.notes s h.0)
    (test_from_lines lines (after l.1.notes s) h.1)

abbrev parts : State → ℕ → List (ℕ × Noted) → RecordingValue
parts first from lines = record { first = first; from = from; lines = lines }

pub recorded : (first : State) (from : ℕ) (lines : List (ℕ × Noted)) (r : RecordingValue)
    → IsWellFormed (parts first from lines) → r ≡ parts first from lines → recording_of first from lines ≡ Ok r
unfolding recording_of
recorded first from lines r formed is =
    rw (formed.rising, formed.not_before, formed.known, test_from_lines lines first formed.allowed, is) refl

unrecorded : (first : State) (from : ℕ) (lines : List (ℕ × Noted))
    → numbers_rise from lines ≡ true → sessions_exist first lines ≡ true → IsLawful first → 1 ≤ from
    → list_all is_own_line lines ≡ true → list_all is_line_of_kind lines ≡ true
    → (IsWellFormed (parts first from lines) → false ≡ true) → recording_of first from lines ≡ Err LawlessTree
unfolding recording_of
unrecorded first from lines rising known lawful begins own of_kind none =
    at_test (are_lines_allowed lines first) refl
  where
    formed : are_lines_allowed lines first ≡ true → IsWellFormed (parts first from lines)
    formed h =
        let numbers = and_parts (rises_from 0 (map number_in lines)) (none_below from lines) rising in
        record {
          lawful = lawful;
          begins = begins;
          rising = numbers.0;
          not_before = numbers.1;
          known = known;
          own = own;
          of_kind = of_kind;
          allowed = lines_from_test lines first h;
        }

    at_test : (b : Bool) → are_lines_allowed lines first ≡ b → recording_of first from lines ≡ Err LawlessTree
    at_test true h = absurd (false≢true (none (formed h)))
    at_test false h = rw (rising, known, h) refl

-- a fault of the lines is the refusal that reading gives
pub fault_read : (first : State) (from : ℕ) (lines : List (ℕ × Noted)) (fault : RecordingFault) → IsLawful first
    → 1 ≤ from → list_all is_own_line lines ≡ true → list_all is_line_of_kind lines ≡ true
    → IsFaultOf first from lines fault → FailsAs (recording_fault fault) (recording_of first from lines)
unfolding recording_of
fault_read first from lines recording.NumbersNotRising lawful begins own of_kind h = rw h refl
fault_read first from lines recording.UnknownSession lawful begins own of_kind h = rw (h.0, h.1) refl
fault_read first from lines recording.LawlessChange lawful begins own of_kind h =
    unrecorded first from lines h.0 h.1 lawful begins own of_kind (λ formed. h.2 formed.allowed)
fault_read first from lines recording.NoMem lawful begins own of_kind h = tt
