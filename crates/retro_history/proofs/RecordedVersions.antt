-- What a recording's versions tell of the states before its lines.
use Rattle.std.proofs.Common.{◌≡◌, ℕ, Bool, true, false, ◌<◌, List, [], ◌∷◌, ◌++◌}
use Rattle.std.proofs.Common.{IsTrue, subst, nat_lt, refl, ap, sym, ◌∙◌, if◌then◌else◌, arith, max}
use Rattle.std.specs.List.{list_all}
use Rattle.std.proofs.lemmas.Bool.Decides.{nat_tests}
use Rattle.retro_tree.specs.Cell.{value}
use Rattle.retro_tree.specs.declared.cell.Cell.{Cell}
use Rattle.retro_tree.proofs.Small.{first_true, both_true}
use Rattle.retro_keep.specs.Script.{rises_from}
use Rattle.retro_keep.specs.Recording.{IsWellFormed, RecordingValue, last_state}
use Rattle.retro_keep.specs.declared.noted.Noted.{Noted}
use Rattle.retro_keep.specs.Recorded.{lines_below, recorded_before}
use Rattle.retro_history.specs.declared.rolled.Rolled.{Rolled}
use Rattle.retro_history.specs.Versions.{versions_by, versions}
use Rattle.retro_history.specs.Versions.{checkpoints, greatest_below, roll, rolled_back}
use Rattle.retro_history.specs.inner.Tracks.{VersionValue, whole_version, current}
use Rattle.retro_history.specs.inner.Tracks.{version_chain, checkpoint_numbers}
use Rattle.retro_history.proofs.Chains.{Lines, Rise, above, later, not_below, none_below}
use Rattle.retro_history.proofs.Rule.{current_value, rolls}
use Rattle.retro_history.proofs.Checkpoints.{numbers_of, greatest_current, chain_checkpoints, numbers_rise}

-- ---- a recording
module _ (c : Cell) (n : ℕ) (r : RecordingValue) where
  -- the version of a cell before line n
  abbrev pub version_at : VersionValue
  version_at = current c (lines_below n r.lines) (whole_version 0 (value c r.first))

  -- it has the recorded value
  pub recorded_value : version_at.value ≡ value c (recorded_before n r)
  unfolding recorded_before
  recorded_value = current_value c (lines_below n r.lines) (whole_version 0 (value c r.first)) r.first refl

  -- rolling back gives its checkpoint and its value
  pub recorded_rolled : Rise 0 r.lines
      → rolled_back c n r ≡ record { from = version_at.checkpoint; value = version_at.value }
  unfolding versions
  recorded_rolled rise =
      ap (λ (x : Rolled). roll n x (versions_by 0 (value c r.first) r.lines c)) (same (nat_lt 0 n))
      ∙ rolls c n 0 r.lines (whole_version 0 (value c r.first)) rise
    where
      start : Rolled
      start = record { from = 0; value = value c r.first }

      same : (b : Bool) → (if b then start else start) ≡ start
      same true = refl
      same false = refl

  -- its checkpoint is the greatest one below n
  pub recorded_checkpoint : Rise 0 r.lines → greatest_below n (checkpoints c r) ≡ version_at.checkpoint
  unfolding versions
  recorded_checkpoint rise =
      ap (λ k. max k (greatest_below n (numbers_of c (versions_by 0 (value c r.first) r.lines c))))
      (zero_either (nat_lt 0 n))
      ∙ greatest_current c n 0 r.lines (whole_version 0 (value c r.first)) (omega arith) rise
    where
      zero_either : (b : Bool) → ◌≡◌ {A = ℕ} (if b then 0 else 0) 0
      zero_either true = refl
      zero_either false = refl

-- the checkpoints of a cell's chain of versions are those of the rule
pub recorded_checkpoints : (c : Cell) (r : RecordingValue)
    → checkpoint_numbers (version_chain c r.lines (whole_version 0 (value c r.first))) ≡ checkpoints c r
unfolding versions
recorded_checkpoints c r = chain_checkpoints c r.lines (whole_version 0 (value c r.first))

-- the checkpoints of a cell begin with 0, and rise
pub checkpoints_rise : (c : Cell) (r : RecordingValue) → IsWellFormed r
    → (rest : List ℕ) × ((checkpoints c r ≡ 0 ∷ rest) × IsTrue (rises_from 0 rest))
unfolding versions
checkpoints_rise c r kept = (
  numbers_of c (versions_by 0 (value c r.first) r.lines c),
  (refl, numbers_rise c 0 0 r.lines (whole_version 0 (value c r.first)) (omega arith) kept.rising),
)

-- ---- the states before the lines
line_above : (low : ℕ) (done : Lines) (l : ℕ × Noted) (rest : Lines) → Rise low (done ++ l ∷ rest) → low < l.0
line_above low [] l rest rise = above low l rest rise
line_above low (d ∷ done) l rest rise =
    let up = above low d (done ++ l ∷ rest) rise in
    let on = line_above d.0 done l rest (later low d (done ++ l ∷ rest) rise) in
    omega (arith, up, on)

below_line : (low : ℕ) (done : Lines) (l : ℕ × Noted) (rest : Lines) → Rise low (done ++ l ∷ rest)
    → lines_below l.0 (done ++ l ∷ rest) ≡ done
below_line low [] l rest rise =
    ap (λ (b : Bool). if b then l ∷ lines_below l.0 rest else lines_below l.0 rest) (not_below l.0 l.0 (omega arith))
    ∙ none_below l.0 l.0 rest (omega arith) (later low l rest rise)
below_line low (d ∷ done) l rest rise =
    let on = later low d (done ++ l ∷ rest) rise in
    let up = line_above d.0 done l rest on in
    let yes : nat_lt d.0 l.0 ≡ true = grind (arith, nat_tests) in
    ap (λ (b : Bool). if b then d ∷ lines_below l.0 (done ++ l ∷ rest) else lines_below l.0 (done ++ l ∷ rest)) yes
    ∙ ap (λ ls. d ∷ ls) (below_line d.0 done l rest on)

-- before a line, the lines before it are done
pub recorded_before_line : (r : RecordingValue) (done : Lines) (l : ℕ × Noted) (rest : Lines) → Rise 0 r.lines
    → r.lines ≡ done ++ l ∷ rest → recorded_before l.0 r ≡ last_state done r.first
unfolding recorded_before
recorded_before_line r done l rest rise is =
    ap (λ ls. last_state ls r.first)
    (ap (lines_below l.0) is ∙ below_line 0 done l rest (subst (Rise 0) is rise))

all_below : (n : ℕ) (lines : Lines) → IsTrue (list_all (λ l. nat_lt l.0 n) lines) → lines_below n lines ≡ lines
all_below n [] h = refl
all_below n (l ∷ lines) h =
    ap (λ (b : Bool). if b then l ∷ lines_below n lines else lines_below n lines) (first_true (nat_lt l.0 n) _ h)
    ∙ ap (λ ls. l ∷ ls) (all_below n lines (both_true (nat_lt l.0 n) _ h))

-- after all lines, the last state is reached
pub recorded_after_all : (n : ℕ) (r : RecordingValue) → IsTrue (list_all (λ l. nat_lt l.0 n) r.lines)
    → recorded_before n r ≡ last_state r.lines r.first
unfolding recorded_before
recorded_after_all n r h = ap (λ ls. last_state ls r.first) (all_below n r.lines h)

-- ---- the laws
pub state_before_line : (r : RecordingValue) (done rest : Lines) (l : ℕ × Noted) → IsWellFormed r
    → r.lines ≡ done ++ l ∷ rest → recorded_before l.0 r ≡ last_state done r.first
state_before_line r done rest l kept is = recorded_before_line r done l rest kept.rising is

pub rolled_value : (c : Cell) (n : ℕ) (r : RecordingValue) → IsWellFormed r
    → (rolled_back c n r).value ≡ value c (recorded_before n r)
rolled_value c n r kept = ap (λ x. x.value) (recorded_rolled c n r kept.rising) ∙ recorded_value c n r

pub rolled_from : (c : Cell) (n : ℕ) (r : RecordingValue) → IsWellFormed r
    → (rolled_back c n r).from ≡ greatest_below n (checkpoints c r)
rolled_from c n r kept =
    ap (λ x. x.from) (recorded_rolled c n r kept.rising) ∙ sym (recorded_checkpoint c n r kept.rising)

pub ruleset states = (state_before_line, recorded_after_all)

pub ruleset rolling_back = (rolled_value, rolled_from)
