-- `grep` of operands (XCU grep).
use Rattle.std.specs.Prelude.{ℕ, ◌&&◌, ◌||◌, Bool, true, false, List, [], ◌∷◌, ◌++◌, Result, Ok, Err}
use Rattle.std.specs.Prelude.{codes, if◌then◌else◌}
use Rattle.std.specs.List.{list_any}
use Rattle.retro_text.specs.Lines.{lines_in}
use Rattle.retro_text.specs.Search.{SearchValue, label_of, output_of, search_status, selected_lines, selects}
use Rattle.retro_tree.specs.declared.state.State.{State}
use Rattle.retro_utils.specs.Operands.{is_several}
use Rattle.retro_utils.specs.Reading.{sources, or_dash}
use Rattle.retro_utils.specs.Reasons.{fault_text}
use Rattle.retro_utils.specs.declared.done.Done.{Done}
use Rattle.retro_utils.specs.declared.input.Input.{Input}
use Rattle.retro_utils.specs.declared.reason.Reason.{Reason}
use Rattle.retro_utils.specs.declared.progress.Progress.{Progress}

-- a search that has read nothing
abbrev pub nothing_found : Progress
nothing_found = record { out = []; err = []; selected = false; fault = false }

-- the output for the bytes of an operand, and whether a line of them is selected
abbrev pub with_bytes : SearchValue → Bool → List ℕ → List ℕ → Progress → Progress
with_bytes w several operand bytes p = record p {
  out = p.out ++ output_of w (label_of several operand) (selected_lines w bytes);
  selected = p.selected || list_any (selects w) (lines_in bytes);
}

abbrev pub with_read_fault : List ℕ → Reason → Progress → Progress
with_read_fault operand reason p = record p { err = p.err ++ fault_text (codes "grep") operand reason; fault = true }

abbrev pub with_source : SearchValue → Bool → List ℕ × Result (List ℕ) Reason → Progress → Progress
with_source w several (operand, Ok bytes) p = with_bytes w several operand bytes p
with_source w several (operand, Err reason) p = with_read_fault operand reason p

-- each source in turn; under `-q` the first one with a selected line is the last
abbrev pub search_sources : SearchValue → Bool → List (List ℕ × Result (List ℕ) Reason) → Progress → Progress
search_sources w several [] p = p
search_sources w several (x ∷ more) p =
    if w.quiet && p.selected then p else search_sources w several more (with_source w several x p)

abbrev pub search_done : SearchValue → Progress → Done
search_done w p = record { out = p.out; err = p.err; status = search_status w.quiet p.selected p.fault }

-- what a search leaves of sources, where the files are given as operands
abbrev pub searched : SearchValue → List (List ℕ) → List (List ℕ × Result (List ℕ) Reason) → Done
searched w files all = search_done w (search_sources w (is_several files) all nothing_found)

unfoldable pub grep : ℕ → SearchValue → List (List ℕ) → Input → State → State × Done
grep sid w files input s = (s, searched w files (sources sid (or_dash files) input s))
