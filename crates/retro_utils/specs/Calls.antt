-- What each utility does with the fields after its name: options by one rule (XBD 12.2), and the
-- forms of its synopsis (XCU chapter 4).
use Rattle.std.specs.Prelude.{ℕ, ◌-◌, ◌||◌, List, [], take, length, Option, option_map, slice_get}
use Rattle.std.specs.Prelude.{codes, if◌then◌else◌}
use Rattle.retro_text.specs.Ascii.{letter}
use Rattle.retro_text.specs.Cut.{cut_in}
use Rattle.retro_text.specs.Output.{echo_text}
use Rattle.retro_text.specs.Request.{Given, RequestValue, has_option, known_letters, request_in}
use Rattle.retro_text.specs.Search.{search_in}
use Rattle.retro_tree.specs.declared.state.State.{State}
use Rattle.retro_utils.specs.Cat.{cat}
use Rattle.retro_utils.specs.Cp.{cp}
use Rattle.retro_utils.specs.Cutting.{cut}
use Rattle.retro_utils.specs.Directories.{cd, pwd}
use Rattle.retro_utils.specs.Mkdir.{mkdir}
use Rattle.retro_utils.specs.MkdirParents.{mkdir_parents}
use Rattle.retro_utils.specs.Mv.{mv}
use Rattle.retro_utils.specs.Outcomes.{or_usage, output, usage}
use Rattle.retro_utils.specs.Rm.{rm}
use Rattle.retro_utils.specs.Searching.{grep}
use Rattle.retro_utils.specs.Tee.{tee}
use Rattle.retro_utils.specs.Users.{id}
use Rattle.retro_utils.specs.declared.done.Done.{Done}
use Rattle.retro_utils.specs.declared.input.Input.{Input}
use Rattle.retro_utils.specs.declared.mode.Mode.{Mode}
use Rattle.retro_utils.specs.declared.mode.Mode.TheVariants.{Truncate, Append}
use Rattle.retro_utils.specs.declared.place.Place.{Place}
use Rattle.retro_utils.specs.declared.removal.Removal.{Removal}

-- `pwd`
unfoldable pub pwd_call : ℕ → List (List ℕ) → State → State × Done
pwd_call sid fields s =
    or_usage (codes "pwd") (request_in (known_letters [] []) fields) (λ r. pwd sid r.operands) s

-- `cd [dir]`
unfoldable pub cd_call : Place → List (List ℕ) → State → State × Done
cd_call place fields s =
    or_usage (codes "cd") (request_in (known_letters [] []) fields) (λ r. cd place r.operands) s

-- `-u` can't be left out
abbrev pub id_request : RequestValue → State → State × Done
id_request r s = if has_option (letter (codes "u")) r.options then id r.operands s else (s, usage (codes "id"))

-- `id -u name`
unfoldable pub id_call : List (List ℕ) → State → State × Done
id_call fields s = or_usage (codes "id") (request_in (known_letters (codes "u") []) fields) id_request s

-- `cat [-u] [file..]`; `-u` changes nothing
unfoldable pub cat_call : ℕ → List (List ℕ) → Input → State → State × Done
cat_call sid fields input s =
    or_usage (codes "cat") (request_in (known_letters (codes "u") []) fields) (λ r. cat sid r.operands input) s

-- how `tee` opens its files
abbrev pub tee_mode : List Given → Mode
tee_mode options = if has_option (letter (codes "a")) options then Append else Truncate

-- `tee [-a] [file..]`
unfoldable pub tee_call : ℕ → List (List ℕ) → Input → State → State × Done
tee_call sid fields input s =
    or_usage (codes "tee") (request_in (known_letters (codes "a") []) fields)
    (λ r. tee sid (tee_mode r.options) r.operands input) s

abbrev pub cut_request : ℕ → Input → RequestValue → State → State × Done
cut_request sid input r s =
    or_usage (codes "cut") (cut_in r.options) (λ how. cut sid how r.operands input) s

-- `cut -b list [file..]` and `cut -f list [-d c] [-s] [file..]`
unfoldable pub cut_call : ℕ → List (List ℕ) → Input → State → State × Done
cut_call sid fields input s =
    or_usage (codes "cut") (request_in (known_letters (codes "s") (codes "bfd")) fields) (cut_request sid input) s

abbrev pub grep_request : ℕ → Input → RequestValue → State → State × Done
grep_request sid input r s = or_usage (codes "grep") (search_in r) (λ w. grep sid w.0 w.1 input) s

-- `grep -F [-vxcq] patterns [file..]`
unfoldable pub grep_call : ℕ → List (List ℕ) → Input → State → State × Done
grep_call sid fields input s =
    or_usage (codes "grep") (request_in (known_letters (codes "Fvxcq") []) fields) (grep_request sid input) s

abbrev pub mkdir_request : ℕ → RequestValue → State → State × Done
mkdir_request sid r s =
    if has_option (letter (codes "p")) r.options then mkdir_parents sid r.operands s else mkdir sid r.operands s

-- `mkdir [-p] dir..`
unfoldable pub mkdir_call : ℕ → List (List ℕ) → State → State × Done
mkdir_call sid fields s =
    or_usage (codes "mkdir") (request_in (known_letters (codes "p") []) fields) (mkdir_request sid) s

-- how `rm` removes
abbrev pub removal : List Given → Removal
removal options = record {
  forced = has_option (letter (codes "f")) options;
  recursive = has_option (letter (codes "r")) options || has_option (letter (codes "R")) options;
}

-- `rm [-frR] file..`
unfoldable pub rm_call : ℕ → List (List ℕ) → State → State × Done
rm_call sid fields s =
    or_usage (codes "rm") (request_in (known_letters (codes "frR") []) fields)
    (λ r. rm sid (removal r.options) r.operands) s

-- the last operand, and those before it
unfoldable pub split_last : List (List ℕ) → Option (List ℕ × List (List ℕ))
split_last operands =
    option_map (λ last. (last, take (length operands - 1) operands)) (slice_get operands (length operands - 1))

abbrev pub cp_request : ℕ → RequestValue → State → State × Done
cp_request sid r s = or_usage (codes "cp") (split_last r.operands) (λ o. cp sid o.0 o.1) s

-- `cp source target` and `cp source.. dir`
unfoldable pub cp_call : ℕ → List (List ℕ) → State → State × Done
cp_call sid fields s =
    or_usage (codes "cp") (request_in (known_letters [] []) fields) (cp_request sid) s

abbrev pub mv_request : ℕ → RequestValue → State → State × Done
mv_request sid r s = or_usage (codes "mv") (split_last r.operands) (λ o. mv sid o.0 o.1) s

-- `mv [-f] source target` and `mv [-f] source.. dir`; `-f` changes nothing
unfoldable pub mv_call : ℕ → List (List ℕ) → State → State × Done
mv_call sid fields s =
    or_usage (codes "mv") (request_in (known_letters (codes "f") []) fields) (mv_request sid) s

-- `echo [-n] [text..]`, which has no options
abbrev pub echo : List (List ℕ) → Done
echo fields = output (echo_text fields)
