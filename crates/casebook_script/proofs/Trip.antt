-- A script is read back from its document.
use Rattle.std.proofs.Common.{◌≡◌, ℕ, ◌<◌, ◌≤◌, List, [], ◌∷◌, map, Bool, true, false, ◌&&◌, Some, Ok, nat_lt}
use Rattle.std.proofs.Common.{refl, arith}
use Rattle.std.specs.Prelude.{IsUtf8}
use Rattle.std.specs.List.{list_all}
use Rattle.std.proofs.lemmas.Bool.{and_parts, and_from, ltb-true, lt-ltb}
use Rattle.std.proofs.lemmas.Str.{is_utf8-from_IsUtf8}
use Rattle.serde_json.specs.Data.{depth, items_depth}
use Rattle.serde_json.specs.Read.{max_depth, read}
use Rattle.serde_json.specs.View.{items_of}
use Rattle.serde_json.specs.Written.{has_float}
use Rattle.retro_keep.specs.Script.{ScriptValue, number_of, rises_from, script_of_lines}
use Rattle.retro_keep.specs.declared.script.ScriptLine.{ScriptLine}
use Rattle.retro_json.specs.Steps.{each}
use Rattle.retro_json.specs.Typed.{is_u32, sessions_typed, tree_typed}
use Rattle.retro_json.proofs.Floats.{array_float, sessions_float, tree_float}
use Rattle.retro_json.proofs.Json.{item_list-items_of}
use Rattle.retro_json.proofs.Listed.{all_both}
use Rattle.retro_json.proofs.SessionsTrip.{sessions_again}
use Rattle.retro_json.proofs.TreeTrip.{tree_again}
use Rattle.retro_log.specs.Document.{script_in, script_of}
use Rattle.retro_log.specs.LinesPart.{line_of, lines_of}
use Rattle.retro_log.proofs.LogShape.{sessions_low, tree_low}
use Rattle.casebook_script.specs.Scripts.{line_data, lines_data, script_data}
use Rattle.casebook_script.specs.inner.Readable.{IsReadable, line_typed}

-- ---- no float, and few arrays

line_float : (line : ScriptLine) → has_float (line_data line) ≡ false
unfolding line_data
line_float line = refl

pub script_float : (script : ScriptValue) → has_float (script_data script) ≡ false
unfolding script_data lines_data
script_float script =
    rw (
      array_float line_data line_float script.lines,
      sessions_float script.first.sessions,
      tree_float script.first.tree,
    ) refl

line_low : (line : ScriptLine) → depth (line_data line) ≤ 1
unfolding line_data
line_low line = omega arith

items_low : (lines : List ScriptLine) → items_depth (items_of (map line_data lines)) ≤ 1
items_low [] = omega arith
items_low (line ∷ lines) =
    let a = line_low line in
    let b = items_low lines in
    omega (arith, a, b)

pub script_low : (script : ScriptValue) → depth (script_data script) ≤ max_depth
unfolding script_data lines_data
script_low script =
    let a = items_low script.lines in
    let b = sessions_low script.first.sessions in
    let c = tree_low script.first.tree in
    omega (arith, a, b, c)

-- ---- lines

is_counted : ScriptLine → Bool
is_counted line = nat_lt 0 line.number

line_again : (line : ScriptLine) → (is_counted line && line_typed line) ≡ true → line_of (line_data line) ≡ Ok line
unfolding line_of line_data is_counted
line_again line h =
    let a = and_parts (nat_lt 0 line.number) (line_typed line) h in
    let b = and_parts (is_u32 line.number) (is_u32 line.sid) a.1 in
    rw (b.0, a.0, b.1) refl

each_again : (lines : List ScriptLine) → list_all (λ line. is_counted line && line_typed line) lines ≡ true
    → each line_of (map line_data lines) ≡ Ok lines
unfolding each
each_again [] h = refl
each_again (line ∷ lines) h =
    let parts = and_parts (is_counted line && line_typed line) _ h in
    rw (line_again line parts.0, each_again lines parts.1) refl

all_counted : (n : ℕ) (lines : List ScriptLine) → rises_from n (map number_of lines) ≡ true
    → list_all is_counted lines ≡ true
unfolding is_counted
all_counted n [] h = refl
all_counted n (line ∷ lines) h =
    let parts = and_parts (nat_lt n line.number) _ h in
    let above = ltb-true n line.number parts.0 in
    let some : 0 < line.number = omega (arith, above) in
    and_from (nat_lt 0 line.number) _ (lt-ltb 0 line.number some) (all_counted line.number lines parts.1)

lines_again : (lines : List ScriptLine) → rises_from 0 (map number_of lines) ≡ true → list_all line_typed lines ≡ true
    → lines_of (lines_data lines) ≡ Ok lines
unfolding lines_of lines_data
lines_again lines rising typed =
    let again = each_again lines (all_both is_counted line_typed lines (all_counted 0 lines rising) typed) in
    rw (item_list-items_of (map line_data lines), again) refl

-- ---- scripts

value_again : (script : ScriptValue) → IsReadable script → tree_typed script.first.tree ≡ true
    → sessions_typed script.first.sessions ≡ true → list_all line_typed script.lines ≡ true
    → script_of (script_data script) ≡ Ok script
unfolding script_of script_data script_of_lines
value_again script h trees sessions lines =
    rw (
      tree_again script.first.tree h.tree trees h.tree_names,
      sessions_again script.first.sessions h.sessions sessions h.session_names,
      lines_again script.lines h.rising lines,
      h.rising,
      h.known,
    ) refl

-- a text that is read as the value of a script is its document
pub script_again : (text : List ℕ) (script : ScriptValue) → IsUtf8 text → read text ≡ Some (script_data script)
    → IsReadable script → tree_typed script.first.tree ≡ true → sessions_typed script.first.sessions ≡ true
    → list_all line_typed script.lines ≡ true → script_in text ≡ Ok script
unfolding script_in
script_again text script utf8 is h trees sessions lines =
    rw (is_utf8-from_IsUtf8 text utf8, is) (value_again script h trees sessions lines)
