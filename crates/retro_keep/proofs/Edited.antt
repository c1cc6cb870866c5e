-- Edited lines and scripts.
use Rattle.std.proofs.Common.{◌≡◌, ◌∙◌, ℕ, ◌<◌, ◌==◌, Bool, true, false, not, List, [], ◌∷◌, ◌++◌}
use Rattle.std.proofs.Common.{map, cond, nat_lt, Option, None, Some, Ok, Err, IsTrue, refl, ap, sym}
use Rattle.std.proofs.Common.{subst, arith}
use Rattle.std.specs.Prelude.{IsOk}
use Rattle.std.specs.FinMap as map_of
use Rattle.std.specs.Option.{is_some, option_or}
use Rattle.std.specs.Ordering.{nat_cmp}
use Rattle.std.proofs.lemmas.Bool.{eqb-true, false≢true, ltb-true, lt-ltb}
use Rattle.retro_tree.specs.declared.state.State.{State}
use Rattle.retro_tree.proofs.Small.{first_true, both_true, and_true}
use Rattle.retro_keep.specs.Script.{ScriptValue, IsScript, number_of, sid_of, rises_from}
use Rattle.retro_keep.specs.Script.{have_sessions}
use Rattle.retro_keep.specs.Edit.{edit, edit_of, edited, edited_number, edited_script, edits_tested}
use Rattle.retro_keep.specs.Edit.{has_line, least, line_run, not_lines, refusal_by}
use Rattle.retro_keep.specs.Edit.{script_edits_tested, sooner, text_run, too_early, twice_edited}
use Rattle.retro_keep.specs.Edit.{unless_refused}
use Rattle.retro_keep.specs.declared.edit.Edit.{Edit}
use Rattle.retro_keep.specs.declared.edit.Edit.TheVariants.{Cancel, Replace}
use Rattle.retro_keep.specs.declared.edit_fault.EditRefusal.TheVariants.{TwoEdits, NoSuchLine}
use Rattle.retro_keep.specs.declared.script.ScriptLine.{ScriptLine}

-- ---- edits of two lists

-- the first edit of a line is in the first list, or else in the second one
pub edit_of_append : (one two : List Edit) (n : ℕ)
    → edit_of (one ++ two) n ≡ option_or (edit_of one n) (edit_of two n)
edit_of_append [] two n = refl
edit_of_append (e ∷ one) two n = by_test (edited_number e == n) (edit_of_append one two n)
  where
    by_test : (b : Bool) → edit_of (one ++ two) n ≡ option_or (edit_of one n) (edit_of two n)
        → cond b (Some e) (edit_of (one ++ two) n)
        ≡ option_or (cond b (Some e) (edit_of one n)) (edit_of two n)
    by_test true rest = refl
    by_test false rest = rest

line_in_turn : (second : ℕ → Option Edit) (l : ScriptLine) (rest : List ScriptLine)
    (first : Option Edit)
    → (is_some first ≡ true → second l.number ≡ None)
    → edited second (line_run l (text_run first l.text) ++ rest)
    ≡ line_run l (text_run (option_or first (second l.number)) l.text) ++ edited second rest
line_in_turn second l rest None apart = refl
line_in_turn second l rest (Some (Cancel n)) apart = refl
line_in_turn second l rest (Some (Replace n new)) apart =
    let changed : ScriptLine = record { number = l.number; sid = l.sid; text = new } in
    ap (λ e. line_run changed (text_run e new) ++ edited second rest) (apart refl)

lines_in_turn : (first second both : ℕ → Option Edit) (lines : List ScriptLine)
    → ((n : ℕ) → both n ≡ option_or (first n) (second n))
    → ((n : ℕ) → is_some (first n) ≡ true → second n ≡ None)
    → edited second (edited first lines) ≡ edited both lines
lines_in_turn first second both [] same apart = refl
lines_in_turn first second both (l ∷ lines) same apart =
    line_in_turn second l (edited first lines) (first l.number) (apart l.number)
    ∙ ap (λ e. line_run l (text_run e l.text) ++ edited second (edited first lines))
    (sym (same l.number))
    ∙ ap (λ rest. line_run l (text_run (both l.number) l.text) ++ rest)
    (lines_in_turn first second both lines same apart)

-- edits of different lines that are made in turn are made together
pub edited_in_turn : (first second : List Edit) (lines : List ScriptLine)
    → ((n : ℕ) → is_some (edit_of first n) ≡ true → edit_of second n ≡ None)
    → edited (edit_of second) (edited (edit_of first) lines)
    ≡ edited (edit_of (first ++ second)) lines
edited_in_turn first second lines apart =
    lines_in_turn (edit_of first) (edit_of second) (edit_of (first ++ second)) lines
    (edit_of_append first second) apart

-- ---- edits that aren't refused

least_none : (numbers : List ℕ) → least numbers ≡ None → numbers ≡ []
least_none [] e = refl
least_none (n ∷ numbers) e = by_rest (least numbers) e
  where
    by_rest : (rest : Option ℕ) → sooner (Some n) rest ≡ None → n ∷ numbers ≡ []
    by_rest None f = cc
    by_rest (Some m) f = cc

none_missing : (twice early missing : Option ℕ) → refusal_by twice early missing ≡ Ok tt
    → missing ≡ None
none_missing (Some n) early missing e = cc
none_missing None (Some n) missing e = cc
none_missing None None (Some n) e = cc
none_missing None None None e = refl

named : (is_line : ℕ → Bool) (edits : List Edit) (n : ℕ) → not_lines is_line edits ≡ []
    → is_some (edit_of edits n) ≡ true → is_line n ≡ true
named is_line [] n none is = absurd (false≢true is)
named is_line (e ∷ edits) n none is =
    by_tests (is_line (edited_number e)) (edited_number e == n) refl refl none is
    (named is_line edits n)
  where
    by_tests : (b c : Bool) → is_line (edited_number e) ≡ b → (edited_number e == n) ≡ c
        → cond (not b) (edited_number e ∷ not_lines is_line edits) (not_lines is_line edits) ≡ []
        → is_some (cond c (Some e) (edit_of edits n)) ≡ true
        → (not_lines is_line edits ≡ [] → is_some (edit_of edits n) ≡ true → is_line n ≡ true)
        → is_line n ≡ true
    by_tests false c line same f g rest = cc
    by_tests true true line same f g rest =
        ap is_line (sym (eqb-true (edited_number e) n same)) ∙ line
    by_tests true false line same f g rest = rest f g

-- a line with an edit that isn't refused exists
pub edited_are_lines : (from : ℕ) (is_line : ℕ → Bool) (edits : List Edit)
    → edits_tested from is_line edits ≡ Ok tt
    → (n : ℕ) → is_some (edit_of edits n) ≡ true → is_line n ≡ true
unfolding edits_tested
edited_are_lines from is_line edits tested n is =
    named is_line edits n
    (least_none (not_lines is_line edits)
    (none_missing (least (twice_edited edits)) (least (too_early from edits))
    (least (not_lines is_line edits)) tested)) is

-- ---- edited lines make a script

rises_from_less : (m n : ℕ) (numbers : List ℕ) → m < n → IsTrue (rises_from n numbers)
    → IsTrue (rises_from m numbers)
rises_from_less m n [] less rising = refl
rises_from_less m n (number ∷ numbers) less rising =
    let above = ltb-true n number (first_true (nat_lt n number) _ rising) in
    and_true _ _ (lt-ltb m number (omega arith)) (both_true (nat_lt n number) _ rising)

rises_with : (n : ℕ) (l : ScriptLine) (text : Option (List ℕ)) (rest : List ScriptLine)
    → nat_lt n l.number ≡ true
    → IsTrue (rises_from l.number (map number_of rest))
    → IsTrue (rises_from n (map number_of (line_run l text ++ rest)))
rises_with n l None rest above later =
    rises_from_less n l.number _ (ltb-true n l.number above) later
rises_with n l (Some text) rest above later = and_true _ _ above later

-- the numbers of edited lines rise
pub rises_edited : (of : ℕ → Option Edit) (n : ℕ) (lines : List ScriptLine)
    → IsTrue (rises_from n (map number_of lines))
    → IsTrue (rises_from n (map number_of (edited of lines)))
rises_edited of n [] rising = refl
rises_edited of n (l ∷ lines) rising =
    rises_with n l (text_run (of l.number) l.text) (edited of lines)
    (first_true (nat_lt n l.number) _ rising)
    (rises_edited of l.number lines (both_true (nat_lt n l.number) _ rising))

known_with : (first : State) (l : ScriptLine) (text : Option (List ℕ))
    (lines rest : List ScriptLine)
    → IsTrue (have_sessions first (map sid_of (l ∷ lines)))
    → IsTrue (have_sessions first (map sid_of rest))
    → IsTrue (have_sessions first (map sid_of (line_run l text ++ rest)))
known_with first l None lines rest known later = later
known_with first l (Some text) lines rest known later =
    and_true _ _ (first_true _ (have_sessions first (map sid_of lines)) known) later

-- the sessions of edited lines exist
pub known_edited : (first : State) (of : ℕ → Option Edit) (lines : List ScriptLine)
    → IsTrue (have_sessions first (map sid_of lines))
    → IsTrue (have_sessions first (map sid_of (edited of lines)))
known_edited first of [] known = refl
known_edited first of (l ∷ lines) known =
    known_with first l (text_run (of l.number) l.text) lines (edited of lines) known
    (known_edited first of lines (both_true _ (have_sessions first (map sid_of lines)) known))

-- an edited script is a script
pub script_edited : (of : ℕ → Option Edit) (script : ScriptValue) → IsScript script
    → IsScript (edited_script of script)
script_edited of script is = record {
  lawful = is.lawful;
  rising = rises_edited of 0 script.lines is.rising;
  known = known_edited script.first of script.lines is.known;
}

-- ---- edits by their map

-- lines that are edited by a map of edits
pub edited_by_map : (m : map_of.FinMap nat_cmp Edit) (edits : List Edit) (lines : List ScriptLine)
    → ((n : ℕ) → map_of.get m n ≡ edit_of edits n)
    → edited (map_of.get m) lines ≡ edited (edit_of edits) lines
edited_by_map m edits lines same = ap (λ (of : ℕ → Option Edit). edited of lines) (λ i n. same n i)

pub is_script : (m : map_of.FinMap nat_cmp Edit) (script : ScriptValue) (lines : List ScriptLine)
    → lines ≡ edited (map_of.get m) script.lines → IsScript script
    → IsScript (record { first = script.first; lines = lines })
is_script m script lines made is =
    subst (λ ls. IsScript (record { first = script.first; lines = ls })) (sym made)
    (script_edited (map_of.get m) script is)

-- the edited script by what the tests of its edits found
tested_by : (twice missing : Option ℕ) (edits : List Edit) (script : ScriptValue)
    → twice ≡ least (twice_edited edits) → missing ≡ least (not_lines (has_line script) edits)
    → edit edits script
    ≡ unless_refused (refusal_by twice None missing) (edited_script (edit_of edits) script)
unfolding edit script_edits_tested
tested_by twice missing edits script twice_is missing_is =
    sym (λ i. unless_refused (refusal_by (twice_is i) None (missing_is i))
    (edited_script (edit_of edits) script))

pub edit_twice : (n : ℕ) (edits : List Edit) (script : ScriptValue)
    → Some n ≡ least (twice_edited edits) → edit edits script ≡ Err (TwoEdits n)
edit_twice n edits script twice =
    tested_by (Some n) (least (not_lines (has_line script) edits)) edits script twice refl

pub edit_missing : (n : ℕ) (edits : List Edit) (script : ScriptValue)
    → None ≡ least (twice_edited edits) → Some n ≡ least (not_lines (has_line script) edits)
    → edit edits script ≡ Err (NoSuchLine n)
edit_missing n edits script twice missing = tested_by None (Some n) edits script twice missing

-- no edit is refused, so only memory can be missing
pub edit_accepted : (edits : List Edit) (script : ScriptValue)
    → None ≡ least (twice_edited edits) → None ≡ least (not_lines (has_line script) edits)
    → IsOk (edit edits script)
edit_accepted edits script twice missing =
    subst IsOk (sym (tested_by None None edits script twice missing)) refl

pub edit_ok : (m : map_of.FinMap nat_cmp Edit) (edits : List Edit) (script : ScriptValue)
    (lines : List ScriptLine)
    → None ≡ least (twice_edited edits) → None ≡ least (not_lines (has_line script) edits)
    → ((n : ℕ) → map_of.get m n ≡ edit_of edits n)
    → lines ≡ edited (map_of.get m) script.lines
    → edit edits script ≡ Ok (record { first = script.first; lines = lines })
edit_ok m edits script lines twice missing same made =
    tested_by None None edits script twice missing
    ∙ ap (λ ls. Ok (record { first = script.first; lines = ls }))
    (sym (made ∙ edited_by_map m edits script.lines same))
