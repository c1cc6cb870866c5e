-- The script of two tables, from the sessions and the lines that are read.
use Rattle.std.proofs.Common.{◌≡◌, ◌∙◌, ℕ, Bool, true, false, List, Some, None, Ok, Err, refl, subst, sym, ap}
use Rattle.std.specs.List.{list_all}
use Rattle.std.specs.Result.{result_ok}
use Rattle.std.specs.Prelude.{Option, option_and_then}
use Rattle.retro_tree.specs.Lawful.{is_lawful_tree}
use Rattle.retro_tree.specs.Limits.{are_lawful_sessions}
use Rattle.retro_tree.specs.Tree.{Tree}
use Rattle.retro_tree.proofs.Small.{none_some, some_same}
use Rattle.retro_keep.specs.declared.script.ScriptLine.{ScriptLine}
use Rattle.retro_json.specs.NoNul.{have_no_nul, sessions_without_nul, tree_without_nul}
use Rattle.retro_json.specs.PathText.{is_short_name, is_written_name, names_in, path_of}
use Rattle.retro_json.specs.Steps.{◌>>=◌, guard}
use Rattle.retro_json.specs.declared.fault.Part.TheVariants.{Sessions}
use Rattle.retro_json.specs.declared.fault.Refusal.TheVariants.{OverLimit, WrongShape}
use Rattle.retro_json.proofs.Names.{path_with_nul}
use Rattle.casebook_script.specs.Lines.{lines_in}
use Rattle.casebook_script.specs.Paths.{path_named, path_of_text}
use Rattle.casebook_script.specs.Reads.{FailsAs}
use Rattle.casebook_script.specs.Scripts.{script_of_tables, script_text, script_text_of, script_with}
use Rattle.casebook_script.specs.Sessions.{SessionsValue, sessions_in}
use Rattle.casebook_script.specs.declared.fault.TableFault.{TableFault}
use Rattle.casebook_script.specs.declared.fault.TableFault.TheVariants as faults
use Rattle.casebook_script.specs.inner.Readable.{IsReadable}
use Rattle.casebook_script.proofs.Kept.{holds_of}
use Rattle.casebook_script.proofs.Lawful.{AreSound, table_sound}
use Rattle.casebook_script.proofs.Numbered.{AreNumbered, numbered_rise, table_numbered}

-- ---- the directories of sessions have no NUL

path_is : (w s : Bool) (names cwd : List (List ℕ))
    → result_ok (guard w (WrongShape Sessions) >>= λ u. guard s OverLimit >>= λ u. Ok names) ≡ Some cwd → names ≡ cwd
path_is true true names cwd h = some_same names cwd h
path_is true false names cwd h = absurd (none_some cwd h)
path_is false s names cwd h = absurd (none_some cwd h)

named_without_nul : (names cwd : List (List ℕ)) → path_named names ≡ Some cwd → have_no_nul cwd ≡ true
unfolding path_of
named_without_nul names cwd h =
    let same : names ≡ cwd = path_is (list_all is_written_name names) (list_all is_short_name names) names cwd h in
    subst (λ ns. have_no_nul ns ≡ true) same (by_test (have_no_nul names) refl)
  where
    by_test : (b : Bool) → have_no_nul names ≡ b → have_no_nul names ≡ true
    by_test true e = e
    by_test false e = absurd (none_some cwd (ap result_ok (sym (path_with_nul Sessions names e)) ∙ h))

path_without_nul : (text : List ℕ) (cwd : List (List ℕ)) → path_of_text text ≡ Some cwd → have_no_nul cwd ≡ true
path_without_nul text cwd h = at_names (names_in text) h
  where
    at_names : (o : Option (List (List ℕ))) → option_and_then path_named o ≡ Some cwd → have_no_nul cwd ≡ true
    at_names None h = absurd (cc)
    at_names (Some names) h = named_without_nul names cwd h

sessions_lawful : (sessions : SessionsValue) → AreSound have_no_nul path_without_nul sessions
    → are_lawful_sessions sessions ≡ true
unfolding are_lawful_sessions
sessions_lawful sessions h = h.0

sessions_plain : (sessions : SessionsValue) → AreSound have_no_nul path_without_nul sessions
    → sessions_without_nul sessions ≡ true
unfolding sessions_without_nul
sessions_plain sessions h = h.1

-- ---- scripts

pub script_made : (tree : Tree) (sessions lines : List ℕ) (found : SessionsValue) (listed : List ScriptLine)
    → sessions_in sessions ≡ Ok found → lines_in found lines ≡ Ok listed
    → script_of_tables tree sessions lines ≡ Ok (script_with tree found listed)
unfolding script_of_tables
script_made tree sessions lines found listed a b = rw (a, b) refl

pub text_made : (tree : Tree) (sessions lines : List ℕ) (found : SessionsValue) (listed : List ScriptLine)
    → sessions_in sessions ≡ Ok found → lines_in found lines ≡ Ok listed
    → script_text_of tree sessions lines ≡ Ok (script_text (script_with tree found listed))
unfolding script_text_of
text_made tree sessions lines found listed a b = rw (script_made tree sessions lines found listed a b) refl

no_sessions : (tree : Tree) (sessions lines : List ℕ) (e : TableFault) → sessions_in sessions ≡ Err e
    → script_text_of tree sessions lines ≡ Err e
unfolding script_text_of script_of_tables
no_sessions tree sessions lines e h = rw h refl

no_lines : (tree : Tree) (sessions lines : List ℕ) (found : SessionsValue) (e : TableFault)
    → sessions_in sessions ≡ Ok found → lines_in found lines ≡ Err e → script_text_of tree sessions lines ≡ Err e
unfolding script_text_of script_of_tables
no_lines tree sessions lines found e a h = rw (a, h) refl

pub sessions_fail : (tree : Tree) (sessions lines : List ℕ) (e : TableFault) → FailsAs e (sessions_in sessions)
    → FailsAs e (script_text_of tree sessions lines)
sessions_fail tree sessions lines faults.NoMem h = tt
sessions_fail tree sessions lines (faults.NotUtf8 table) h = no_sessions tree sessions lines (faults.NotUtf8 table) h
sessions_fail tree sessions lines (faults.BadRow table row why) h =
    no_sessions tree sessions lines (faults.BadRow table row why) h

pub lines_fail : (tree : Tree) (sessions lines : List ℕ) (found : SessionsValue) (e : TableFault)
    → sessions_in sessions ≡ Ok found → FailsAs e (lines_in found lines) → FailsAs e (script_text_of tree sessions lines)
lines_fail tree sessions lines found faults.NoMem a h = tt
lines_fail tree sessions lines found (faults.NotUtf8 table) a h =
    no_lines tree sessions lines found (faults.NotUtf8 table) a h
lines_fail tree sessions lines found (faults.BadRow table row why) a h =
    no_lines tree sessions lines found (faults.BadRow table row why) a h

pub readable : (tree : Tree) (sessions lines : List ℕ) (found : SessionsValue) (listed : List ScriptLine)
    → sessions_in sessions ≡ Ok found → lines_in found lines ≡ Ok listed → is_lawful_tree tree ≡ true
    → tree_without_nul tree ≡ true → IsReadable (script_with tree found listed)
readable tree sessions lines found listed a b lawful plain =
    let sound = holds_of (AreSound have_no_nul path_without_nul) (sessions_in sessions) found
    (table_sound have_no_nul path_without_nul sessions) a in
    let numbered = holds_of (AreNumbered found) (lines_in found lines) listed (table_numbered found lines) b in
    record {
      tree = lawful;
      tree_names = plain;
      sessions = sessions_lawful found sound;
      session_names = sessions_plain found sound;
      rising = numbered_rise found listed numbered;
      known = numbered.known;
    }
