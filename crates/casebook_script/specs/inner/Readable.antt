-- What a script keeps that its document is read back as, and what the types of its lines say.
use Rattle.std.specs.Prelude.{◌≡◌, Bool, true, ◌&&◌, map}
use Rattle.retro_tree.specs.Lawful.{is_lawful_tree}
use Rattle.retro_tree.specs.Limits.{are_lawful_sessions}
use Rattle.retro_json.specs.NoNul.{sessions_without_nul, tree_without_nul}
use Rattle.retro_json.specs.Typed.{is_u32}
use Rattle.retro_keep.specs.Script.{ScriptValue, have_sessions, number_of, rises_from, sid_of}
use Rattle.retro_keep.specs.declared.script.ScriptLine.{ScriptLine}

abbrev pub line_typed : ScriptLine → Bool
line_typed line = is_u32 line.number && is_u32 line.sid

-- the tree and the sessions are lawful, no name in them has a NUL, numbers rise, and sessions exist
pub record IsReadable (script : ScriptValue) : Type 0 where
  pub tree : is_lawful_tree script.first.tree ≡ true
  pub tree_names : tree_without_nul script.first.tree ≡ true
  pub sessions : are_lawful_sessions script.first.sessions ≡ true
  pub session_names : sessions_without_nul script.first.sessions ≡ true
  pub rising : rises_from 0 (map number_of script.lines) ≡ true
  pub known : have_sessions script.first (map sid_of script.lines) ≡ true
