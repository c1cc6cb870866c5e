-- Objects as `serde_json` keeps them, and lines as they are.
use Rattle.std.proofs.Common.{◌≡◌, ℕ, List, [], ◌∷◌, map, refl, ap, Bool, ◌&&◌, String, Global, BTreeMap, string_bytes}
use Rattle.std.specs.BTreeMap.{keys}
use Rattle.std.specs.Map.{keys_of}
use Rattle.std.specs.List.{list_all}
use Rattle.serde_json.specs.View.{members_view}
use Rattle.serde_json.specs.declared.value.Value.{Value}
use Rattle.retro_keep.specs.declared.script.ScriptLine.{ScriptLine}
use Rattle.retro_log.specs.Document.{has_keys}

-- a test of all keys of an object
pub keys_of_entries : (p : List ℕ → Bool) (es : List (String Global × Value))
    → has_keys p (members_view es) ≡ list_all (λ k. p (string_bytes k)) (keys_of es)
keys_of_entries p [] = refl
keys_of_entries p (e ∷ es) = ap (λ b. p (string_bytes e.0) && b) (keys_of_entries p es)

pub keys_of_members : (p : List ℕ → Bool) (m : BTreeMap (String Global) Value)
    → has_keys p (members_view m.entries) ≡ list_all (λ k. p (string_bytes k)) (keys m)
keys_of_members p m = keys_of_entries p m.entries

pub map_same : (lines : List ScriptLine) → map (λ line. line) lines ≡ lines
map_same [] = refl
map_same (line ∷ lines) = ap (λ (rest : List ScriptLine). line ∷ rest) (map_same lines)
