-- JSON values as data.
use Rattle.std.proofs.Common.{◌≡◌, Bool as Flag, rules}
use Rattle.serde_json.specs.Data.{boolean}
use Rattle.serde_json.specs.View.{view}
use Rattle.serde_json.specs.declared.value.Value.{Value, Bool, the_lemmas}

pub view_flag : (b : Flag) → view (Bool b) ≡ boolean b
view_flag b = search (rules, the_lemmas)
