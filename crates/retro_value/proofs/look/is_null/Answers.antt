use Rattle.std.proofs.Common.{◌∙◌}
use Rattle.json.specs.Value.{value_view}
use Rattle.retro_value.proofs.Borrowed.{null_is}
use Rattle.retro_value.proofs.look.is_null.Goals as goal

pub returns : goal.returns
returns c = c.is_null.ensures ∙ null_is (value_view c.args.value.now)
