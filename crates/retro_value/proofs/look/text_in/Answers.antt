use Rattle.std.proofs.Common.{◌∙◌}
use Rattle.json.specs.Value.{value_view}
use Rattle.retro_value.proofs.Borrowed.{text_is}
use Rattle.retro_value.proofs.look.text_in.Goals as goal

pub returns : goal.returns
returns c = c.as_str.ensures ∙ text_is (value_view c.args.value.now)
