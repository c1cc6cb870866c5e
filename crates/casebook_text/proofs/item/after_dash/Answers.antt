use Rattle.casebook_text.proofs.ItemLemmas.{dash_from_strip}
use Rattle.casebook_text.proofs.item.after_dash.Goals as goal

pub returns : goal.returns
returns c = dash_from_strip c.args.text.now c.strip_prefix.result c.strip_prefix.ensures.cases
