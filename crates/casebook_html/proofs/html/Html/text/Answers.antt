use Rattle.casebook_html.proofs.SafeTexts.{line_safe}
use Rattle.casebook_html.proofs.html.Html.text.Goals as goal

pub push-requires : goal.push-requires
push-requires c = line_safe c.args.text c.as_str.ensures.safe c.as_str.ensures.bytes
