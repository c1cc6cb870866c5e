use Rattle.casebook_html.proofs.SafeTexts.{line_safe}
use Rattle.casebook_html.proofs.html.Html.aside.Goals as goal

pub push-requires : goal.push-requires
push-requires c = line_safe c.args.line c.as_str.ensures.safe c.as_str.ensures.bytes
