use Rattle.casebook_html.proofs.Harmless.{harmless}
use Rattle.casebook_html.proofs.laws.escaped_texts_are_harmless.Goals as goal

pub returns : goal.returns
returns c = harmless
