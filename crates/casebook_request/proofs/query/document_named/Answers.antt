use Rattle.casebook_request.proofs.NamedLemmas.{named_from_strip}
use Rattle.casebook_request.proofs.query.document_named.Goals as goal

pub returns : goal.returns
returns c = named_from_strip c.args.given.now c.strip_prefix.result c.strip_prefix.ensures.cases
