use Rattle.std.proofs.Common.{◌∙◌, ap}
use Rattle.std.specs.Result.{result_ok}
use Rattle.casebook_rows.specs.Reading.{digest_of}
use Rattle.casebook_rows.proofs.reading.digest_of.Goals as goal

pub returns : goal.returns
unfolding digest_of
returns c = c.ok.ensures.value ∙ ap result_ok c.from_hex.ensures
