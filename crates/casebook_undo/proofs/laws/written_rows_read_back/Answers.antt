use Rattle.casebook_undo.proofs.ReadBack.{bytes_read_back}
use Rattle.casebook_undo.proofs.laws.written_rows_read_back.Goals as goal

pub returns : goal.returns
returns c = bytes_read_back
