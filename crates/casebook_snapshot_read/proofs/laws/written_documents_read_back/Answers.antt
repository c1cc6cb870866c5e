use Rattle.casebook_snapshot_read.proofs.DocumentTrip.{document_again}
use Rattle.casebook_snapshot_read.proofs.laws.written_documents_read_back.Goals as goal

pub returns : goal.returns
returns c = document_again
