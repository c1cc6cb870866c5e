use Rattle.casebook_words.specs.Words.{query_words}
use Rattle.casebook_words.proofs.query_words.push_query.Goals as goal

pub returns-in-CanWrite : goal.returns-in-CanWrite
unfolding query_words
returns-in-CanWrite c = rw c.in-CanWrite.is c.push_done-in-CanWrite.ensures
