use Rattle.retro_syntax.proofs.WritingLemmas.{writing_is_read}
use Rattle.retro_syntax.proofs.SpellingLemmas.{reading_has_writing}
use Rattle.retro_syntax.proofs.lines.writing_is_read.Goals as goal

pub returns : goal.returns
returns c = record { read = writing_is_read; every = reading_has_writing }
