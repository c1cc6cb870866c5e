use Rattle.casebook_text.proofs.FileLemmas.{AreFoundTo, item_in, texts_of}
use Rattle.casebook_text.proofs.list_file.push_trimmed.Given as goal

abbrev pub invariant-loop-item : goal.invariant-loop-item
invariant-loop-item l = AreFoundTo item_in (texts_of l.fn.found.items) l.found.items l.items l.item-index
