use Rattle.std.proofs.Common.{string_bytes, take}
use Rattle.casebook_text.proofs.ShownLines.{AreWrittenTo}
use Rattle.casebook_text.proofs.shown_rows.push_fields.Given as goal

abbrev pub invariant-loop-index : goal.invariant-loop-index
invariant-loop-index l = AreWrittenTo (string_bytes l.fn.text) (string_bytes l.text) (take l.index l.fields)
