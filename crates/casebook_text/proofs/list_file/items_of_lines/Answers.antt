use Rattle.std.proofs.Common.{[]}
use Rattle.casebook_text.specs.ListFile.{items_of_line}
use Rattle.casebook_text.proofs.FileLemmas.{next_text, no_text_left}
use Rattle.casebook_text.proofs.list_file.items_of_lines.Goals as goal

pub loop-line-preserved : goal.loop-line-preserved
loop-line-preserved c =
    next_text items_of_line [] c.loop-line.found.items c.push_items.new.found.items c.args.lines.now c.loop-line.line-index _
    c.loop-line-test.true c.in_ok-push_items.ensures c.loop-line.invariant

pub returns : goal.returns
returns c =
    no_text_left items_of_line [] c.loop-line.found.items c.args.lines.now c.loop-line.line-index c.loop-line-test.false
    c.loop-line.invariant
