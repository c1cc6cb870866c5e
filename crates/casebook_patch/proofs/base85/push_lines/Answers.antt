use Rattle.std.proofs.Common.{arith}
use Rattle.casebook_patch.specs.Binary.{line, line_limit}
use Rattle.casebook_patch.proofs.PieceLemmas.{all_written, written_more}
use Rattle.casebook_patch.proofs.base85.push_lines.Goals as goal

pub loop-piece-preserved : goal.loop-piece-preserved
loop-piece-preserved c =
    let step = c.in-Some.ensures.steps in
    written_more line line_limit c.args.text.now.items c.args.bytes.now c.loop-piece.text.items c.push_line.new.text.items c.in-Some.piece.now
    c.loop-piece.piece-iterator c.next.new.self (omega arith) c.loop-piece.invariant step.0 step.1.0 step.1.1 step.1.2
    c.in_ok-push_line.ensures

pub returns : goal.returns
returns c =
    all_written line line_limit c.args.text.now.items c.args.bytes.now c.loop-piece.text.items c.loop-piece.piece-iterator c.loop-piece.invariant
    c.in-None.ensures.steps.1.0
