use Rattle.std.proofs.Common.{◌++◌, ap, arith, ◌∙◌}
use Rattle.casebook_patch.specs.Binary.{five_digits, five_of}
use Rattle.casebook_patch.proofs.PieceLemmas.{all_written, written_more}
use Rattle.casebook_patch.proofs.base85.push_digits.Goals as goal

pub loop-piece-preserved : goal.loop-piece-preserved
loop-piece-preserved c =
    let step = c.in-Some.ensures.steps in
    written_more five_of 4 c.args.text.now.items c.args.bytes.now c.loop-piece.text.items c.extend_from_slice.new.self.items
    c.in-Some.piece.now c.loop-piece.piece-iterator c.next.new.self (omega arith) c.loop-piece.invariant step.0 step.1.0 step.1.1
    step.1.2
    (c.in_ok-extend_from_slice.ensures.items
    ∙ ap (λ ds. c.loop-piece.text.items ++ ds) (c.five_digits.ensures ∙ ap five_digits c.number_of.ensures))

pub returns : goal.returns
returns c =
    all_written five_of 4 c.args.text.now.items c.args.bytes.now c.loop-piece.text.items c.loop-piece.piece-iterator
    c.loop-piece.invariant c.in-None.ensures.steps.1.0
