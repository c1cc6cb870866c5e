use Rattle.std.proofs.Common.{arith, sym, ◌-◌}
use Rattle.casebook_view.proofs.Reasoning.{chain_ends, chain_more, chain_stops}
use Rattle.casebook_view.proofs.case_lines.CaseLines.chain.Goals as goal

pub loop-left-preserved : goal.loop-left-preserved
loop-left-preserved c =
    rw c.in_ok-push-in-Some.ensures.items
    (chain_more c.args.self.now c.loop-left.left c.loop-left.at c.loop-left.chain.items _ c.loop-left.invariant
    (c.loop-left.left - 1) c.in-Some.cause (omega arith) (sym c.in-Some.ensures))

pub returns-in-None : goal.returns-in-None
returns-in-None c =
    chain_stops c.args.self.now c.loop-left.left c.loop-left.at c.loop-left.chain.items _ c.loop-left.invariant
    (c.loop-left.left - 1) (omega arith) (sym c.in-None.ensures)

pub returns : goal.returns
returns c =
    chain_ends c.args.self.now c.loop-left.left c.loop-left.at c.loop-left.chain.items _ c.loop-left.invariant
    (omega arith)
