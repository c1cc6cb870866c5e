use Rattle.std.proofs.Common.{sym}
use Rattle.retro_text.specs.Numbers.{number_in}
use Rattle.retro_edge.proofs.ReadLemmas.{loop_goes_on, loop_ends, loop_done}
use Rattle.retro_edge.proofs.numbers.numbers_of.Goals as goal

pub loop-text-preserved : goal.loop-text-preserved
loop-text-preserved c =
    loop_goes_on number_in (λ s. s.now) c.loop-text.numbers.items c.push.new.self.items c.args.texts.now c.loop-text.text-index _
    c.in-Some.number
    c.loop-text-test.true c.in_ok-push-in-Some.ensures.items c.in-Some.ensures c.loop-text.invariant

pub returns-in-None : goal.returns-in-None
returns-in-None c =
    sym (loop_ends number_in (λ s. s.now) c.loop-text.numbers.items c.args.texts.now c.loop-text.text-index _
    c.loop-text-test.true c.in-None.ensures c.loop-text.invariant)

pub returns : goal.returns
returns c =
    sym (loop_done number_in (λ s. s.now) c.loop-text.numbers.items c.args.texts.now c.loop-text.text-index c.loop-text-test.false
    c.loop-text.invariant)
