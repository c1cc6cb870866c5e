use Rattle.std.proofs.Common.{sym, ◌∙◌}
use Rattle.retro_edge.proofs.ReadLemmas.{loop_goes_on, loop_ends, loop_done}
use Rattle.retro_edge.specs.Paths.{path_named}
use Rattle.retro_edge.proofs.paths.paths_named.Goals as goal

pub loop-text-preserved : goal.loop-text-preserved
loop-text-preserved c =
    loop_goes_on path_named (λ s. s.now) c.loop-text.paths.items c.push.new.self.items c.args.texts.now
    c.loop-text.text-index _ c.in-Some.path
    c.loop-text-test.true c.in_ok-push-in-Some.ensures.items (sym c.in-Some.is ∙ c.in_ok-path.ensures)
    c.loop-text.invariant

pub returns-in-None : goal.returns-in-None
returns-in-None c =
    sym (loop_ends path_named (λ s. s.now) c.loop-text.paths.items c.args.texts.now c.loop-text.text-index _
    c.loop-text-test.true (sym c.in-None.is ∙ c.in_ok-path.ensures) c.loop-text.invariant)

pub returns : goal.returns
returns c =
    sym (loop_done path_named (λ s. s.now) c.loop-text.paths.items c.args.texts.now c.loop-text.text-index
    c.loop-text-test.false c.loop-text.invariant)
