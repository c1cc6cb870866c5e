use Rattle.std.proofs.Common.{◌++◌, map, rules}
use Rattle.retro_keep.specs.Recording.{noted_of}
use Rattle.casebook_explain.proofs.Runs.{run_moved, runs_before}
use Rattle.casebook_explain.proofs.noting.texts_of.Goals as goal

-- src/noting.rt:52:5
pub loop-run-preserved : goal.loop-run-preserved
loop-run-preserved c = record {
  texts =
      run_moved c.loop-run.texts.items c.push-in-loop-run.new.self.items
      (c.match-next.texts.items ++ map noted_of c.into_iter-run-iterator.result.rest.items)
      c.in-Some-run.run' c.loop-run.run-iterator.rest.items
      c.next-in-loop-run.new.self.rest.items (search rules) (search rules)
      c.loop-run.invariant.texts;
  runs = λ are. c.loop-run.invariant.runs
      (runs_before c.in-Some-run.run' c.loop-run.run-iterator.rest.items
      c.next-in-loop-run.new.self.rest.items (search rules) c.of-in-loop-run.ensures.run are);
}
