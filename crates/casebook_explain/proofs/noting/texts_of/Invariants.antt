-- The texts so far, and those of the runs that are left.
use Rattle.std.proofs.Common.{◌≡◌, ◌++◌, map}
use Rattle.retro_keep.specs.Recording.{noted_of}
use Rattle.casebook_explain.specs.inner.Sound.{AreRuns}
use Rattle.casebook_explain.proofs.noting.texts_of.Given as goal

abbrev pub invariant-loop-run : goal.invariant-loop-run
invariant-loop-run l = record {
  texts : l.texts.items ++ map noted_of l.run-iterator.rest.items
      ≡ l.initial.texts.items ++ map noted_of l.initial.run-iterator.rest.items;
  runs : AreRuns l.run-iterator.rest.items → AreRuns l.initial.run-iterator.rest.items;
}
