-- The texts so far, and those of the lines that are left.
use Rattle.std.proofs.Common.{◌≡◌, ◌++◌}
use Rattle.std.specs.Prelude.{flat_map}
use Rattle.casebook_explain.specs.Noting.{texts_of}
use Rattle.casebook_explain.specs.inner.Sound.{HaveRuns}
use Rattle.casebook_explain.proofs.noting.all_texts.Given as goal

abbrev pub invariant-loop-line : goal.invariant-loop-line
invariant-loop-line l = record {
  texts : l.texts.items ++ flat_map (texts_of l.noting) l.line-iterator.rest.items
      ≡ flat_map (texts_of l.noting) l.fn.lines.items;
  runs : HaveRuns l.line-iterator.rest.items → HaveRuns l.fn.lines.items;
}
