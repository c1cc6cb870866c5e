use Rattle.std.proofs.Common.{rules}
use Rattle.std.specs.Prelude.{flat_map}
use Rattle.casebook_explain.specs.Noting.{texts_of}
use Rattle.casebook_explain.proofs.Runs.{line_moved, lines_before}
use Rattle.casebook_explain.proofs.noting.all_texts.Goals as goal

-- src/noting.rt:65:5
pub loop-line-preserved : goal.loop-line-preserved
loop-line-preserved c = record {
  texts =
      line_moved c.args.noting c.loop-line.texts.items c.append.new.self.items
      (flat_map (texts_of c.args.noting) c.args.lines.items) c.in-Some.line c.loop-line.line-iterator.rest.items
      c.next.new.self.rest.items (search rules) (search rules) c.loop-line.invariant.texts;
  runs = λ have. c.loop-line.invariant.runs
      (lines_before c.in-Some.line c.loop-line.line-iterator.rest.items
      c.next.new.self.rest.items (search rules) c.in_ok-texts_of.ensures.runs have);
}
