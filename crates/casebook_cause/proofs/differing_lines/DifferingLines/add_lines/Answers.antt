use Rattle.std.proofs.Common.{◌∙◌, Option, ap}
use Rattle.retro_keep.specs.declared.noted.Noted.{Noted}
use Rattle.casebook_cause.specs.Cause.{notes_of}
use Rattle.casebook_cause.proofs.Places.{next_line}
use Rattle.casebook_cause.proofs.differing_lines.DifferingLines.add_lines.Goals as goal

pub loop-line-preserved : goal.loop-line-preserved
loop-line-preserved c = (
  λ n p has. c.add_line.ensures.kept n p (c.loop-line.invariant.0 n p has),
  next_line c.args.lines.now c.args.other.now.lines c.loop-line.line-index c.line-item.result
      c.as_slice.result.now c.notes_of-others.result.now c.loop-line.self.lines.keys c.add_line.new.self.lines.keys
      c.loop-line-test.true c.line-item.is c.as_slice.ensures
      (c.notes_of-others.ensures ∙ ap (λ (o : Option Noted). notes_of o) c.run_of.ensures.value)
      c.add_line.ensures.kept c.loop-line.invariant.1 c.in_ok-add_line.ensures.added,
)
