use Rattle.std.proofs.Common.{◌∙◌, ◌<◌, arith, length, map, sym}
use Rattle.casebook_typed.specs.Values.{line_value, seen_value}
use Rattle.casebook_typed.proofs.AllLines.{listed_at, next_lines, next_sights, no_lines_left}
use Rattle.casebook_typed.proofs.typed.lines_after.Goals as goal

pub loop-at-preserved : goal.loop-at-preserved
loop-at-preserved c =
    let within : c.loop-at.at < length c.args.active.now = omega (arith, c.requires.each) in
    record {
      sights = next_sights c.args.first c.loop-at.sights c.in_ok-sights.sights c.args.observations.now c.loop-at.at
          c.index-observations-at.result c.index-observations-at.result c.loop-at-test.true c.index-observations-at.is
          c.loop-at.invariant.sights c.in_ok-sights.ensures;
      so_far = next_lines c.args.first c.loop-at.sights c.args.observations.now c.loop-at.at
          c.index-observations-at.result c.index-observations-at.result (map line_value c.loop-at.lines.items)
          (map line_value c.push_lines.new.lines.items) _ c.as_slice.result.now (seen_value c.in_ok-seen.seen)
          c.loop-at-test.true c.index-observations-at.is c.loop-at.invariant.sights
          (c.as_slice.ensures.value ∙ sym (listed_at c.args.active.now c.loop-at.at c.index-active-at.result c.index-active-at.result within c.index-active-at.is)
          ∙ c.requires.active c.loop-at.at c.loop-at-test.true)
          c.in_ok-seen.ensures c.in_ok-push_lines.ensures c.loop-at.invariant.so_far;
    }

pub returns : goal.returns
returns c =
    no_lines_left c.args.first c.args.observations.now c.loop-at.at (map line_value c.loop-at.lines.items)
    c.loop-at-test.false c.loop-at.invariant.so_far
