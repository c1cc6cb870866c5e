use Rattle.std.proofs.Common.{◌∙◌, ◌||◌, ap}
use Rattle.std.specs.List.{list_any}
use Rattle.casebook_profile.specs.UnknownLines.{notes_setting}
use Rattle.casebook_profile.specs.inner.Scopes.{knows}
use Rattle.casebook_profile.proofs.FindingLemmas.{more_found, more_known}
use Rattle.casebook_profile.proofs.finding.unknown_lines.Goals as goal

pub loop-line-preserved : goal.loop-line-preserved
loop-line-preserved c =
    let first = c.args.recording.now.first in
    let lines = c.lines-line-items.result.now in
    record {
      known = more_known first lines c.loop-line.line-index c.line-item.result c.loop-line-test.true c.line-item.is
          (knows c.loop-line.knowledge) (knows c.learn.new.self) c.loop-line.invariant.known
          (λ q m. c.in_ok-learn.ensures q m
          ∙ ap (λ ns. knows c.loop-line.knowledge q m || list_any (notes_setting q m) ns) c.as_slice.ensures);
      found = more_found first lines c.loop-line.line-index c.line-item.result c.loop-line-test.true c.line-item.is
          (knows c.loop-line.knowledge) c.loop-line.invariant.known c.loop-line.found.items c.push_unknown.new.found.items
          _ c.loop-line.invariant.found c.in_ok-push_unknown.ensures;
    }
