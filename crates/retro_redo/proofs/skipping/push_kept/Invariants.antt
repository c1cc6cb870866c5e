use Rattle.std.proofs.Common.{◌≡◌, ◌++◌, ◌+◌, ◌-◌, ◌≤◌, drop, length, map, replicate}
use Rattle.retro_redo.specs.inner.Keeping.{kept_line}
use Rattle.retro_redo.specs.declared.step.Step.TheVariants as steps
use Rattle.retro_redo.proofs.skipping.push_kept.Given as goal

abbrev pub invariant-loop-line : goal.invariant-loop-line
invariant-loop-line l = record {
  choices : l.choices.items ≡ l.fn.choices.items ++ replicate l.line-index steps.Keep;
  lines :
      l.lines.items ++ map kept_line (drop l.line-index l.unmet) ≡ l.fn.lines.items ++ map kept_line l.unmet;
  room : l.choices.len + (length l.unmet - l.line-index) ≤ l.choices.cap;
  lines_room : l.lines.len + (length l.unmet - l.line-index) ≤ l.lines.cap;
}
