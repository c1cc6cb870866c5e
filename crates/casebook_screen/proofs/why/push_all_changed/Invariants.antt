use Rattle.std.proofs.Common.{◌≡◌, ◌++◌, take}
use Rattle.std.specs.Prelude.{flat_map}
use Rattle.casebook_screen.specs.Why.{changed_told}
use Rattle.casebook_screen.proofs.why.push_all_changed.Given as goal

abbrev pub invariant-loop-line : goal.invariant-loop-line
invariant-loop-line l =
    l.screen
    ≡ l.fn.screen
    ++ flat_map (changed_told l.explainer.case.now.recording l.explainer.case.now.repair l.explainer.summary.now.lines
    l.names.labels.now) (take l.line-index l.line-items)
