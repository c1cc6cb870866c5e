use Rattle.std.proofs.Common.{◌≡◌, map}
use Rattle.std.proofs.Math.ListN.{drop}
use Rattle.casebook_folder.specs.inner.Memory.{at_after}
use Rattle.casebook_folder.specs.Made.{step_of}
use Rattle.casebook_folder.proofs.memory.found_after.Given as goal

abbrev pub invariant-loop-step : goal.invariant-loop-step
invariant-loop-step l =
    at_after (map step_of (drop l.step-index l.made)) l.path l.found ≡ at_after (map step_of l.fn.made) l.path l.fn.before
