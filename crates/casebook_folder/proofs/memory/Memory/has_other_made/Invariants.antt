use Rattle.std.proofs.Common.{◌≡◌, map}
use Rattle.std.specs.List.{list_any}
use Rattle.std.proofs.Math.ListN.{drop}
use Rattle.casebook_folder.specs.Steps.{after_steps}
use Rattle.casebook_folder.specs.inner.Memory.{contents_of, is_other, made_path}
use Rattle.casebook_folder.specs.Made.{step_of}
use Rattle.casebook_folder.proofs.memory.Memory.has_other_made.Given as goal

abbrev pub invariant-loop-step : goal.invariant-loop-step
invariant-loop-step l =
    list_any (is_other (after_steps (map step_of l.self.made.items) (contents_of l.self.first.items)) l.path l.names)
    (map made_path (drop l.step-index l.made))
    ≡ list_any (is_other (after_steps (map step_of l.self.made.items) (contents_of l.self.first.items)) l.path l.names)
    (map made_path l.made)
