use Rattle.std.proofs.Common.{◌≡◌, map}
use Rattle.std.specs.List.{list_any}
use Rattle.std.proofs.Math.ListN.{drop}
use Rattle.casebook_folder.specs.Steps.{after_steps}
use Rattle.casebook_folder.specs.inner.Memory.{contents_of, entry_path, is_other}
use Rattle.casebook_folder.specs.Made.{step_of}
use Rattle.casebook_folder.proofs.memory.Memory.has_other.Given as goal

abbrev pub invariant-loop-entry : goal.invariant-loop-entry
invariant-loop-entry l =
    list_any (is_other (after_steps (map step_of l.self.made.items) (contents_of l.self.first.items)) l.path l.names)
    (map entry_path (drop l.entry-index l.entries))
    ≡ list_any (is_other (after_steps (map step_of l.self.made.items) (contents_of l.self.first.items)) l.path l.names)
    (map entry_path l.entries)
