-- What is known so far, and what is still to come.
use Rattle.std.proofs.Common.{◌≡◌, drop}
use Rattle.std.specs.BTreeMap.{get_by}
use Rattle.std.specs.List.{fold}
use Rattle.retro_path.specs.Order.{path_cmp}
use Rattle.retro_path.specs.Path.{PathValue}
use Rattle.casebook_repairs.specs.Attributes.{after_seen, last_of}
use Rattle.casebook_repairs.proofs.attributes.last_of.Given as goal

abbrev pub invariant-loop-one : goal.invariant-loop-one
invariant-loop-one l =
    (p : PathValue) → fold (after_seen l.kind l.recording.lines p) (get_by (path_cmp p) l.known) (drop l.one-index l.seen)
    ≡ last_of l.kind l.recording.lines p l.seen
