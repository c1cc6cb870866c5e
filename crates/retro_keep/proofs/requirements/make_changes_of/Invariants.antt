use Rattle.std.proofs.Common.{◌≡◌, ◌↔◌, drop}
use Rattle.retro_tree.specs.Notes.{after, AllAllowed}
use Rattle.retro_keep.proofs.requirements.make_changes_of.Given as goal

abbrev pub invariant-loop-note : goal.invariant-loop-note
invariant-loop-note l = record {
  allowed : AllAllowed (drop l.note-index l.notes) l.state ↔ AllAllowed l.notes l.fn.state;
  state : after (drop l.note-index l.notes) l.state ≡ after l.notes l.fn.state;
}
