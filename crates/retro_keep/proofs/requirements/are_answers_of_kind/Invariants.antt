use Rattle.std.proofs.Common.{◌≡◌, drop}
use Rattle.retro_keep.specs.Recording.{answers_are_of_kind}
use Rattle.retro_keep.proofs.requirements.are_answers_of_kind.Given as goal

abbrev pub invariant-loop-note : goal.invariant-loop-note
invariant-loop-note l = answers_are_of_kind (drop l.note-index l.notes) ≡ answers_are_of_kind l.notes
