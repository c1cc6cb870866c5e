use Rattle.std.proofs.Common.{◌≡◌, drop}
use Rattle.retro_keep.specs.Recording.{are_own}
use Rattle.retro_keep.proofs.requirements.are_notes_own.Given as goal

abbrev pub invariant-loop-note : goal.invariant-loop-note
invariant-loop-note l = are_own l.sid (drop l.note-index l.notes) ≡ are_own l.sid l.notes
