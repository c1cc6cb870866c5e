-- The parts so far are added, and the rest is still to add.
use denote.Shadow.{shadow}
use denote.Text.{Utf8}
use Rattle.std.proofs.Common.{◌≡◌, length}
use Rattle.retro_shell.specs.Fields.{add_split}
use Rattle.retro_shell.proofs.fields.Fields.add_split.Given as goal

abbrev pub invariant-loop-more : goal.invariant-loop-more
invariant-loop-more l = record {
  text : shadow (Utf8 l.rest);
  added : add_split l.rest l.self ≡ add_split l.text l.initial.self;
}

abbrev pub decreases-loop-more : goal.decreases-loop-more
decreases-loop-more l = length l.rest
