-- The names of the observations so far.
use Rattle.std.proofs.Common.{◌≡◌, map, take}
use Rattle.casebook_typed.specs.Sessions.{session_names}
use Rattle.casebook_typed.specs.Seeing.{said}
use Rattle.casebook_typed.specs.inner.Places.{AreNames, names_in}
use Rattle.casebook_typed.proofs.names.Names.of.Given as goal

abbrev pub invariant-loop-observation : goal.invariant-loop-observation
invariant-loop-observation l = record {
  names : names_in l.names ≡ session_names (map said (take l.observation-index l.observations));
  places : AreNames l.names;
}
