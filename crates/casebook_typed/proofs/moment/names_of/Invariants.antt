-- The names of the lines so far.
use Rattle.std.proofs.Common.{◌≡◌, map, take}
use Rattle.casebook_typed.specs.Lines.{name_of}
use Rattle.casebook_typed.proofs.moment.names_of.Given as goal

abbrev pub invariant-loop-span : goal.invariant-loop-span
invariant-loop-span l = l.names.items ≡ map name_of (take l.span-index l.active)
