-- The line is the first one of those that are left.
use Rattle.std.proofs.Common.{◌≡◌, drop}
use Rattle.std.specs.List.{find}
use Rattle.casebook_typed.specs.Lines.{closes}
use Rattle.casebook_typed.proofs.moment.closing.Given as goal

abbrev pub invariant-loop-span : goal.invariant-loop-span
invariant-loop-span l =
    find (closes l.at l.is_ended) (drop l.span-index l.active) ≡ find (closes l.at l.is_ended) l.active
