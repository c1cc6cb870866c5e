use Rattle.std.proofs.Common.{◌≡◌, ◌++◌, drop, map}
use Rattle.casebook_spool.proofs.reading.slices_of.Given as goal

abbrev pub invariant-loop-text : goal.invariant-loop-text
invariant-loop-text l =
    map (λ slice. slice.now) l.slices.items ++ map (λ text. text.items) (drop l.text-index l.texts)
    ≡ map (λ text. text.items) l.texts
