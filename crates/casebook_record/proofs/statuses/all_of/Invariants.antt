use Rattle.std.proofs.Common.{◌≡◌, ◌++◌, drop, map}
use Rattle.std.specs.Prelude.{option_map}
use Rattle.casebook_record.specs.Numbers.{status_of}
use Rattle.casebook_record.specs.Statuses.{all_of}
use Rattle.casebook_record.proofs.statuses.all_of.Given as goal

abbrev pub invariant-loop-part : goal.invariant-loop-part
invariant-loop-part l =
    option_map (λ more. l.statuses.items ++ more) (all_of status_of (map (λ part. part.now) (drop l.part-index l.parts)))
    ≡ all_of status_of (map (λ part. part.now) l.parts)
