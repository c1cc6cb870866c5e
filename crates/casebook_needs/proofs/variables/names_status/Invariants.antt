-- Whether one of the parts that are left begins with a question mark, as one of all parts does.
use Rattle.std.proofs.Common.{◌≡◌, drop, map}
use Rattle.std.specs.List.{list_any}
use Rattle.casebook_needs.specs.Variables.{after_dollars, is_status, without_brace}
use Rattle.casebook_needs.proofs.variables.names_status.Given as goal

abbrev pub invariant-loop-part : goal.invariant-loop-part
invariant-loop-part l =
    list_any (λ part. is_status (without_brace part))
    (map (λ part. part.now) (drop l.part-index l.part-items))
    ≡ list_any (λ part. is_status (without_brace part)) (after_dollars l.text)
