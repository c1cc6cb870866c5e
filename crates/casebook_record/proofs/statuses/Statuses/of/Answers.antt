use Rattle.std.proofs.Common.{◌≡◌, ◌==◌, ◌∙◌, ap, arith, map, Some, sym}
use Rattle.std.specs.List.{slice_split}
use Rattle.std.proofs.lemmas.List.Splits.{length-slice_split}
use Rattle.casebook_record.specs.Numbers.{status_of}
use Rattle.casebook_record.specs.Statuses.{all_of, blank}
use Rattle.casebook_record.proofs.AllOf.{all_of_some}
use Rattle.casebook_record.proofs.statuses.Statuses.of.Goals as goal

pub invariant_of-result : goal.invariant_of-result
invariant_of-result c =
    let parts : map (λ part. part.now) c.as_slice.result.now ≡ slice_split (λ b. b == blank) c.args.field.now =
    rw c.as_slice.ensures.value c.in_ok-parts.ensures in
    let read : Some c.in-Some.statuses.items ≡ all_of status_of (map (λ part. part.now) c.as_slice.result.now) =
    rw c.in-Some.is at c.in_ok-statuses.ensures in
    all_of_some status_of (slice_split (λ b. b == blank) c.args.field.now) c.in-Some.statuses.items
    (omega (arith, length-slice_split (λ b. b == blank) c.args.field.now))
    (ap (all_of status_of) (sym parts) ∙ sym read)
