use Rattle.std.proofs.Common.{arith, subst, sym}
use Rattle.casebook_patch.specs.Parts.{IsCounted}
use Rattle.casebook_patch.specs.inner.Leading.{part_value}
use Rattle.casebook_patch.proofs.LeadLemmas.{counted}
use Rattle.casebook_patch.proofs.part.part_of.Goals as goal

pub invariant_of-result : goal.invariant_of-result
invariant_of-result c =
    let h = c.args.hunk.now in
    subst (λ ls. IsCounted (part_value h.old h.new ls)) (sym c.in_ok-copies.ensures) (counted c.args.lines.now h (omega (arith, c.fits-hunk)) c.requires)
