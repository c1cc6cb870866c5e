use Rattle.std.proofs.Common.{subst, refl, ap, ◌∙◌, ◌-◌, append-nil}
use Rattle.std.proofs.Math.ListN.{take}
use Rattle.std.proofs.lemmas.Option.{IfSome_then}
use Rattle.casebook_snapshot.specs.inner.Walks.{IsWalked}
use Rattle.casebook_snapshot.proofs.Small.{both_some}
use Rattle.casebook_snapshot.proofs.Walks.{ends, walks_on}
use Rattle.casebook_snapshot.proofs.walking.walk.Goals as goal

pub returns-in-None-clause-ok : goal.returns-in-None-clause-ok
returns-in-None-clause-ok g c =
    let none = c.in-None.ensures.items ∙ append-nil c.pop.new.self.items ∙ c.in-None.ensures.rest ∙ ap (λ n. take (n - 1) c.loop.walk.left.items) c.in-None.ensures.cases.0 in
    IfSome_then (g.L.Listing.holds c.args.listing.now) c.loop.invariant
    (λ f w. ends f c.args.skip.now c.loop.walk.snapshot
    (subst (λ l. IsWalked f c.args.skip.now c.loop.walk.snapshot l) none w))

pub loop-preserved : goal.loop-preserved
loop-preserved g c =
    both_some (g.L.Listing.holds c.args.listing.now) c.loop.invariant c.in_ok-visit-in-Some.ensures.ok
    (λ f w v. walks_on f c.args.skip.now c.in-Some.child c.in_ok-visit-in-Some.visit c.loop.walk
    (record c.loop.walk { left = c.pop.new.self }) c.take.new.self c.in-Some.ensures.items refl w v c.in_ok-take-in-Some.ensures.ok)
