use Rattle.std.specs.Prelude.{IfSome}
use Rattle.casebook_snapshot.specs.inner.Walks.{IsWalked}
use Rattle.casebook_snapshot.proofs.walking.walk.Given as goal

abbrev pub invariant-loop : goal.invariant-loop
invariant-loop g l =
    IfSome (g.L.Listing.holds l.fn.listing) (λ f. IsWalked f l.fn.skip l.walk.snapshot l.walk.left.items)
