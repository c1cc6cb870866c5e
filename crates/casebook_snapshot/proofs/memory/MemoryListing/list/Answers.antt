use Rattle.std.proofs.Common.{subst}
use Rattle.casebook_snapshot.specs.Children.{IsListing}
use Rattle.casebook_snapshot.specs.inner.Memories.{contents_of}
use Rattle.casebook_snapshot.proofs.memory.MemoryListing.list.Goals as goal

pub returns-clause-ok : goal.returns-clause-ok
returns-clause-ok c =
    subst (λ es. IsListing (contents_of c.args.self.now.root es) c.args.path.now c.in_ok-names_in.field-0.items)
    c.as_slice.ensures.value (c.in_ok-names_in.ensures c.args.self.now.root)
