use Rattle.std.proofs.Common.{rules, tests}
use Rattle.std.specs.Prelude.{not}
use Rattle.std.proofs.lemmas.Iterator.{YieldsList-from_slice}
use Rattle.std.proofs.lemmas.Iterator.Consumers.{YieldsList-from_filter, map_from_collect}
use Rattle.casebook_host.specs.Mounts.{is_seen, unseen}
use Rattle.casebook_host.proofs.seen.unseen.Goals as goal

pub returns : goal.returns
unfolding unseen
returns c =
    rw (← c.in_ok-mounts.ensures)
    (map_from_collect _ c.collect.ensures.ran
    (YieldsList-from_filter _ (λ folder. not (is_seen c.in_ok-mounts.mounts.items folder))
    (YieldsList-from_slice c.args.folders.now (cc))
    c.filter.ensures.closure (λ x r q k. search (rules, tests))))
