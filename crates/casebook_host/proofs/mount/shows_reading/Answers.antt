use Rattle.std.proofs.Common.{rules, tests, ap}
use Rattle.std.specs.Prelude.{not}
use Rattle.std.proofs.lemmas.Iterator.Search.{any_from_yields_List}
use Rattle.std.proofs.lemmas.Iterator.Splits.{YieldsList-from_slice_split}
use Rattle.casebook_host.specs.Mounts.{hides_reading, shows_reading}
use Rattle.casebook_host.proofs.mount.shows_reading.Goals as goal

pub returns : goal.returns
unfolding shows_reading
returns c = ap not (any_from_yields_List hides_reading _ _ _ c.any.ensures.ran
    (YieldsList-from_slice_split _ _ c.args.options.now c.split.ensures.rest c.split.ensures.done
    c.split.ensures.closure (λ x r q k. search (rules, tests)))
    (λ x r q k. search (rules, tests)))
