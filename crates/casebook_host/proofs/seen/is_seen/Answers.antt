use Rattle.std.proofs.Common.{rules, tests, ◌∙◌, sym, ap, Bor, Option}
use Rattle.std.specs.Prelude.{option_map, false}
use Rattle.std.specs.Option.{option_map_or}
use Rattle.std.proofs.lemmas.Iterator.Search.{find_from_yields_List}
use Rattle.std.proofs.lemmas.Iterator.Adapters.{YieldsList-from_rev_slice}
use Rattle.casebook_host.specs.Mounts.{covers, is_seen}
use Rattle.casebook_host.specs.declared.mount.Mount.{Mount}
use Rattle.casebook_host.proofs.seen.is_seen.Goals as goal

pub returns-in-Some : goal.returns-in-Some
unfolding is_seen
returns-in-Some c =
    let found = find_from_yields_List
    (λ (mount : Mount). covers c.args.path.now mount.point) _ _ c.find.result c.find.ensures.ran
    (YieldsList-from_rev_slice c.args.mounts.now (rw c.rev.ensures.source c.iter.ensures.rest))
    (λ x b q k. search (rules, tests)) in
    ap (λ (mount : Option Mount). option_map_or (λ (m : Mount). m.shows_reading) mount false)
    (sym (ap (option_map (λ (m : Bor Mount). m.now)) c.in-Some.is) ∙ found)

pub returns-in-None : goal.returns-in-None
unfolding is_seen
returns-in-None c =
    let found = find_from_yields_List
    (λ (mount : Mount). covers c.args.path.now mount.point) _ _ c.find.result c.find.ensures.ran
    (YieldsList-from_rev_slice c.args.mounts.now (rw c.rev.ensures.source c.iter.ensures.rest))
    (λ x b q k. search (rules, tests)) in
    ap (λ (mount : Option Mount). option_map_or (λ (m : Mount). m.shows_reading) mount false)
    (sym (ap (option_map (λ (m : Bor Mount). m.now)) c.in-None.is) ∙ found)
