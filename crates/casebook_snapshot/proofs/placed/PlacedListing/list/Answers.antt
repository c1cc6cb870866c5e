use Rattle.std.proofs.Common.{◌∙◌, subst, sym, refl}
use Rattle.retro_path.specs.Path.{below}
use Rattle.casebook_snapshot.specs.Children.{IsListed, IsListing}
use Rattle.casebook_snapshot.specs.Placed.{placed}
use Rattle.casebook_snapshot.proofs.Placing.{lift, lift_always, listed_towards, moved_listing}
use Rattle.casebook_snapshot.proofs.placed.PlacedListing.list.Goals as goal

pub returns-in_default-clause-ok : goal.returns-in_default-clause-ok
returns-in_default-clause-ok g c =
    lift_always _ c.args.self.now.at (g.L.Listing.holds c.args.self.now.listing)
    (λ f root. listed_towards f root c.args.self.now.at c.args.path.now (below c.args.path.now c.args.self.now.at)
    c.in_ok-child_towards.field-0.items (sym c.in_ok-inside.ensures.ok ∙ c.in_default.is) refl
    c.in_ok-child_towards.ensures)

pub returns-clause-ok : goal.returns-clause-ok
returns-clause-ok g c =
    lift _ c.args.self.now.at (g.L.Listing.holds c.args.self.now.listing) c.in_ok-children.ensures.ok
    (λ f root listed. subst (IsListing (placed c.args.self.now.at f) c.args.path.now) (sym c.in_ok-moved.ensures)
    (moved_listing f c.args.self.now.at c.args.path.now c.in-Some.inside
    (sym c.in_ok-inside.ensures.ok ∙ c.in-Some.is) c.in-Some-2.children.items
    (subst (IsListed f c.in-Some.inside) c.in-Some-2.is listed)))
