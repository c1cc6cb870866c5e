use Rattle.std.proofs.Common.{◌∙◌, ap, subst, sym}
use Rattle.retro_tree.specs.declared.entry.Entry.TheVariants as entries
use Rattle.casebook_snapshot.specs.Items.{row_for, is_dir}
use Rattle.casebook_snapshot.specs.Children.{IsListed, IsListing}
use Rattle.casebook_snapshot.specs.declared.item.Row.{Row}
use Rattle.casebook_snapshot.specs.declared.snapshot.Snapshot.{Snapshot}
use Rattle.casebook_snapshot.proofs.Small.{both_some}
use Rattle.casebook_snapshot.proofs.Walks.{begins, first_row}
use Rattle.casebook_snapshot.proofs.walking.begin.Goals as goal

pub returns-clause-ok : goal.returns-clause-ok
returns-clause-ok g c =
    both_some (g.L.Listing.holds c.args.listing.now) c.in_ok-attributes.ensures.ok c.in_ok-left.ensures.ok
    (λ f item_is listing.
    let root_is = c.root-root.ensures in
    let is_root = ap f (sym root_is) ∙ sym item_is ∙ c.in-Dir.is in
    let held : Row = record { entry = entries.Dir; attributes = c.in-Dir.attributes } in
    let snapshot : Snapshot = record { rows = c.insert.new.self; skipped = c.new-skipped.result } in
    begins f c.args.skip.now snapshot c.in-Some.left.items held (ap is_dir is_root) (ap row_for is_root)
    (subst (λ p. IsListing f p c.in-Some.left.items) root_is (subst (IsListed f c.root-root.result) c.in-Some.is listing))
    (first_row snapshot c.root-root.result held c.new-rows.result.entries c.in_ok-insert.ensures.updates.0 c.new-rows.ensures.empty root_is)
    c.new-skipped.ensures.items)
