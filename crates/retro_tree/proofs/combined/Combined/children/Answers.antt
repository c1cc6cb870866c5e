use Rattle.std.proofs.Common.{ap, sym, ◌∙◌}
use Rattle.std.specs.FinMap as map
use Rattle.retro_tree.specs.Ask.{names_in}
use Rattle.retro_tree.specs.inner.Marks.{overlay_from, mark_entries, children_tree}
use Rattle.retro_tree.specs.declared.cell.Cell.TheVariants as cells
use Rattle.retro_tree.proofs.OverlayListing.{listed_over, none_listed}
use Rattle.retro_tree.proofs.combined.Combined.children.Goals as goal

pub returns : goal.returns
returns g c =
    let p = c.args.path.now in
    let overlay = c.args.self.now.overlay.now in
    let state = g.V.View.state c.args.self.now.view.now in
    let names = c.names.ensures ∙ c.in_ok-below.ensures in
    let tree = c.in_ok-tree.ensures ∙ ap (λ ns. children_tree p ns map.empty) names in
    let small = c.in_ok-children.ensures ∙ ap (mark_entries p (overlay_from (cells.At p) overlay)) tree in
    λ now h. c.in_ok-names.ensures ∙ ap (names_in p) small ∙ listed_over p overlay state now h

pub returns-then-not-branch : goal.returns-then-not-branch
returns-then-not-branch g c = λ now h.
    c.in_ok-below.ensures
    ∙ none_listed c.args.path.now c.args.self.now.overlay.now (g.V.View.state c.args.self.now.view.now) now
    (sym c.in_ok-has_entry_below.ensures ∙ c.if-not-branch.true) h
