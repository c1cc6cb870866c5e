use Rattle.std.proofs.Common.{◌≡◌, ◌++◌, drop}
use Rattle.std.specs.Prelude.{None}
use Rattle.casebook_page.specs.Told.{groups_told}
use Rattle.casebook_page.specs.inner.Screens.{is_known}
use Rattle.casebook_page.specs.Views.{contents_view}
use Rattle.casebook_page.proofs.tell.push_groups.Given as goal

abbrev pub invariant-loop-group : goal.invariant-loop-group
invariant-loop-group l =
    l.html ++ groups_told (contents_view l.contents) (is_known l.screens) l.last (drop l.group-index l.groups)
    ≡ l.fn.html ++ groups_told (contents_view l.contents) (is_known l.screens) None l.groups
