use Rattle.std.proofs.Common.{◌≡◌, ◌++◌}
use Rattle.std.specs.Prelude.{flat_map}
use Rattle.casebook_page.specs.Told.{overview_told, session_told}
use Rattle.casebook_page.specs.Views.{contents_view}
use Rattle.casebook_page.proofs.overview.push_overview.Given as goal

abbrev pub invariant-loop-session : goal.invariant-loop-session
invariant-loop-session l =
    l.html ++ flat_map (session_told (contents_view l.contents)) l.session-iterator
    ≡ l.fn.html ++ overview_told (contents_view l.contents)
