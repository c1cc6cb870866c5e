use Rattle.std.proofs.Common.{◌≡◌, ◌++◌, drop, map}
use Rattle.std.specs.Prelude.{option_map}
use Rattle.casebook_spool.specs.Listings.{notes_of}
use Rattle.casebook_spool.proofs.listing.notes_of.Given as goal

abbrev pub invariant-loop-row : goal.invariant-loop-row
invariant-loop-row l =
    option_map (λ more. l.notes.items ++ more) (notes_of (map (λ row. row.now) (drop l.row-index l.rows)))
    ≡ notes_of (map (λ row. row.now) l.rows)
