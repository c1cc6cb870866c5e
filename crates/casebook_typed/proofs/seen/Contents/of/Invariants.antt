-- What the notes so far say that paths hold.
use Rattle.std.proofs.Common.{◌≡◌, take}
use Rattle.retro_path.specs.Path.{PathValue}
use Rattle.casebook_typed.specs.Looks.{content_in}
use Rattle.casebook_typed.specs.Observations.{notes_in}
use Rattle.casebook_typed.specs.inner.Few.{content_of}
use Rattle.casebook_typed.proofs.seen.Contents.of.Given as goal

abbrev pub invariant-loop-item : goal.invariant-loop-item
invariant-loop-item l = (p : PathValue) → content_of l.all p ≡ content_in (notes_in (take l.item-index l.items)) p
