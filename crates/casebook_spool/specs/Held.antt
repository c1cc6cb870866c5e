-- The bytes that are kept, by their digests.
use Rattle.std.specs.Prelude.{ℕ, List}
use Rattle.std.specs.FinMap as finmap
use Rattle.retro_path.specs.Order.{text_cmp}

abbrev pub Held : Type 0
Held = finmap.FinMap text_cmp (List ℕ)
