-- Parts of new nodes. A step makes a new node beside its path, under a name that only steps use, and
-- a step that is stopped can leave a part of it there.
use Rattle.std.specs.Prelude.{◌≡◌, Bool, false, List, None}
use Rattle.std.specs.List.{AllByRecursion}
use Rattle.retro_path.specs.Order.{path_eq}
use Rattle.retro_path.specs.Path.{PathValue}
use Rattle.casebook_folder.specs.Rows.{row_at}
use Rattle.casebook_folder.specs.declared.row.Row.{Row}

-- whether a part lies beside each path
abbrev pub Parts : Type 0
Parts = PathValue → Bool

-- nothing changed beside other paths
abbrev pub OtherPartsStay : PathValue → Parts → Parts → Type 0
OtherPartsStay p old new = (q : PathValue) → path_eq p q ≡ false → new q ≡ old q

-- nothing changed beside paths that no row is of
abbrev pub PartsStayBesides : List Row → Parts → Parts → Type 0
PartsStayBesides rows old new = (q : PathValue) → row_at q rows ≡ None → new q ≡ old q

abbrev pub HasNoPart : Parts → Row → Type 0
HasNoPart parts r = parts r.path ≡ false

-- no part lies beside a path of a row
abbrev pub HaveNoParts : Parts → List Row → Type 0
HaveNoParts parts rows = AllByRecursion (HasNoPart parts) rows
