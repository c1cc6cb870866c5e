-- What a visit of a child says.
use Rattle.std.specs.Prelude.{◌≡◌, true, List, [], Some, None}
use Rattle.retro_path.specs.Path.{PathValue}
use Rattle.casebook_snapshot.specs.Items.{Contents, is_missing, row_for}
use Rattle.casebook_snapshot.specs.Reasons.{reason_of}
use Rattle.casebook_snapshot.specs.Children.{path_of, IsListing}
use Rattle.casebook_snapshot.specs.declared.child.Child.{Child}
use Rattle.casebook_snapshot.specs.declared.item.Item.{Item}
use Rattle.casebook_snapshot.specs.declared.item.Item.TheVariants.{Missing, Dir, File, Barred}
use Rattle.casebook_snapshot.specs.declared.visit.Visit.{Visit}
use Rattle.casebook_snapshot.specs.declared.visit.Visit.TheVariants.{Gone, Skip, Keep}

-- the children of a directory, and none of something else
abbrev pub AreChildren : Contents → PathValue → Item → List Child → Type 0
AreChildren f p Missing cs = cs ≡ []
AreChildren f p (Dir a) cs = IsListing f p cs
AreChildren f p (File x a) cs = cs ≡ []
AreChildren f p (Barred r) cs = cs ≡ []

abbrev pub IsVisit : Contents → List PathValue → Child → Visit → Type 0
IsVisit f skip c Gone = is_missing (f (path_of c)) ≡ true
IsVisit f skip c (Skip r) = reason_of f skip (path_of c) ≡ Some r
IsVisit f skip c (Keep p h cs) =
    (p ≡ path_of c) × ((reason_of f skip p ≡ None) × ((row_for (f p) ≡ Some h)
    × AreChildren f p (f p) cs.items))
