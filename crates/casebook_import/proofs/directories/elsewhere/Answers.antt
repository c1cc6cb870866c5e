use Rattle.std.proofs.Common.{◌≡◌, ◌∙◌, sym, true, false, refl}
use Rattle.std.specs.Prelude.{codes, [], ◌∷◌}
use Rattle.std.specs.List.{list_all}
use Rattle.retro_path.specs.Name.{is_name}
use Rattle.casebook_import.proofs.directories.elsewhere.Goals as goal

named : list_all is_name (codes ".casebook" ∷ codes "elsewhere" ∷ []) ≡ true
unfolding is_name
named = refl

pub unreachable-requires : goal.unreachable-requires
unreachable-requires c =
    let no : true ≡ false = sym named ∙ (rw c.in-None.is at c.in_ok-path.ensures) in
    cc
