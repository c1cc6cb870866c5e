-- Edits as a list of themselves.
use Rattle.std.proofs.Common.{◌≡◌, List, [], ◌∷◌, map, refl, ap}
use Rattle.retro_keep.specs.declared.edit.Edit.{Edit}

pub map_same : (edits : List Edit) → map (λ edit. edit) edits ≡ edits
map_same [] = refl
map_same (edit ∷ edits) = ap (λ (rest : List Edit). edit ∷ rest) (map_same edits)
