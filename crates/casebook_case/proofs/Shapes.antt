-- A case has no float, and nests few arrays.
use Rattle.std.proofs.Common.{◌≡◌, ◌≤◌, ℕ, List, [], ◌∷◌, map, false, refl, arith}
use Rattle.serde_json.specs.Data.{Data, depth, items_depth}
use Rattle.serde_json.specs.Read.{max_depth}
use Rattle.serde_json.specs.View.{items_of}
use Rattle.serde_json.specs.Written.{has_float}
use Rattle.retro_json.specs.Values.{hex_data}
use Rattle.retro_json.proofs.Floats.{array_float}
use Rattle.casebook_case.specs.Documents.{case_data, contents_data}

hex_float : (bytes : List ℕ) → has_float (hex_data bytes) ≡ false
hex_float bytes = refl

contents_float : (contents : List (List ℕ)) → has_float (contents_data contents) ≡ false
unfolding contents_data
contents_float contents = array_float hex_data hex_float contents

pub case_float : (contents : List (List ℕ)) (first lines unseen : List ℕ)
    → has_float (case_data contents first lines unseen) ≡ false
unfolding case_data
case_float contents first lines unseen = rw (contents_float contents) refl

items_low : (contents : List (List ℕ)) → items_depth (items_of (map hex_data contents)) ≤ 0
items_low [] = omega arith
items_low (bytes ∷ contents) = let rest = items_low contents in omega (arith, rest)

contents_low : (contents : List (List ℕ)) → depth (contents_data contents) ≤ 1
unfolding contents_data
contents_low contents = let items = items_low contents in omega (arith, items)

pub case_low : (contents : List (List ℕ)) (first lines unseen : List ℕ)
    → depth (case_data contents first lines unseen) ≤ max_depth
unfolding case_data
case_low contents first lines unseen = let low = contents_low contents in omega (arith, low)
