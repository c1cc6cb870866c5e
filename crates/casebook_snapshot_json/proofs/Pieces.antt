-- The text of a document, in the pieces that it is written in.
use Rattle.std.proofs.Common.{◌≡◌, ℕ, List, [], ◌++◌, append_assoc, codes, refl}
use Rattle.std.specs.Fmt.{digits}
use Rattle.json.specs.Print.{escape_byte}
use Rattle.serde_json.specs.Data.{Data, string}
use Rattle.serde_json.specs.Written.{compact_text}
use Rattle.casebook_snapshot_json.specs.Documents.{snapshot_object}

pub snapshot_pieces : (attributes : Data) (root : List ℕ) (skipped : Data) (taken : List ℕ) (tree : Data)
    → compact_text (snapshot_object attributes root skipped taken tree)
    ≡ codes "{\"attributes\":" ++ (compact_text attributes ++ (codes ",\"root\":" ++ (compact_text (string root)
    ++ (codes ",\"skipped\":" ++ (compact_text skipped ++ (codes ",\"snapshot\":1,\"taken\":"
    ++ (compact_text (string taken) ++ (codes ",\"tree\":" ++ (compact_text tree ++ codes "}")))))))))
unfolding escape_byte digits
snapshot_pieces attributes root skipped taken tree = refl

-- pieces, appended one by one to nothing
pub in_pieces : (a x b r d y e k f z g h : List ℕ)
    → ((((((((((([] ++ a) ++ x) ++ b) ++ r) ++ d) ++ y) ++ e) ++ k) ++ f) ++ z) ++ (g ++ h))
    ≡ (a ++ (x ++ (b ++ (r ++ (d ++ (y ++ (e ++ (k ++ (f ++ (z ++ g)))))))))) ++ h
in_pieces a x b r d y e k f z g h = simp append_assoc
