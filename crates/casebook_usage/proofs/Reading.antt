-- When standard input is read.
use Rattle.std.proofs.Common.{◌≡◌, ◌≤◌, ℕ, List, [], ◌∷◌, length, map, arith}
use Rattle.std.specs.List.{list_any}
use Rattle.casebook_usage.specs.Forms.{is_dash}
use Rattle.casebook_usage.specs.Obstacles.{reads_as_file}
use Rattle.casebook_usage.proofs.Lists.{list_any_map}

pub reads_by_name : {Y : Type 0} (h : Y → List ℕ) (ys : List Y) → 1 ≤ length ys
    → list_any (λ y. is_dash (h y)) ys ≡ reads_as_file (map h ys)
reads_by_name h [] some = absurd (omega arith)
reads_by_name h (y ∷ ys) some = rw (list_any_map is_dash h ys)
