use Rattle.std.proofs.Common.{rules, ◌≡◌, ℕ, ◌-◌, List, length, map}
use Rattle.std.proofs.lemmas.List.{drop-map, length-map, take-map}
use native.Mathlib.Omega.{arith}
use Rattle.casebook_needs.proofs.words.inner_parts.Goals as goal

less_two : (n : ℕ) → n - 1 - 1 ≡ n - 2
less_two n = omega arith

pub returns-in-len2-up : goal.returns-in-len2-up
returns-in-len2-up c =
    rw (drop-map _ _ _, length-map _ _, take-map _ _ _, less_two (length c.args.parts.now))
