-- What a loop over digits may multiply.
use Rattle.std.proofs.Common.{ℕ, suc, ◌+◌, ◌*◌, ◌^◌, ◌<◌, ◌≤◌, arith}
use Rattle.std.proofs.Math.Nat.{pow-suc, pow-le-pow_right}

pub decimal_fits : (v i : ℕ) → i < 18 → v < 10 ^ i → 10 * v + 10 ≤ 10 ^ 18
decimal_fits v i h s =
    let top : 10 ^ (suc i) ≤ 10 ^ 18 = pow-le-pow_right {n = 10} (omega arith) {i = suc i} {j = 18} (omega (arith, h)) in
    omega (arith, s, top, pow-suc 10 i)
