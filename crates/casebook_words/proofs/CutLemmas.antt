-- Where bytes are cut.
use Rattle.std.proofs.Common.{◌≡◌, ℕ, zero, suc, ◌-◌, ◌<◌, ◌≤◌, true, false, List, refl, subst, arith}
use Rattle.casebook_words.specs.Cut.{cut_end, may_begin}

first_fails : (bytes : List ℕ) (limit : ℕ) → may_begin bytes (limit - 0) ≡ false → may_begin bytes limit ≡ false
first_fails bytes limit h =
    let same : limit - 0 ≡ limit = omega arith in
    subst (λ e. may_begin bytes e ≡ false) same h

pub cut_at : (bytes : List ℕ) (limit back end : ℕ) → back < 4
    → ((k : ℕ) → k < back → may_begin bytes (limit - k) ≡ false) → end ≡ limit - back → may_begin bytes end ≡ true
    → end ≡ cut_end limit bytes
unfolding cut_end
cut_at bytes limit zero end lt before is here =
    let same : end ≡ limit = omega arith in
    let first : may_begin bytes limit ≡ true = subst (λ e. may_begin bytes e ≡ true) same here in
    rw first same
cut_at bytes limit (suc zero) end lt before is here =
    let none : may_begin bytes limit ≡ false = first_fails bytes limit (before 0 (omega arith)) in
    let second : may_begin bytes (limit - 1) ≡ true = subst (λ e. may_begin bytes e ≡ true) is here in
    rw (none, second) is
cut_at bytes limit (suc (suc zero)) end lt before is here =
    let none : may_begin bytes limit ≡ false = first_fails bytes limit (before 0 (omega arith)) in
    let none-1 : may_begin bytes (limit - 1) ≡ false = before 1 (omega arith) in
    let third : may_begin bytes (limit - 2) ≡ true = subst (λ e. may_begin bytes e ≡ true) is here in
    rw (none, none-1, third) is
cut_at bytes limit (suc (suc (suc zero))) end lt before is here =
    let none : may_begin bytes limit ≡ false = first_fails bytes limit (before 0 (omega arith)) in
    let none-1 : may_begin bytes (limit - 1) ≡ false = before 1 (omega arith) in
    let none-2 : may_begin bytes (limit - 2) ≡ false = before 2 (omega arith) in
    let fourth : may_begin bytes (limit - 3) ≡ true = subst (λ e. may_begin bytes e ≡ true) is here in
    rw (none, none-1, none-2, fourth) is
cut_at bytes limit (suc (suc (suc (suc back)))) end lt before is here = absurd (omega (arith, lt))

pub cut_nowhere : (bytes : List ℕ) (limit back : ℕ) → 4 ≤ back
    → ((k : ℕ) → k < back → may_begin bytes (limit - k) ≡ false) → limit ≡ cut_end limit bytes
unfolding cut_end
cut_nowhere bytes limit back le before =
    let none : may_begin bytes limit ≡ false = first_fails bytes limit (before 0 (omega arith)) in
    let none-1 : may_begin bytes (limit - 1) ≡ false = before 1 (omega arith) in
    let none-2 : may_begin bytes (limit - 2) ≡ false = before 2 (omega arith) in
    let none-3 : may_begin bytes (limit - 3) ≡ false = before 3 (omega arith) in
    rw (none, none-1, none-2, none-3) refl
