-- Places among pieces.
use Rattle.std.proofs.Common.{◌≡◌, ◌∙◌, ◌+◌, ◌-◌, ◌≤◌, ◌<◌, ℕ, zero, suc, List, refl, arith, sym}
use Rattle.retro_rounds.specs.Pieces.{first_cut, later_cuts}
use Rattle.retro_rounds.specs.inner.Places.{Place, after_line, after_lines}

pub line_after_lines : (n : ℕ) (place : Place)
    → after_line (after_lines n place).left (after_lines n place).cuts ≡ after_lines (suc n) place
line_after_lines zero place = refl
line_after_lines (suc n) place = line_after_lines n (after_line place.left place.cuts)

-- lines of one piece
pub lines_within : (n left : ℕ) (cuts : List ℕ)
    → after_lines n (record { left = left; cuts = cuts })
    ≡ after_lines (n - left) (record { left = left - n; cuts = cuts })
lines_within zero left cuts =
    let none : 0 - left ≡ 0 = omega arith in let all : left ≡ left - 0 = omega arith in
    (λ i. after_lines (sym none i) (record { left = all i; cuts = cuts }))
lines_within (suc n) zero cuts =
    let all : suc n ≡ suc n - 0 = omega arith in let none : 0 ≡ 0 - suc n = omega arith in
    (λ i. after_lines (all i) (record { left = none i; cuts = cuts }))
lines_within (suc n) (suc left) cuts =
    let less : n - left ≡ suc n - suc left = omega arith in
    let fewer : left - n ≡ suc left - suc n = omega arith in
    lines_within n left cuts ∙ (λ i. after_lines (less i) (record { left = fewer i; cuts = cuts }))

-- past the next piece
pub next_piece : (index end cut : ℕ) (cuts : List ℕ) → end ≤ index → 0 < cut → cut ≡ first_cut cuts
    → after_lines (suc index - (end + cut)) (record { left = end + cut - suc index; cuts = later_cuts cuts })
    ≡ after_lines (suc index - end) (record { left = end - suc index; cuts = cuts })
next_piece index end cut cuts le some is =
    let count : suc index - (end + cut) ≡ index - end - (first_cut cuts - 1) = omega (arith, le, some, is) in
    let left : end + cut - suc index ≡ first_cut cuts - 1 - (index - end) = omega (arith, le, some, is) in
    let all : suc (index - end) ≡ suc index - end = omega (arith, le) in
    let none : 0 ≡ end - suc index = omega (arith, le) in
    (λ i. after_lines (count i) (record { left = left i; cuts = later_cuts cuts }))
    ∙ sym (lines_within (index - end) (first_cut cuts - 1) (later_cuts cuts))
    ∙ (λ i. after_lines (all i) (record { left = none i; cuts = cuts }))
