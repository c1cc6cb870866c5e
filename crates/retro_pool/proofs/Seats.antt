-- Lists of seats.
use Rattle.std.proofs.Common.{◌≡◌, ℕ, zero, suc, ◌+◌, List, [], ◌∷◌, ◌++◌, length, All, ap, ◌∙◌}
use Rattle.std.proofs.Common.{arith}
use Rattle.retro_pool.specs.Seats.{BoardId, ThiefValue, new_thief, AreNew}

pub new_snoc : (b : BoardId) (n : ℕ) (ts : List ThiefValue) (t : ThiefValue) → AreNew b n ts
    → t ≡ new_thief b (n + length ts) → AreNew b n (ts ++ t ∷ [])
new_snoc b n [] t h e = (e ∙ ap (new_thief b) (omega arith), tt)
new_snoc b n (x ∷ xs) t h e = (h.0, new_snoc b (n + 1) xs t h.1 (e ∙ ap (new_thief b) (omega arith)))

pub new_thieves_board : (b : BoardId) (n : ℕ) (ts : List ThiefValue) → AreNew b n ts → All (λ t. t.board ≡ b) ts
new_thieves_board b n [] h k d lt = absurd (omega arith)
new_thieves_board b n (x ∷ xs) h zero d lt = ap (λ (t : ThiefValue). t.board) h.0
new_thieves_board b n (x ∷ xs) h (suc k) d lt = new_thieves_board b (n + 1) xs h.1 k d (omega arith)
