-- Bytes in two parts.
use Rattle.std.proofs.Common.{◌≡◌, ◌≢◌, ◌≤◌, ℕ, ◌+◌, List, ◌++◌, length, take, drop, sym, ap, subst, ◌∙◌}
use Rattle.std.proofs.Common.{append_assoc, take_all, arith}
use Rattle.std.proofs.lemmas.List.{take-append-drop, length-append, length-take-le}
use Rattle.std.proofs.Math.Seq.{take-append_seam, drop-append_seam}

pub joined_length : (whole front end : List ℕ) → whole ≡ front ++ end → length whole ≡ length front + length end
joined_length whole front end e = ap length e ∙ length-append front end

pub joined_end : (whole front end : List ℕ) → whole ≡ front ++ end → drop (length front) whole ≡ end
joined_end whole front end e = ap (drop (length front)) e ∙ drop-append_seam front end

pub joined_front : (whole front end : List ℕ) → whole ≡ front ++ end → take (length front) whole ≡ front
joined_front whole front end e = ap (take (length front)) e ∙ take-append_seam front end

pub joined : (whole front end : List ℕ) → drop (length front) whole ≡ end → take (length front) whole ≡ front
    → whole ≡ front ++ end
joined whole front end d t = sym (take-append-drop (length front) whole) ∙ (λ i. t i ++ d i)

-- a first part split at n
split_at : (n : ℕ) (other end : List ℕ) → other ++ end ≡ take n other ++ (drop n other ++ end)
split_at n other end = ap (λ l. l ++ end) (sym (take-append-drop n other))
    ∙ append_assoc (take n other) (drop n other) end

-- the same bytes, where the one first part is no longer than the other
pub same_front : (front end other other_end : List ℕ) → length front ≤ length other
    → front ++ end ≡ other ++ other_end → take (length front) other ≡ front
same_front front end other other_end h e =
    let n = length front in
    let rest = drop n other ++ other_end in
    sym (take-append_seam (take n other) rest)
    ∙ ap (λ k. take k (take n other ++ rest)) (length-take-le n other h)
    ∙ ap (take n) (sym (split_at n other other_end) ∙ sym e)
    ∙ take-append_seam front end

pub same_end : (front end other other_end : List ℕ) → length front ≤ length other
    → front ++ end ≡ other ++ other_end → end ≡ drop (length front) other ++ other_end
same_end front end other other_end h e =
    let n = length front in
    let rest = drop n other ++ other_end in
    sym (drop-append_seam front end)
    ∙ ap (drop n) (e ∙ split_at n other other_end)
    ∙ ap (λ k. drop k (take n other ++ rest)) (sym (length-take-le n other h))
    ∙ drop-append_seam (take n other) rest

pub same_parts : (front end other other_end : List ℕ) → end ≡ drop (length front) other ++ other_end
    → take (length front) other ≡ front → front ++ end ≡ other ++ other_end
same_parts front end other other_end d t = (λ i. sym t i ++ d i) ∙ sym (split_at (length front) other other_end)

-- bytes of the same length that differ stay different, whatever is appended
pub stay_apart : (front end other other_end : List ℕ) → front ≢ other → length front ≡ length other
    → front ++ end ≡ other ++ other_end → ⊥
stay_apart front end other other_end h l e = h
    (sym (same_front front end other other_end (subst (λ n. length front ≤ n) l (omega arith)) e)
    ∙ ap (λ n. take n other) l
    ∙ take_all (length other) other (omega arith))

pub ruleset joining = (joined_length, joined_end, joined_front, joined)

pub ruleset ending = (same_front, same_end, same_parts)

pub ruleset apart = (stay_apart)
