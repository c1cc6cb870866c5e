-- A search for a pattern says whether the pattern is part of the line.
use Rattle.std.proofs.Common.{◌≡◌, ℕ, zero, suc, ◌+◌, ◌≤◌, true, List, [], ◌∷◌, length, drop}
use Rattle.std.proofs.Common.{Option, Some, None, nat_eq, refl, sym, ap, arith, ⊎_elim}
use Rattle.std.specs.Option.{is_some}
use Rattle.std.specs.List.{starts_with}
use Rattle.std.proofs.lemmas.Bool.{or_cases, or_right, or_left, false_from_ne_true}
use Rattle.std.proofs.lemmas.Bool.Decides.{Decides-eqb}
use Rattle.std.proofs.lemmas.Slice.Eq.{starts_is}
use Rattle.std.proofs.lemmas.List.{length-drop, length-append}
use Rattle.std.proofs.lemmas.List.Prefix.{at_from_reads, at_reads}
use Rattle.memchr.specs.Find.{FindsNeedle, OccursAt}
use Rattle.retro_text.specs.Search.{is_part}

-- a pattern that begins at an index is part of the line
part_at : (pattern line : List ℕ) (k : ℕ) → k ≤ length line → starts_with nat_eq (drop k line) pattern ≡ true
    → is_part pattern line ≡ true
part_at pattern [] zero low h = h
part_at pattern [] (suc k) low h = absurd (omega arith)
part_at pattern (b ∷ line) zero low h = or_left _ _ h
part_at pattern (b ∷ line) (suc k) low h = or_right _ _ (part_at pattern line k (omega arith) h)

-- a pattern that is part of a line begins at an index
index_of : (pattern line : List ℕ) → is_part pattern line ≡ true
    → (k : ℕ) × (k ≤ length line) × (starts_with nat_eq (drop k line) pattern ≡ true)
index_of pattern [] h = (0, omega arith, h)
index_of pattern (b ∷ line) h =
    ⊎_elim (λ here. (0, omega arith, here))
    (λ later. let rest = index_of pattern line later in (suc rest.0, omega (arith, rest.1), rest.2)) (or_cases _ _ h)

begins : (pattern line : List ℕ) (k : ℕ) → OccursAt line pattern k → starts_with nat_eq (drop k line) pattern ≡ true
begins pattern line k h =
    (starts_is Decides-eqb (drop k line) pattern (starts_with nat_eq (drop k line) pattern) refl).1
    (drop (k + length pattern) line) (at_from_reads 0 line pattern k h.fits h.reads)

occurs : (pattern line : List ℕ) (k : ℕ) → k ≤ length line → starts_with nat_eq (drop k line) pattern ≡ true
    → OccursAt line pattern k
occurs pattern line k low h =
    let split = (starts_is Decides-eqb (drop k line) pattern (starts_with nat_eq (drop k line) pattern) refl).0 h in
    record {
      fits = omega (
        arith,
        ap length split,
        length-drop k line,
        length-append pattern (drop (length pattern) (drop k line)),
      );
      reads = at_reads 0 line pattern k _ split;
    }

pub found_part : (pattern line : List ℕ) (r : Option ℕ) → FindsNeedle line pattern 0 r
    → is_some r ≡ is_part pattern line
found_part pattern line None h =
    sym (false_from_ne_true (is_part pattern line) (λ part.
    let at = index_of pattern line part in
    h at.0 (omega arith) (omega (arith, at.1)) (occurs pattern line at.0 at.1 at.2)))
found_part pattern line (Some k) h =
    sym (part_at pattern line k (omega (arith, h.0.high)) (begins pattern line k h.1))
