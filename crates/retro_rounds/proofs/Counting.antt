-- Counts of lines in pieces, from line to line.
use Rattle.std.proofs.Common.{◌≡◌, inl, inr, ℕ, zero, suc, ◌+◌, List, [], ◌∷◌, ◌++◌, Option, None}
use Rattle.std.proofs.Common.{refl, sym, arith, subst, append_assoc}
use Rattle.retro_tree.specs.Notes.{Holds}
use Rattle.retro_keep.specs.declared.edit.Edit.{Edit}
use Rattle.retro_redo.specs.Moments.{IsStaleBy, Moment}
use Rattle.retro_rounds.specs.Jobs.{IsJob, IsUnused}
use Rattle.retro_rounds.specs.Pieces.{InPiece, Start, from_within, in_pieces, start_at}
use Rattle.retro_rounds.specs.Tally.{IsCount}
use Rattle.retro_rounds.specs.inner.Places.{after_line}
use Rattle.retro_rounds.proofs.ByEdits.{fresh_or_stale}

-- the start of the next line's piece
abbrev pub start_of : ℕ → Start → Moment → Start
start_of zero start m = start_at m
start_of (suc left) start m = start

abbrev pub beside : ℕ → Start → Moment → InPiece
beside left start m = record { start = start_of left start m; here = m }

within_more : (P : InPiece → Type 0) (left : ℕ) (start : Start) (cuts : List ℕ) (m : Moment) (ms : List Moment) (k : ℕ)
    → IsCount P (beside left start m
    ∷ from_within (after_line left cuts).left (start_of left start m) (after_line left cuts).cuts ms) k
    → IsCount P (from_within left start cuts (m ∷ ms)) k
within_more P zero start cuts m ms k h = h
within_more P (suc left) start cuts m ms k h = h

-- From the number of the later lines that satisfy a condition follows that of all lines: some more.
abbrev pub Counts : (InPiece → Type 0) → List ℕ → List Moment → ℕ → Start → List ℕ → ℕ → Type 0
Counts P cuts done left start rest n =
    (ms : List Moment) (k : ℕ) → IsCount P (from_within left start rest ms) k
    → IsCount P (in_pieces cuts (done ++ ms)) (n + k)

module _ (P : InPiece → Type 0) (cuts : List ℕ) (done : List Moment) (left : ℕ) (start : Start) (rest : List ℕ)
    (m : Moment) (n : ℕ) (so_far : Counts P cuts done left start rest n) where
  abbrev Next : ℕ → Type 0
  Next k = Counts P cuts (done ++ m ∷ []) (after_line left rest).left (start_of left start m) (after_line left rest).cuts k

  counts_more : P (beside left start m) → Next (n + 1)
  counts_more holds_here = λ ms k h.
      let all = so_far (m ∷ ms) (k + 1) (within_more P left start rest m ms (k + 1) (inl (holds_here, k, refl, h))) in
      let sum : n + (k + 1) ≡ n + 1 + k = omega arith in
      subst (λ xs. IsCount P (in_pieces cuts xs) (n + 1 + k)) (sym (append_assoc done (m ∷ []) ms))
      (subst (λ j. IsCount P (in_pieces cuts (done ++ m ∷ ms)) j) sum all)

  counts_same : ¬ (P (beside left start m)) → Next n
  counts_same not_here = λ ms k h.
      subst (λ xs. IsCount P (in_pieces cuts xs) (n + k)) (sym (append_assoc done (m ∷ []) ms))
      (so_far (m ∷ ms) k (within_more P left start rest m ms k (inr (not_here, h))))

-- ---- jobs and unused ones together

-- j jobs and u unused ones are among the settled lines, the latter under a premise
pub record AreCounted (edit : ℕ → Option Edit) (cuts : List ℕ) (own : Type 0) (done : List Moment) (left : ℕ) (start : Start)
    (rest : List ℕ) (j u : ℕ) : Type 0 where
  pub jobs : Counts (IsJob edit) cuts done left start rest j
  pub unused : own → Counts (IsUnused edit) cuts done left start rest u

pub same_counted : (edit : ℕ → Option Edit) (cuts : List ℕ) (own : Type 0) (done more : List Moment) (left l2 : ℕ)
    (start : Start) (rest : List ℕ) (j j2 u u2 : ℕ) → done ≡ more → left ≡ l2 → j ≡ j2 → u ≡ u2
    → AreCounted edit cuts own done left start rest j u → AreCounted edit cuts own more l2 start rest j2 u2
same_counted edit cuts own done more left l2 start rest j j2 u u2 d l e f =
    subst (λ (x : List Moment × ℕ × ℕ × ℕ). AreCounted edit cuts own x.0 x.1 start rest x.2 x.3)
    (λ i. (d i, l i, e i, f i))

module _ (edit : ℕ → Option Edit) (cuts : List ℕ) (own : Type 0) (done : List Moment) (left : ℕ) (start : Start)
    (rest : List ℕ) (m : Moment) (j u : ℕ) (so_far : AreCounted edit cuts own done left start rest j u) where
  abbrev NextCounted : ℕ → ℕ → Type 0
  NextCounted k v = AreCounted edit cuts own (done ++ m ∷ []) (after_line left rest).left (start_of left start m)
      (after_line left rest).cuts k v

  -- the next line is no job
  pub no_job : ¬ (IsJob edit (beside left start m)) → NextCounted j u
  no_job not_here = record {
    jobs = counts_same (IsJob edit) cuts done left start rest m j so_far.jobs not_here;
    unused = λ o.
        counts_same (IsUnused edit) cuts done left start rest m u (so_far.unused o) (λ both. not_here both.0);
  }

  -- the next line is a job, and it is kept at its turn
  pub unused_job : IsJob edit (beside left start m)
      → (own → (edit m.number ≡ None) × Holds m.noted.notes m.repaired) → NextCounted (j + 1) (u + 1)
  unused_job holds_here kept = record {
    jobs = counts_more (IsJob edit) cuts done left start rest m j so_far.jobs holds_here;
    unused = λ o.
        counts_more (IsUnused edit) cuts done left start rest m u (so_far.unused o)
        (holds_here, kept o);
  }

  -- the next line is a job, and it is stale at its turn
  pub other_job : IsJob edit (beside left start m)
      → (own → IsStaleBy (edit m.number) m.noted.notes m.repaired) → NextCounted (j + 1) u
  other_job holds_here stale = record {
    jobs = counts_more (IsJob edit) cuts done left start rest m j so_far.jobs holds_here;
    unused = λ o.
        counts_same (IsUnused edit) cuts done left start rest m u (so_far.unused o)
        (λ both. fresh_or_stale m.noted.notes (edit m.number) m.repaired both.1.0 both.1.1 (stale o));
  }
