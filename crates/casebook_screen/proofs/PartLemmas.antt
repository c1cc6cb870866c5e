-- The parts of a diff have lines of the diff, and say numbers that can be counted.
use Rattle.std.proofs.Common.{◌≡◌, ℕ, zero, suc, ◌<◌, ◌≤◌, Bool, List, [], ◌∷◌, ap, arith, length, map, ◌∙◌}
use Rattle.std.specs.Prelude.{◌^◌, take}
use Rattle.std.specs.List.{All, count_by}
use Rattle.std.proofs.lemmas.List.{length-map, length-take-le}
use Rattle.std.proofs.lemmas.List.Sums.{count_by-le-length}
use Rattle.casebook_text.specs.Diff.{in_new, in_old}
use Rattle.casebook_text.specs.Hunks.{HasCounts, HaveCounts, Marked}
use Rattle.casebook_text.specs.declared.hunk.Hunk.{Hunk}
use Rattle.casebook_text.specs.declared.line_diff.Mark.{Mark}
use Rattle.casebook_screen.specs.Unified.{signed_line}
use Rattle.casebook_screen.specs.inner.Parts.{IsWithin}

-- of the first lines at most all are in a text
fewer : (test : Mark → Bool) (lines : List Marked) (n : ℕ) → n ≤ length lines
    → count_by (λ (line : Marked). test line.0) (take n lines) ≤ n
fewer test lines n le =
    omega (arith, count_by-le-length (λ (line : Marked). test line.0) (take n lines), length-take-le n lines le)

-- one part
within_one : (lines : List Marked) (signed : List (List ℕ)) (h : Hunk) → signed ≡ map signed_line lines
    → length signed < 2 ^ 63 → HasCounts lines h → IsWithin signed h
within_one lines signed h same small counts =
    let longs : length signed ≡ length lines = ap length same ∙ length-map lines signed_line in
    let le : h.from ≤ length lines = omega (arith, counts.some, counts.within) in
    record {
      some = counts.some;
      within = omega (arith, counts.within, longs);
      old = omega (arith, le, longs, small, counts.old_before, fewer in_old lines h.from le);
      new = omega (arith, le, longs, small, counts.new_before, fewer in_new lines h.from le);
    }

pub all_within : (lines : List Marked) (signed : List (List ℕ)) (parts : List Hunk) → signed ≡ map signed_line lines
    → length signed < 2 ^ 63 → HaveCounts lines parts → All (IsWithin signed) parts
all_within lines signed [] same small counts k d lt = absurd (omega (arith, lt))
all_within lines signed (h ∷ parts) same small counts zero d lt = within_one lines signed h same small counts.0
all_within lines signed (h ∷ parts) same small counts (suc k) d lt =
    all_within lines signed parts same small counts.1 k d (omega (arith, lt))
