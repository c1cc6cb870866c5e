-- Lines, one after another.
use Rattle.std.proofs.Common.{◌≡◌, ℕ, Bool, true, ◌&&◌, List, [], ◌∷◌, ◌++◌, arith, length, map, nat_lt, IsTrue}
use Rattle.std.proofs.Common.{ap, sym, ◌∙◌, subst, refl, ◌⊎◌, ⊎_elim}
use Rattle.std.proofs.lemmas.Bool.{and_from}
use Rattle.std.proofs.lemmas.List.{append-nil, append_assoc}
use Rattle.retro_tree.proofs.Small.{first_true, both_true}
use Rattle.retro_keep.specs.Recording.{RecordingValue, number_in}
use Rattle.retro_keep.specs.Script.{rises_from}
use Rattle.retro_keep.specs.declared.edit.Edit.{Edit}
use Rattle.retro_keep.specs.declared.noted.Noted.{Noted}
use Rattle.retro_redo.specs.declared.repair.Repair.{Repair}
use Rattle.retro_redo.specs.declared.verdict.SettledLine.{SettledLine}
use Rattle.casebook_profile.specs.declared.unknown_line.UnknownLine.{UnknownLine}
use Rattle.casebook_view.specs.CaseLines.{line_number}
use Rattle.casebook_view.specs.Lines.{AreLines, AreLinesAfter, IsLine}
use Rattle.casebook_view.specs.Sources.{SourceValue}
use Rattle.casebook_view.specs.declared.case_line.CaseLine.{CaseLine}

-- ---- numbers

-- the first of rising numbers rise
rise_first : (n : ℕ) (xs ys : List ℕ) → IsTrue (rises_from n (xs ++ ys)) → IsTrue (rises_from n xs)
rise_first n [] ys rise = refl
rise_first n (x ∷ xs) ys rise =
    and_from (nat_lt n x) (rises_from x xs) (first_true (nat_lt n x) _ rise)
    (rise_first x xs ys (both_true (nat_lt n x) _ rise))

module _ (r : RecordingValue) (lines : List CaseLine) where
  -- so many numbers of a recording rise
  pub these_rise : (left : List (ℕ × Noted)) → map line_number lines ++ map number_in left ≡ map number_in r.lines
      → IsTrue (rises_from 0 (map number_in r.lines)) → IsTrue (rises_from 0 (map line_number lines))
  these_rise left all rise =
      rise_first 0 (map line_number lines) (map number_in left) (ap (rises_from 0) all ∙ rise)

numbers_more : (lines : List CaseLine) (x : CaseLine) → map line_number (lines ++ x ∷ []) ≡ map line_number lines ++ x.number ∷ []
numbers_more [] x = refl
numbers_more (line ∷ lines) x = ap (λ ns. line.number ∷ ns) (numbers_more lines x)

-- one more line, with the number of the next one
pub number_more : (lines : List CaseLine) (x : CaseLine) (next : ℕ × Noted) (left : List (ℕ × Noted)) (all : List ℕ)
    → map line_number lines ++ map number_in (next ∷ left) ≡ all → x.number ≡ next.0
    → map line_number (lines ++ x ∷ []) ++ map number_in left ≡ all
number_more lines x next left all so_far is =
    ap (λ ns. ns ++ map number_in left) (numbers_more lines x)
    ∙ append_assoc (map line_number lines) (x.number ∷ []) (map number_in left)
    ∙ ap (λ n. map line_number lines ++ n ∷ map number_in left) is ∙ so_far

-- ---- lines

-- the numbers of verdicts
abbrev verdict_number : SettledLine → ℕ
verdict_number l = l.number

empty : {X : Type 0} (xs : List X) → length xs ≡ 0 → xs ≡ []
empty [] none = refl
empty (x ∷ xs) none = absurd (omega (arith, none))

none_left : (left : List SettledLine) (lines : List (ℕ × Noted)) → map verdict_number left ≡ map number_in lines
    → length lines ≡ 0 → length left ≡ 0
none_left [] lines same none = refl
none_left (l ∷ left) [] same none = cc
none_left (l ∷ left) (line ∷ lines) same none = absurd (omega (arith, none))

module _ (source : SourceValue) (edits : List Edit) (r : RecordingValue) (repair : Repair) (unknown : List UnknownLine)
    (lines : List CaseLine) (all : List SettledLine) where
  pub line_more : (settled : SettledLine) (left : List SettledLine) (x : CaseLine)
      → ((rest : List CaseLine) → AreLinesAfter source edits r repair unknown lines (settled ∷ left) rest
      → AreLinesAfter source edits r repair unknown [] all (lines ++ rest)) → IsLine source edits r repair unknown lines settled x
      → (rest : List CaseLine) → AreLinesAfter source edits r repair unknown (lines ++ x ∷ []) left rest
      → AreLinesAfter source edits r repair unknown [] all ((lines ++ x ∷ []) ++ rest)
  line_more settled left x so_far next rest more =
      subst (λ t. AreLinesAfter source edits r repair unknown [] all t) (sym (append_assoc lines (x ∷ []) rest))
      (so_far (x ∷ rest) (next, more))

  pub lines_end : (left : List SettledLine) (also : List (ℕ × Noted))
      → ((rest : List CaseLine) → AreLinesAfter source edits r repair unknown lines left rest
      → AreLinesAfter source edits r repair unknown [] all (lines ++ rest))
      → map verdict_number left ≡ map number_in also → (length also ≡ 0) ⊎ (length left ≡ 0)
      → AreLinesAfter source edits r repair unknown [] all lines
  lines_end left also so_far same ended =
      let none : left ≡ [] = empty left (⊎_elim (λ e. none_left left also same e) (λ e. e) ended) in
      subst (λ t. AreLinesAfter source edits r repair unknown [] all t) (append-nil lines)
      (so_far [] (subst (λ t. AreLinesAfter source edits r repair unknown lines t []) (sym none) tt))
