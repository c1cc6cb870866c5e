-- What parts make of a text to which they lead, and the opposite parts of the other one.
use Rattle.std.proofs.Common.{◌≡◌, ℕ, ◌+◌, ◌-◌, Bool, true, false, cond, refl, sym, ap, ◌∙◌, arith}
use Rattle.std.proofs.Common.{List, [], ◌∷◌, ◌++◌, Some, length, length-append, map}
use Rattle.std.proofs.Math.Seq.{drop-append_seam, take-append_seam}
use Rattle.std.proofs.lemmas.Bool.{le-leb}
use Rattle.std.specs.Prelude.{nat_le}
use Rattle.std.specs.List.{filter}
use Rattle.std.specs.Cmp.Lexicographic.{bytes_decides}
use Rattle.retro_path.specs.Order.{text_eq}
use Rattle.casebook_text.specs.Diff.{in_new, in_old, marked}
use Rattle.casebook_text.specs.Hunks.{Marked}
use Rattle.casebook_text.specs.declared.line_diff.Mark.{Mark}
use Rattle.casebook_text.specs.declared.line_diff.Mark.TheVariants.{Same, Removed, Added}
use Rattle.casebook_patch.specs.Parts.{Line, PartValue, new_lines, old_lines, patched, rest_after}
use Rattle.casebook_patch.specs.Parts.{turned, turned_mark}
use Rattle.casebook_patch.specs.inner.Leading.{Leads}

-- ---- what parts make of a text

text_refl : (x : List ℕ) → text_eq x x ≡ true
text_refl x = (bytes_decides x x).1 refl

rest_after_front : (xs ys : List Line) → rest_after xs (xs ++ ys) ≡ Some ys
rest_after_front [] ys = refl
rest_after_front (x ∷ xs) ys = rw (text_refl x) (rest_after_front xs ys)

patched_step : (i : ℕ) (part : PartValue) (parts : List PartValue) (kept old_rest new_rest : List Line)
    → part.old.before ≡ i + length kept
    → patched (part.old.before + length (old_lines part)) parts old_rest ≡ Some new_rest
    → patched i (part ∷ parts) (kept ++ (old_lines part ++ old_rest)) ≡ Some (kept ++ (new_lines part ++ new_rest))
patched_step i part parts kept old_rest new_rest at rest =
    let gap : part.old.before - i ≡ length kept = omega arith in
    let after : nat_le i part.old.before ≡ true = le-leb i part.old.before (omega arith) in
    let within : nat_le (length kept) (length (kept ++ (old_lines part ++ old_rest))) ≡ true =
    le-leb _ _ (omega (arith, length-append kept (old_lines part ++ old_rest))) in
    rw (gap, after, within, take-append_seam kept (old_lines part ++ old_rest), drop-append_seam kept (old_lines part ++ old_rest), rest_after_front (old_lines part) old_rest, rest) refl

pub leads_patched : (parts : List PartValue) (i j : ℕ) (old new : List Line) → Leads i j parts old new
    → patched i parts old ≡ Some new
leads_patched [] i j old new same = ap Some same
leads_patched (part ∷ parts) i j old new (kept, old_rest, new_rest, step, more) =
    ap (patched i (part ∷ parts)) step.old_is
    ∙ patched_step i part parts kept old_rest new_rest step.old_at (leads_patched parts (part.old.before + length (old_lines part)) (part.new.before + length (new_lines part)) old_rest new_rest more)
    ∙ ap Some (sym step.new_is)

-- ---- the opposite parts

turned_in_old : (m : Mark) → in_old (turned_mark m) ≡ in_new m
turned_in_old Same = refl
turned_in_old Removed = refl
turned_in_old Added = refl

turned_in_new : (m : Mark) → in_new (turned_mark m) ≡ in_old m
turned_in_new Same = refl
turned_in_new Removed = refl
turned_in_new Added = refl

-- a test of turned marks that is another test of the marks
marked_turned : (f g : Mark → Bool) → ((m : Mark) → f (turned_mark m) ≡ g m) → (lines : List Marked)
    → marked f (map (λ line. (turned_mark line.0, line.1)) lines) ≡ marked g lines
marked_turned f g same [] = refl
marked_turned f g same (line ∷ lines) =
    rw (same line.0)
    (elim (g line.0) as (λ b. map (λ (x : Marked). x.1.now) (cond b ((turned_mark line.0, line.1) ∷ filter (λ (x : Marked). f x.0) (map (λ (x : Marked). (turned_mark x.0, x.1)) lines)) (filter (λ (x : Marked). f x.0) (map (λ (x : Marked). (turned_mark x.0, x.1)) lines)))
    ≡ map (λ (x : Marked). x.1.now) (cond b (line ∷ filter (λ (x : Marked). g x.0) lines) (filter (λ (x : Marked). g x.0) lines)))
    [ true ↦ ap (λ t. line.1.now ∷ t) (marked_turned f g same lines) | false ↦ marked_turned f g same lines ])

turned_old : (part : PartValue) → old_lines (turned part) ≡ new_lines part
turned_old part = marked_turned in_old in_new turned_in_old part.lines

turned_new : (part : PartValue) → new_lines (turned part) ≡ old_lines part
turned_new part = marked_turned in_new in_old turned_in_new part.lines

pub leads_back : (parts : List PartValue) (i j : ℕ) (old new : List Line) → Leads i j parts old new
    → Leads j i (map turned parts) new old
leads_back [] i j old new same = sym same
leads_back (part ∷ parts) i j old new (kept, old_rest, new_rest, step, more) = (
  kept,
  new_rest,
  old_rest,
  record {
    old_is = step.new_is ∙ ap (λ ls. kept ++ (ls ++ new_rest)) (sym (turned_old part));
    new_is = step.old_is ∙ ap (λ ls. kept ++ (ls ++ old_rest)) (sym (turned_new part));
    old_at = step.new_at;
    new_at = step.old_at;
  },
  rw (turned_old part, turned_new part) (leads_back parts (part.old.before + length (old_lines part)) (part.new.before + length (new_lines part)) old_rest new_rest more),
)
