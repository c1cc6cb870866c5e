-- The fronts of two texts, line after line.
use Rattle.std.proofs.Common.{◌≡◌, ℕ, zero, suc, ◌+◌, ◌<◌, true, false, cond, List, [], ◌∷◌, length, drop, refl}
use Rattle.std.proofs.Common.{sym, ap, ap₂, ◌∙◌, arith}
use Rattle.std.specs.Cmp.Lexicographic.{bytes_decides}
use Rattle.retro_tree.specs.Order.{text_eq}
use Rattle.casebook_words.specs.Lines.{Line, lines_of, texts_in, texts_of}
use Rattle.casebook_words.specs.Difference.{same_lines}
use Rattle.casebook_words.specs.inner.Fronts.{IsRest, StepTogether}

-- what is kept while lines that are the same are taken from the fronts of both texts
pub record AreAfter (old new : List ℕ) (before : ℕ) (old_rest new_rest : List ℕ) : Type 0 where
  pub old_is : IsRest old before old_rest
  pub new_is : IsRest new before new_rest
  pub same : same_lines (texts_in old) (texts_in new) ≡ before + same_lines (texts_in old_rest) (texts_in new_rest)

same_text : (text : List ℕ) → text_eq text text ≡ true
same_text text = (bytes_decides text text).1 refl

pub nothing_before : (old new : List ℕ) → AreAfter old new 0 old new
nothing_before old new = record {
  old_is = record { lines = refl; size = omega arith };
  new_is = record { lines = refl; size = omega arith };
  same = omega arith;
}

after_first : (n : ℕ) (xs ys : List (List ℕ)) (x : List ℕ) → drop n xs ≡ x ∷ ys → drop (n + 1) xs ≡ ys
after_first zero xs ys x e = let place : zero + 1 ≡ suc zero = omega arith in rw place (ap (drop 1) e)
after_first (suc n) [] ys x e = absurd (cc)
after_first (suc n) (z ∷ xs) ys x e = let place : suc n + 1 ≡ suc (n + 1) = omega arith in rw place (after_first n xs ys x e)

rest_more : (text rest next line : List ℕ) (before : ℕ) → IsRest text before rest → texts_in rest ≡ line ∷ texts_in next
    → length next < length rest → IsRest text (before + 1) next
rest_more text rest next line before is first shorter = record {
  lines = sym (after_first before (texts_in text) (texts_in next) line (sym is.lines ∙ first));
  size = omega (arith, is.size, shorter);
}

one_more : (line : List ℕ) (xs ys us vs : List (List ℕ)) → us ≡ line ∷ xs → vs ≡ line ∷ ys
    → same_lines us vs ≡ 1 + same_lines xs ys
one_more line xs ys us vs first second =
    ap₂ same_lines first second ∙ ap (λ t. cond t (1 + same_lines xs ys) 0) (same_text line)

pub next_line : (old new : List ℕ) (before : ℕ) (old_rest new_rest old_next new_next : List ℕ)
    → AreAfter old new before old_rest new_rest → StepTogether old_rest new_rest old_next new_next
    → AreAfter old new (before + 1) old_next new_next
next_line old new before old_rest new_rest old_next new_next so_far step = record {
  old_is = rest_more old old_rest old_next step.line before so_far.old_is step.old_is step.old_shorter;
  new_is = rest_more new new_rest new_next step.line before so_far.new_is step.new_is step.new_shorter;
  same =
      let one = one_more step.line (texts_in old_next) (texts_in new_next) _ _ step.old_is step.new_is in
      omega (arith, so_far.same, one);
}

pub all_same : (old new : List ℕ) (before : ℕ) (old_rest new_rest : List ℕ) → AreAfter old new before old_rest new_rest
    → same_lines (texts_in old_rest) (texts_in new_rest) ≡ 0 → before ≡ same_lines (texts_in old) (texts_in new)
all_same old new before old_rest new_rest so_far none = omega (arith, so_far.same, none)

-- ---- the first lines

pub old_ends : (old new : List ℕ) → lines_of old ≡ [] → same_lines (texts_in old) (texts_in new) ≡ 0
old_ends old new e = ap (λ lines. same_lines (texts_of lines) (texts_in new)) e

pub new_ends : (old new : List ℕ) (line : Line) (lines : List Line) → lines_of old ≡ line ∷ lines → lines_of new ≡ []
    → same_lines (texts_in old) (texts_in new) ≡ 0
new_ends old new line lines first e = ap₂ (λ xs ys. same_lines (texts_of xs) (texts_of ys)) first e

pub lines_differ : (old new : List ℕ) (a b : Line) (xs ys : List Line) → lines_of old ≡ a ∷ xs → lines_of new ≡ b ∷ ys
    → text_eq a.text b.text ≡ false → same_lines (texts_in old) (texts_in new) ≡ 0
lines_differ old new a b xs ys first second other =
    ap₂ (λ us vs. same_lines (texts_of us) (texts_of vs)) first second
    ∙ ap (λ t. cond t (1 + same_lines (texts_of xs) (texts_of ys)) 0) other

pub lines_alike : (old new old_rest new_rest : List ℕ) (a b : Line) → lines_of old ≡ a ∷ lines_of old_rest
    → lines_of new ≡ b ∷ lines_of new_rest → text_eq a.text b.text ≡ true → length old_rest < length old
    → length new_rest < length new → StepTogether old new old_rest new_rest
lines_alike old new old_rest new_rest a b first second alike old_shorter new_shorter = record {
  line = a.text;
  old_is = ap texts_of first;
  new_is = ap texts_of second ∙ ap (λ t. t ∷ texts_in new_rest) (sym ((bytes_decides a.text b.text).0 alike));
  old_shorter = old_shorter;
  new_shorter = new_shorter;
}
