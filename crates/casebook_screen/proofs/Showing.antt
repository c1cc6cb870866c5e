-- Lines that are written piece by piece.
use Rattle.std.proofs.Common.{◌≡◌, ◌∙◌, ℕ, zero, suc, ◌<◌, Bool, true, ◌&&◌, List, [], ◌∷◌, ◌++◌, IsTrue, ap, arith, get_or, length, refl, sym, take, drop, map}
use Rattle.std.specs.Prelude.{flat_map}
use Rattle.std.specs.List.{list_all}
use Rattle.std.proofs.lemmas.Bool.{and_from, and_parts}
use Rattle.std.proofs.lemmas.Grind.{flat_map-append}
use Rattle.std.proofs.lemmas.List.{append-nil, append_assoc, map-append, take-append-drop}
use Rattle.std.proofs.lemmas.List.Elements.{filter-append}
use Rattle.casebook_text.specs.SafeLine.{line_end, text_of_lines}
use Rattle.casebook_screen.specs.Screen.{IsScreen, is_allowed, is_told, piece_text, told}
use Rattle.casebook_screen.specs.declared.piece.Piece.{Piece}
use Rattle.casebook_screen.specs.declared.piece.Piece.TheVariants.{End}
use Rattle.casebook_screen.specs.inner.Written.{AreWrittenBy}

-- each item passes what all pass
pub each_passes : {X : Type 0} (p : X → Bool) (xs : List X) (i : ℕ) (d : X) → i < length xs → list_all p xs ≡ true
    → p (get_or xs i d) ≡ true
each_passes p [] i d lt all = absurd (omega (arith, lt))
each_passes p (x ∷ xs) zero d lt all = (and_parts (p x) (list_all p xs) all).0
each_passes p (x ∷ xs) (suc i) d lt all =
    each_passes p xs i d (omega (arith, lt)) (and_parts (p x) (list_all p xs) all).1

all_append : {X : Type 0} (p : X → Bool) (xs ys : List X) → list_all p xs ≡ true → list_all p ys ≡ true
    → list_all p (xs ++ ys) ≡ true
all_append p [] ys first second = second
all_append p (x ∷ xs) ys first second =
    let both = and_parts (p x) (list_all p xs) first in
    and_from (p x) (list_all p (xs ++ ys)) both.0 (all_append p xs ys both.1 second)

-- a line that is ended
pub line_ended : (lines : List (List ℕ)) (line : List ℕ)
    → text_of_lines (lines ++ line ∷ []) ≡ (text_of_lines lines ++ line) ++ line_end ∷ []
line_ended lines line =
    flat_map-append (λ l. l ++ line_end ∷ []) lines (line ∷ [])
    ∙ ap (λ t. text_of_lines lines ++ t) (append-nil (line ++ line_end ∷ []))
    ∙ sym (append_assoc (text_of_lines lines) line (line_end ∷ []))

-- the lines are a screen of the pieces, of which the last one ends
pub written_screen : (line : List ℕ) (lines written : List (List ℕ)) (pieces : List Piece)
    → text_of_lines lines ++ line ≡ flat_map piece_text pieces → list_all is_allowed pieces ≡ true
    → AreWrittenBy line lines written → IsScreen (told pieces) written
unfolding piece_text
written_screen [] lines written pieces same allowed are = record {
  pieces = pieces;
  are_lines = ap text_of_lines are ∙ sym (append-nil (text_of_lines lines)) ∙ same;
  allowed = allowed;
  tells = refl;
}
written_screen (b ∷ line) lines written pieces same allowed are = record {
  pieces = pieces ++ End ∷ [];
  are_lines = ap text_of_lines are ∙ line_ended lines (b ∷ line) ∙ ap (λ t. t ++ line_end ∷ []) same
      ∙ sym (flat_map-append piece_text pieces (End ∷ []));
  allowed = all_append is_allowed pieces (End ∷ []) allowed refl;
  tells = filter-append is_told pieces (End ∷ []) ∙ append-nil (told pieces);
}

-- one row more, of the numbers that are left
pub row_more : {X : Type 0} (f : ℕ → X) (n : ℕ) (old new before : List X) (all rest : List ℕ)
    → new ≡ old ++ map f (take n rest) → old ++ map f rest ≡ before ++ map f all
    → new ++ map f (drop n rest) ≡ before ++ map f all
row_more f n old new before all rest more so_far =
    ap (λ t. t ++ map f (drop n rest)) more ∙ append_assoc old (map f (take n rest)) (map f (drop n rest))
    ∙ ap (λ t. old ++ t) (sym (map-append f (take n rest) (drop n rest)) ∙ ap (map f) (take-append-drop n rest)) ∙ so_far
