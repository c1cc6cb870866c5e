-- The lines of a file, one after another.
use Rattle.std.proofs.Common.{◌≡◌, ℕ, ◌+◌, ◌<◌, ◌≤◌, List, [], ◌∷◌, ◌++◌, length}
use Rattle.std.proofs.Common.{map, drop, get_or, refl, sym, ap, ◌∙◌}
use Rattle.std.proofs.Common.{append_assoc}
use Rattle.std.specs.Prelude.{◌==◌, flat_map}
use Rattle.std.specs.Str.{trim}
use Rattle.std.specs.List.{join_by, join_with_byte, slice_split}
use Rattle.std.proofs.lemmas.List.{append-nil, drop_more}
use Rattle.std.proofs.Math.ListN.{drop_of_length-le}
use denote.Ref.{Bor}
use Rattle.casebook_text.specs.ListFile.{items_of_line, list_of_file}

abbrev pub texts_of : List (Bor (List ℕ)) → List (List ℕ)
texts_of = map (λ text. text.now)

-- what is found of some texts comes behind what there was, and that of the texts from an index on
-- is still to come
abbrev pub AreFoundTo : (List ℕ → List (List ℕ)) → List (List ℕ) → List (Bor (List ℕ)) → List (Bor (List ℕ)) → ℕ
    → Type 0
AreFoundTo found_in before found texts i =
    texts_of found ++ flat_map found_in (texts_of (drop i texts)) ≡ before ++ flat_map found_in (texts_of texts)

pub next_text : (found_in : List ℕ → List (List ℕ)) (before : List (List ℕ)) (found new texts : List (Bor (List ℕ)))
    (i : ℕ) (d : Bor (List ℕ)) → i < length texts
    → texts_of new ≡ texts_of found ++ found_in (get_or texts i d).now
    → AreFoundTo found_in before found texts i → AreFoundTo found_in before new texts (i + 1)
next_text found_in before found new texts i d lt after so_far =
    let rest = flat_map found_in (texts_of (drop (i + 1) texts)) in
    ap (λ t. t ++ rest) after
    ∙ append_assoc (texts_of found) (found_in (get_or texts i d).now) rest
    ∙ ap (λ t. texts_of found ++ flat_map found_in (texts_of t)) (sym (drop_more texts i d lt))
    ∙ so_far

pub no_text_left : (found_in : List ℕ → List (List ℕ)) (before : List (List ℕ)) (found texts : List (Bor (List ℕ)))
    (i : ℕ) → length texts ≤ i → AreFoundTo found_in before found texts i
    → texts_of found ≡ before ++ flat_map found_in (texts_of texts)
no_text_left found_in before found texts i le so_far =
    sym (append-nil (texts_of found))
    ∙ sym (ap (λ t. texts_of found ++ flat_map found_in (texts_of t)) (drop_of_length-le texts le)) ∙ so_far

-- the item that a text between commas is
abbrev pub item_in : List ℕ → List (List ℕ)
item_in text = trim text ∷ []

pub items_trimmed : (texts : List (List ℕ)) → flat_map item_in texts ≡ map trim texts
items_trimmed [] = refl
items_trimmed (text ∷ texts) = ap (λ t. trim text ∷ t) (items_trimmed texts)

-- ---- the items of all lines

joined_is : (items : List (Bor (List ℕ))) → join_by (λ text. text.now) (44 ∷ []) items ≡ join_with_byte 44 (texts_of items)
joined_is [] = refl
joined_is (x ∷ []) = append-nil x.now
joined_is (x ∷ y ∷ rest) = ap (λ t. x.now ++ (44 ∷ t)) (joined_is (y ∷ rest))

pub file_joined : (list text : List ℕ) (lines items : List (Bor (List ℕ)))
    → texts_of lines ≡ slice_split (λ b. b == 10) text → texts_of items ≡ flat_map items_of_line (texts_of lines)
    → list ≡ join_by (λ t. t.now) (44 ∷ []) items → list ≡ list_of_file text
unfolding list_of_file
file_joined list text lines items split found joined =
    joined ∙ joined_is items ∙ ap (join_with_byte 44) (found ∙ ap (flat_map items_of_line) split)
