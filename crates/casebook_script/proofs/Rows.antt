-- The rows of a table, as the code reads them.
use Rattle.std.proofs.Common.{◌≡◌, ◌∙◌, ℕ, ◌+◌, ◌<◌, ◌≤◌, Bool, true, false, List, [], ◌∷◌, ◌++◌, length, map, drop}
use Rattle.std.proofs.Common.{get_or, Ok, Err, refl, sym, ap, append_assoc, append-nil, cond}
use Rattle.std.proofs.lemmas.List.{map_push}
use Rattle.std.proofs.Math.ListN.{drop_of_length-le}
use Rattle.std.specs.Str.{IsUtf8, is_utf8}
use Rattle.std.proofs.lemmas.Str.{is_utf8-from_IsUtf8, IsUtf8-from_is_utf8}
use Rattle.casebook_script.specs.Rows.{is_skipped, rows_from, rows_in, rows_of}
use Rattle.casebook_script.specs.declared.fault.Table.{Table}
use Rattle.casebook_script.specs.declared.fault.TableFault.TheVariants.{NotUtf8}
use Rattle.casebook_script.proofs.InTurn.{at_item}

module _ {A C : Type 0} (view : A → ℕ × List ℕ) (va : C → List ℕ) where
  -- a loop over the parts of a text that has kept some of the rows
  abbrev pub IsKept : List A → List C → ℕ → Type 0
  IsKept rows parts i =
      map view rows ++ rows_from (i + 1) (map va (drop i parts)) ≡ rows_from 1 (map va parts)

  pub row_kept : (rows new : List A) (parts : List C) (i : ℕ) (d x : C) (row : A)
      → i < length parts → x ≡ get_or parts i d → is_skipped (va x) ≡ false → view row ≡ (i + 1, va x)
      → new ≡ rows ++ row ∷ [] → IsKept rows parts i → IsKept new parts (i + 1)
  unfolding rows_from
  row_kept rows new parts i d x row lt is kept same push so_far =
      let rest = map va (drop (i + 1) parts) in
      let more : rows_from (i + 1) (va x ∷ rest) ≡ (i + 1, va x) ∷ rows_from (i + 1 + 1) rest = rw kept refl in
      ap (λ r. map view r ++ rows_from (i + 1 + 1) rest) push
      ∙ ap (λ r. r ++ rows_from (i + 1 + 1) rest) (map_push view rows row)
      ∙ append_assoc (map view rows) (view row ∷ []) (rows_from (i + 1 + 1) rest)
      ∙ ap (λ v. map view rows ++ v ∷ rows_from (i + 1 + 1) rest) same
      ∙ ap (λ r. map view rows ++ r) (sym more)
      ∙ ap (λ r. map view rows ++ rows_from (i + 1) r) (sym (at_item va parts i d x lt is)) ∙ so_far

  pub row_skipped : (rows : List A) (parts : List C) (i : ℕ) (d x : C)
      → i < length parts → x ≡ get_or parts i d → is_skipped (va x) ≡ true
      → IsKept rows parts i → IsKept rows parts (i + 1)
  unfolding rows_from
  row_skipped rows parts i d x lt is skipped so_far =
      let rest = map va (drop (i + 1) parts) in
      let more : rows_from (i + 1) (va x ∷ rest) ≡ rows_from (i + 1 + 1) rest = rw skipped refl in
      ap (λ r. map view rows ++ r) (sym more)
      ∙ ap (λ r. map view rows ++ rows_from (i + 1) r) (sym (at_item va parts i d x lt is)) ∙ so_far

  pub rows_done : (rows : List A) (parts : List C) (i : ℕ) → length parts ≤ i → IsKept rows parts i
      → map view rows ≡ rows_from 1 (map va parts)
  unfolding rows_from
  rows_done rows parts i le so_far =
      let none : map va (drop i parts) ≡ [] = ap (map va) (drop_of_length-le parts le) in
      sym (append-nil (map view rows)) ∙ ap (λ r. map view rows ++ rows_from (i + 1) r) (sym none) ∙ so_far

-- ---- tables that are UTF-8, or aren't

pub rows_of_text : (table : Table) (bytes text : List ℕ) → text ≡ bytes → IsUtf8 bytes → rows_in table bytes ≡ Ok (rows_of text)
rows_of_text table bytes text same utf8 =
    ap (λ b. cond b (Ok (rows_of bytes)) (Err (NotUtf8 table))) (is_utf8-from_IsUtf8 bytes utf8)
    ∙ ap (λ t. Ok (rows_of t)) (sym same)

pub no_rows : (table : Table) (bytes : List ℕ) → ¬ (IsUtf8 bytes) → rows_in table bytes ≡ Err (NotUtf8 table)
no_rows table bytes odd = by_test (is_utf8 bytes) refl
  where
    by_test : (b : Bool) → is_utf8 bytes ≡ b → cond b (Ok (rows_of bytes)) (Err (NotUtf8 table)) ≡ Err (NotUtf8 table)
    by_test true h = absurd (odd (IsUtf8-from_is_utf8 bytes h))
    by_test false h = refl
