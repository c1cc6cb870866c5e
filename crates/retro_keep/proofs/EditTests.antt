-- Searches for edits that are refused.
use Rattle.std.proofs.Common.{◌≡◌, ◌∙◌, ℕ, ◌<◌, ◌≤◌, ◌+◌, ◌==◌, Bool, true, false, not, List, []}
use Rattle.std.proofs.Common.{◌∷◌, ◌++◌, map, filter, cond, nat_lt, Option, None, Some, refl, ap}
use Rattle.std.proofs.Common.{sym, arith, length, get_or, take, drop}
use Rattle.std.specs.Option.{option_or}
use Rattle.std.proofs.lemmas.Bool.{eq-eqb, ne_eqb, ltb-true, ltb-false, lt-ltb, le-ltb}
use Rattle.std.proofs.lemmas.List.{drop_more, take-append-drop, take_more}
use Rattle.std.specs.Cmp.Lexicographic.{nat_list_eq_equiv}
use Rattle.retro_tree.specs.Order.{text_eq}
use Rattle.retro_tree.proofs.Small.{and_true}
use Rattle.retro_keep.specs.Edit.{edit_eq, edit_of, edited_number, is_edit}
use Rattle.retro_keep.specs.Edit.{least, not_lines, sooner}
use Rattle.retro_keep.specs.declared.edit.Edit.{Edit}
use Rattle.retro_keep.specs.declared.edit.Edit.TheVariants.{Cancel, Replace}
use Rattle.retro_keep.proofs.Edited.{edit_of_append}

-- ---- the least of some numbers

pub sooner_none : (n : Option ℕ) → sooner n None ≡ n
sooner_none None = refl
sooner_none (Some n) = refl

-- the lesser of three numbers
pub sooner_join : (one : Option ℕ) (n : ℕ) (two : Option ℕ)
    → sooner (sooner one (Some n)) two ≡ sooner one (sooner (Some n) two)
sooner_join None n two = refl
sooner_join (Some m) n None = refl
sooner_join (Some m) n (Some k) = by_tests (nat_lt m n) (nat_lt n k) refl refl
  where
    by_tests : (b c : Bool) → nat_lt m n ≡ b → nat_lt n k ≡ c
        → ◌≡◌ {A = Option ℕ} (sooner (Some (cond b m n)) (Some k))
        (sooner (Some m) (Some (cond c n k)))
    by_tests true true e f =
        let less = ltb-true m n e in let more = ltb-true n k f in
        rw (lt-ltb m k (omega (arith, less, more)), e) refl
    by_tests true false e f = refl
    by_tests false true e f = rw (e, f) refl
    by_tests false false e f =
        let le = ltb-false m n e in let more = ltb-false n k f in
        rw (le-ltb m k (omega (arith, le, more)), f) refl

-- ---- a loop over edits

module _ (edits : List Edit) (i : ℕ) (d : Edit) (lt : i < length edits) (is : d ≡ get_or edits i d)
  where
    rest_at : drop i edits ≡ d ∷ drop (i + 1) edits
    rest_at = drop_more edits i d lt ∙ ap (λ k. k ∷ drop (i + 1) edits) (sym is)

    taken_at : take (i + 1) edits ≡ take i edits ++ d ∷ []
    taken_at = take_more edits i d lt ∙ ap (λ k. take i edits ++ k ∷ []) (sym is)

    -- the first edits with one more
    pub edit_of_more : (n : ℕ) → option_or (edit_of (take i edits) n) (edit_of (d ∷ []) n)
        ≡ edit_of (take (i + 1) edits) n
    edit_of_more n = sym (edit_of_append (take i edits) (d ∷ []) n)
        ∙ ap (λ es. edit_of es n) (sym taken_at)

-- ---- edited numbers that no line has

missing_cons : (is_line : ℕ → Bool) (d : Edit) (rest : List Edit) (b : Bool)
    → is_line (edited_number d) ≡ b
    → least (not_lines is_line (d ∷ rest))
    ≡ cond b (least (not_lines is_line rest))
    (sooner (Some (edited_number d)) (least (not_lines is_line rest)))
missing_cons is_line d rest true e = rw e refl
missing_cons is_line d rest false e = rw e refl

module _ (is_line : ℕ → Bool) (edits : List Edit) (i : ℕ) (found total : Option ℕ)
    (so_far : sooner found (least (not_lines is_line (drop i edits))) ≡ total) (d : Edit)
    (lt : i < length edits) (is : d ≡ get_or edits i d) where
  missing_at : (b : Bool) → is_line (edited_number d) ≡ b
      → sooner found (cond b (least (not_lines is_line (drop (i + 1) edits)))
      (sooner (Some (edited_number d)) (least (not_lines is_line (drop (i + 1) edits))))) ≡ total
  missing_at b e =
      ap (sooner found) (sym (missing_cons is_line d (drop (i + 1) edits) b e))
      ∙ ap (λ es. sooner found (least (not_lines is_line es))) (sym (rest_at edits i d lt is))
      ∙ so_far

  pub missing_here : is_line (edited_number d) ≡ false
      → sooner (sooner found (Some (edited_number d)))
      (least (not_lines is_line (drop (i + 1) edits))) ≡ total
  missing_here e = sooner_join found (edited_number d) _ ∙ missing_at false e

  pub missing_later : is_line (edited_number d) ≡ true
      → sooner found (least (not_lines is_line (drop (i + 1) edits))) ≡ total
  missing_later e = missing_at true e

-- ---- two edits of a line

-- the numbers of the edits of a list that differ from the first one of their line among all edits
abbrev pub twice_from : List Edit → List Edit → List ℕ
twice_from all rest = map edited_number
    (filter (λ e. not (is_edit (edit_of all (edited_number e)) e)) rest)

twice_cons : (all : List Edit) (d : Edit) (rest : List Edit) (b : Bool)
    → is_edit (edit_of all (edited_number d)) d ≡ b
    → least (twice_from all (d ∷ rest))
    ≡ cond b (least (twice_from all rest))
    (sooner (Some (edited_number d)) (least (twice_from all rest)))
twice_cons all d rest true e = rw e refl
twice_cons all d rest false e = rw e refl

edit_eq-same : (e : Edit) → edit_eq e e ≡ true
edit_eq-same (Cancel n) = eq-eqb n n refl
edit_eq-same (Replace n text) = and_true (n == n) (text_eq text text) (eq-eqb n n refl)
    (nat_list_eq_equiv.refl text)

module _ (edits : List Edit) (i : ℕ) (found total : Option ℕ)
    (so_far : sooner found (least (twice_from edits (drop i edits))) ≡ total) (d : Edit)
    (lt : i < length edits) (is : d ≡ get_or edits i d) where
  twice_at : (b : Bool) → is_edit (edit_of edits (edited_number d)) d ≡ b
      → sooner found (cond b (least (twice_from edits (drop (i + 1) edits)))
      (sooner (Some (edited_number d)) (least (twice_from edits (drop (i + 1) edits))))) ≡ total
  twice_at b e =
      ap (sooner found) (sym (twice_cons edits d (drop (i + 1) edits) b e))
      ∙ ap (λ es. sooner found (least (twice_from edits es))) (sym (rest_at edits i d lt is))
      ∙ so_far

  pub twice_here : is_edit (edit_of edits (edited_number d)) d ≡ false
      → sooner (sooner found (Some (edited_number d)))
      (least (twice_from edits (drop (i + 1) edits))) ≡ total
  twice_here e = sooner_join found (edited_number d) _ ∙ twice_at false e

  pub twice_later : is_edit (edit_of edits (edited_number d)) d ≡ true
      → sooner found (least (twice_from edits (drop (i + 1) edits))) ≡ total
  twice_later e = twice_at true e

  -- an edit whose line no earlier one names is the first of its line
  pub first_later : edit_of (take i edits) (edited_number d) ≡ None
      → sooner found (least (twice_from edits (drop (i + 1) edits))) ≡ total
  first_later none =
      let n = edited_number d in
      let first : edit_of edits n ≡ Some d =
      ap (λ es. edit_of es n) (sym (take-append-drop i edits))
      ∙ edit_of_append (take i edits) (drop i edits) n
      ∙ ap (λ e. option_or e (edit_of (drop i edits) n)) none
      ∙ ap (λ es. edit_of es n) (rest_at edits i d lt is)
      ∙ ap (λ b. cond b (Some d) (edit_of (drop (i + 1) edits) n)) (eq-eqb n n refl) in
      twice_later (ap (λ e. is_edit e d) first ∙ edit_eq-same d)

-- no edit so far has a number from a bound on
abbrev pub IsBound : ℕ → List Edit → Type 0
IsBound bound edits = (n : ℕ) → bound ≤ n → edit_of edits n ≡ None

pub bound_more : (edits : List Edit) (i bound more : ℕ) (d : Edit) → i < length edits
    → d ≡ get_or edits i d → IsBound bound (take i edits) → bound ≤ more → edited_number d < more
    → IsBound more (take (i + 1) edits)
bound_more edits i bound more d lt is bounded le less = λ n above.
    let other : edited_number d ≡ n → ⊥ = λ same. omega (arith, same, less, above) in
    sym (edit_of_more edits i d lt is n)
    ∙ ap (λ e. option_or e (edit_of (d ∷ []) n)) (bounded n (omega (arith, le, above)))
    ∙ ap (λ b. cond b (Some d) None) (ne_eqb (edited_number d) n other)
