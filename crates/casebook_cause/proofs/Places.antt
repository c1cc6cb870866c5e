-- Lines that have no entry at a place of a query are alike.
use Rattle.std.proofs.Common.{◌≡◌, ◌≢◌, ◌∙◌, ◌⊎◌, inl, inr, ◌==◌, ◌+◌, ◌≤◌, ◌<◌, ℕ, Bool, true, false, ◌||◌, cond, List, [], ◌∷◌}
use Rattle.std.proofs.Common.{◌++◌, IfOk, IfSome, Option, Some, None, Result, Ok, Err, refl, sym, ap, subst, arith}
use Rattle.std.proofs.Common.{get_or, length, take}
use Rattle.std.proofs.lemmas.List.{take_more}
use Rattle.std.specs.Bool.{if◌then◌else◌}
use Rattle.std.specs.List.{filter, list_any}
use Rattle.std.specs.Option.{IsSome}
use Rattle.std.proofs.lemmas.Bool.{true≢false, eqb-true}
use Rattle.retro_tree.specs.Ask.{answer, supports}
use Rattle.retro_tree.specs.Change.{cell_of}
use Rattle.retro_tree.specs.Notes.{after, cell_eq}
use Rattle.retro_tree.specs.Order.{path_eq, text_eq}
use Rattle.retro_tree.specs.Path.{is_child, parent_of, passwd}
use Rattle.retro_tree.specs.declared.ask.Ask.{Ask}
use Rattle.retro_tree.specs.declared.ask.Ask.TheVariants as asks
use Rattle.retro_tree.specs.declared.cell.Cell.{Cell}
use Rattle.retro_tree.specs.declared.cell.Cell.TheVariants as cells
use Rattle.retro_tree.specs.declared.change.Change.{Change}
use Rattle.retro_tree.specs.declared.note.Note.{Note}
use Rattle.retro_tree.proofs.NoteLaws.{cell_itself}
use Rattle.retro_tree.proofs.Sames.{paths_same}
use Rattle.retro_tree.proofs.Small.{both_true, first_true, or_first, or_last, same_text}
use Rattle.retro_keep.specs.Recorded.{recorded_before}
use Rattle.retro_keep.specs.Recording.{RecordingValue, noted_at}
use Rattle.retro_keep.specs.declared.noted.Noted.{Noted}
use Rattle.casebook_cause.specs.Cause.{IsAlike, IsCause, notes_of}
use Rattle.casebook_cause.specs.LineResult.{changes_in}
use Rattle.casebook_cause.specs.declared.place.SearchPlace.{SearchPlace}
use Rattle.casebook_cause.specs.inner.Latest.{IsAtMost, IsLatest}
use Rattle.casebook_cause.specs.inner.PlaceOrder.{Entry}
use Rattle.casebook_cause.specs.inner.Places.{AreDifferences, HasEntries, HaveEntries, changes_place, has_line}
use Rattle.casebook_cause.specs.inner.Places.{has_line_in, is_at_place, notes_at, places_for}
use Rattle.casebook_cause.proofs.Causes.{answers_alike}

-- ---- truth values

neither_first : (a b : Bool) → (a || b) ≡ false → a ≡ false
neither_first true b e = absurd (true≢false e)
neither_first false b e = refl

neither_second : (a b : Bool) → (a || b) ≡ false → b ≡ false
neither_second true b e = absurd (true≢false e)
neither_second false b e = e

neither : (a b : Bool) → a ≡ false → b ≡ false → (a || b) ≡ false
neither a b e f = ap (λ x. x || b) e ∙ f

-- none of some passes either of two tests
module _ {A : Type 0} (one two : A → Bool) where
  none_of_first : (xs : List A) → list_any (λ x. one x || two x) xs ≡ false → list_any one xs ≡ false
  none_of_first [] e = refl
  none_of_first (x ∷ xs) e =
      neither (one x) (list_any one xs) (neither_first (one x) (two x) (neither_first (one x || two x) _ e))
      (none_of_first xs (neither_second (one x || two x) _ e))

  none_of_second : (xs : List A) → list_any (λ x. one x || two x) xs ≡ false → list_any two xs ≡ false
  none_of_second [] e = refl
  none_of_second (x ∷ xs) e =
      neither (two x) (list_any two xs) (neither_second (one x) (two x) (neither_first (one x || two x) _ e))
      (none_of_second xs (neither_second (one x || two x) _ e))

-- ---- the places of a query

same_at : (p q : List (List ℕ)) → path_eq p q ≡ true → cell_eq (cells.At p) (cells.At q) ≡ true
same_at p q e = subst (λ r. cell_eq (cells.At p) (cells.At r) ≡ true) ((paths_same p q).0 e) (cell_itself (cells.At p))

either_at : (p r q : List (List ℕ)) (a b : Bool) → path_eq p q ≡ a → path_eq r q ≡ b → (a || b) ≡ true
    → (cell_eq (cells.At p) (cells.At q) || (cell_eq (cells.At r) (cells.At q) || false)) ≡ true
either_at p r q true b e f g = or_first _ _ (same_at p q e)
either_at p r q false true e f g = or_last _ _ (or_first _ _ (same_at r q f))
either_at p r q false false e f g = absurd (true≢false (sym g))

at_or_below : (p q : List (List ℕ)) (a : Bool) → path_eq p q ≡ a → (a || is_child p q) ≡ true
    → (cell_eq (cells.At p) (cells.At q) || (is_child p q || false)) ≡ true
at_or_below p q true e g = or_first _ _ (same_at p q e)
at_or_below p q false e g = or_last _ _ (or_first _ _ g)

same_variable : (sid s : ℕ) (name v : List ℕ) → (sid == s) ≡ true → text_eq name v ≡ true
    → cell_eq (cells.Var sid name) (cells.Var s v) ≡ true
same_variable sid s name v e f =
    subst (λ (n : ℕ). cell_eq (cells.Var sid name) (cells.Var n v) ≡ true) (eqb-true sid s e)
    (subst (λ (t : List ℕ). cell_eq (cells.Var sid name) (cells.Var sid t) ≡ true) (same_text name v f)
    (cell_itself (cells.Var sid name)))

same_cwd : (sid s : ℕ) → (sid == s) ≡ true → cell_eq (cells.Cwd sid) (cells.Cwd s) ≡ true
same_cwd sid s e =
    subst (λ (n : ℕ). cell_eq (cells.Cwd sid) (cells.Cwd n) ≡ true) (eqb-true sid s e) (cell_itself (cells.Cwd sid))

same_status : (sid s : ℕ) → (sid == s) ≡ true → cell_eq (cells.Status sid) (cells.Status s) ≡ true
same_status sid s e =
    subst (λ (n : ℕ). cell_eq (cells.Status sid) (cells.Status n) ≡ true) (eqb-true sid s e) (cell_itself (cells.Status sid))

-- the answer to a query depends on cells at its places alone
supported_at : (q : Ask) (c : Cell) → supports q c ≡ true → list_any (λ p. is_at_place p c) (places_for q) ≡ true
unfolding supports
supported_at (asks.Kind p) (cells.At q) sup = or_first _ _ (same_at p q sup)
supported_at (asks.Kind p) (cells.Cwd s) sup = absurd (true≢false (sym sup))
supported_at (asks.Kind p) (cells.Var s v) sup = absurd (true≢false (sym sup))
supported_at (asks.Kind p) (cells.Status s) sup = absurd (true≢false (sym sup))
supported_at (asks.Bytes p) (cells.At q) sup = or_first _ _ (same_at p q sup)
supported_at (asks.Bytes p) (cells.Cwd s) sup = absurd (true≢false (sym sup))
supported_at (asks.Bytes p) (cells.Var s v) sup = absurd (true≢false (sym sup))
supported_at (asks.Bytes p) (cells.Status s) sup = absurd (true≢false (sym sup))
supported_at (asks.Names p) (cells.At q) sup = at_or_below p q (path_eq p q) refl sup
supported_at (asks.Names p) (cells.Cwd s) sup = absurd (true≢false (sym sup))
supported_at (asks.Names p) (cells.Var s v) sup = absurd (true≢false (sym sup))
supported_at (asks.Names p) (cells.Status s) sup = absurd (true≢false (sym sup))
supported_at (asks.CanWrite p n) (cells.At q) sup =
    either_at p (parent_of p) q (path_eq p q) (path_eq (parent_of p) q) refl refl sup
supported_at (asks.CanWrite p n) (cells.Cwd s) sup = absurd (true≢false (sym sup))
supported_at (asks.CanWrite p n) (cells.Var s v) sup = absurd (true≢false (sym sup))
supported_at (asks.CanWrite p n) (cells.Status s) sup = absurd (true≢false (sym sup))
supported_at (asks.User name) (cells.At q) sup = or_first _ _ (same_at passwd q sup)
supported_at (asks.User name) (cells.Cwd s) sup = absurd (true≢false (sym sup))
supported_at (asks.User name) (cells.Var s v) sup = absurd (true≢false (sym sup))
supported_at (asks.User name) (cells.Status s) sup = absurd (true≢false (sym sup))
supported_at (asks.VarOf sid name) (cells.At q) sup = absurd (true≢false (sym sup))
supported_at (asks.VarOf sid name) (cells.Cwd s) sup = absurd (true≢false (sym sup))
supported_at (asks.VarOf sid name) (cells.Var s v) sup =
    or_first _ _ (same_variable sid s name v (first_true (sid == s) (text_eq name v) sup) (both_true (sid == s) (text_eq name v) sup))
supported_at (asks.VarOf sid name) (cells.Status s) sup = absurd (true≢false (sym sup))
supported_at (asks.CwdOf sid) (cells.At q) sup = absurd (true≢false (sym sup))
supported_at (asks.CwdOf sid) (cells.Cwd s) sup = or_first _ _ (same_cwd sid s sup)
supported_at (asks.CwdOf sid) (cells.Var s v) sup = absurd (true≢false (sym sup))
supported_at (asks.CwdOf sid) (cells.Status s) sup = absurd (true≢false (sym sup))
supported_at (asks.StatusOf sid) (cells.At q) sup = absurd (true≢false (sym sup))
supported_at (asks.StatusOf sid) (cells.Cwd s) sup = absurd (true≢false (sym sup))
supported_at (asks.StatusOf sid) (cells.Var s v) sup = absurd (true≢false (sym sup))
supported_at (asks.StatusOf sid) (cells.Status s) sup = or_first _ _ (same_status sid s sup)

-- changes of no cell at a place of a query aren't among its changes
module _ (q : Ask) where
  no_changes : (xs : List Change)
      → list_any (λ p. list_any (λ x. is_at_place p (cell_of x)) xs) (places_for q) ≡ false
      → filter (λ x. supports q (cell_of x)) xs ≡ []
  no_changes [] none = refl
  no_changes (x ∷ xs) none = by_test (supports q (cell_of x)) refl
      (no_changes xs (none_of_second (λ p. is_at_place p (cell_of x)) (λ p. list_any (λ y. is_at_place p (cell_of y)) xs)
      (places_for q) none))
    where
      here : list_any (λ p. is_at_place p (cell_of x)) (places_for q) ≡ false
      here = none_of_first (λ p. is_at_place p (cell_of x)) (λ p. list_any (λ y. is_at_place p (cell_of y)) xs) (places_for q) none

      by_test : (b : Bool) → supports q (cell_of x) ≡ b → filter (λ y. supports q (cell_of y)) xs ≡ []
          → cond b (x ∷ filter (λ y. supports q (cell_of y)) xs) (filter (λ y. supports q (cell_of y)) xs) ≡ []
      by_test true e rest = absurd (true≢false (sym (supported_at q (cell_of x) e) ∙ here))
      by_test false e rest = rest

-- ---- lines without entries

-- a line without an entry at some places changes no cell there, or makes the same changes
unlisted : (k : ℕ) (notes others : List Note) (entries : List Entry) (ps : List SearchPlace) → has_line_in ps entries k ≡ false
    → HasEntries k notes others entries
    → (list_any (λ p. changes_place p notes) ps ≡ false) ⊎ (changes_in notes ≡ changes_in others)
unlisted k notes others entries [] none has = inl refl
unlisted k notes others entries (p ∷ ps) none has =
    by_test (changes_place p notes) refl
    (unlisted k notes others entries ps (neither_second (has_line k p entries) _ none) has)
  where
    not_here : has_line k p entries ≡ false
    not_here = neither_first (has_line k p entries) _ none

    listed : (has_line k p entries ≡ true) ⊎ (changes_in notes ≡ changes_in others) → changes_in notes ≡ changes_in others
    listed (inl e) = absurd (true≢false (sym e ∙ not_here))
    listed (inr same) = same

    by_test : (b : Bool) → changes_place p notes ≡ b
        → (list_any (λ o. changes_place o notes) ps ≡ false) ⊎ (changes_in notes ≡ changes_in others)
        → ((b || list_any (λ o. changes_place o notes) ps) ≡ false) ⊎ (changes_in notes ≡ changes_in others)
    by_test true e rest = inr (listed (has p e))
    by_test false e rest = rest

-- so it makes the same changes for the query in both recordings
module _ (q : Ask) (one two : RecordingValue) (entries : List Entry) (are : AreDifferences one two entries) where
  alike_apart : (k : ℕ) → has_line_in (places_for q) entries k ≡ false → IsAlike q one two k
  alike_apart k none =
      by_parts (unlisted k (notes_at k one.lines) (notes_at k two.lines) entries (places_for q) none (are.recorded k))
      (unlisted k (notes_at k two.lines) (notes_at k one.lines) entries (places_for q) none (are.repaired k))
    where
      by_parts : (list_any (λ p. changes_place p (notes_at k one.lines)) (places_for q) ≡ false)
          ⊎ (changes_in (notes_at k one.lines) ≡ changes_in (notes_at k two.lines))
          → (list_any (λ p. changes_place p (notes_at k two.lines)) (places_for q) ≡ false)
          ⊎ (changes_in (notes_at k two.lines) ≡ changes_in (notes_at k one.lines))
          → IsAlike q one two k
      by_parts (inr same) other = ap (filter (λ x. supports q (cell_of x))) same
      by_parts (inl first) (inr same) = sym (ap (filter (λ x. supports q (cell_of x))) same)
      by_parts (inl first) (inl second) =
          no_changes q (changes_in (notes_at k one.lines)) first
          ∙ sym (no_changes q (changes_in (notes_at k two.lines)) second)

  module _ (n : ℕ) where
    covered : (found : Option ℕ) → IsLatest (IsAlike q one two) n (has_line_in (places_for q) entries) found
        → (k : ℕ) → k < n → IsAlike q one two k ⊎ IsAtMost k found
    covered found latest k less = by_test (has_line_in (places_for q) entries k) refl
      where
        by_test : (b : Bool) → has_line_in (places_for q) entries k ≡ b → IsAlike q one two k ⊎ IsAtMost k found
        by_test true e = latest.complete k less e
        by_test false e = inl (alike_apart k e)

    pub none_is : (found : Option ℕ) → IsLatest (IsAlike q one two) n (has_line_in (places_for q) entries) found
        → found ≡ None → (k : ℕ) → k < n → IsAlike q one two k
    none_is None latest e k less = by_part (covered None latest k less)
      where
        by_part : IsAlike q one two k ⊎ ⊥ → IsAlike q one two k
        by_part (inl a) = a
        by_part (inr h) = absurd h
    none_is (Some m) latest e k less = cc

    pub some_is : (found : Option ℕ) → IsLatest (IsAlike q one two) n (has_line_in (places_for q) entries) found
        → IfSome found (IsCause q n one two)
    some_is None latest = tt
    some_is (Some m) latest = record {
      earlier = latest.sound.0;
      otherwise = latest.sound.1;
      last = λ k after_it less. by_part k after_it (covered (Some m) latest k less);
    }
      where
        by_part : (k : ℕ) → m < k → IsAlike q one two k ⊎ (k ≤ m) → IsAlike q one two k
        by_part k after_it (inl a) = a
        by_part k after_it (inr h) = absurd (omega (arith, after_it, h))

    pub cause_exists : (found : Option ℕ) → IsLatest (IsAlike q one two) n (has_line_in (places_for q) entries) found
        → one.first ≡ two.first → (notes : List Note)
        → answer q (after notes (recorded_before n one)) ≢ answer q (after notes (recorded_before n two)) → IsSome found
    cause_exists None latest same notes differ =
        absurd (differ (answers_alike q n one two are.well_recorded are.well_repaired same (none_is None latest refl) notes))
    cause_exists (Some m) latest same notes differ = refl

-- ---- the answers of the code

mapped : {A E : Type 0} (P Q : A → Type 0) (r : Result A E) → ((x : A) → P x → Q x) → IfOk r P → IfOk r Q
mapped P Q (Ok x) f h = f x h
mapped P Q (Err e) f h = tt

module _ {E : Type 0} (q : Ask) (n : ℕ) (one two : RecordingValue) (entries : List Entry)
    (are : AreDifferences one two entries) (ps : List SearchPlace) (is : ps ≡ places_for q) (found : Result (Option ℕ) E)
    (latest : IfOk found (IsLatest (IsAlike q one two) n (has_line_in ps entries))) where
  all_latest : IfOk found (IsLatest (IsAlike q one two) n (has_line_in (places_for q) entries))
  all_latest = subst (λ os. IfOk found (IsLatest (IsAlike q one two) n (has_line_in os entries))) is latest

  pub if_none : IfOk found (λ f. f ≡ None → (m : ℕ) → m < n → IsAlike q one two m)
  if_none = mapped (IsLatest (IsAlike q one two) n (has_line_in (places_for q) entries)) _ found
      (none_is q one two entries are n) all_latest

  pub if_some : IfOk found (λ f. IfSome f (IsCause q n one two))
  if_some = mapped (IsLatest (IsAlike q one two) n (has_line_in (places_for q) entries)) _ found
      (some_is q one two entries are n) all_latest

  pub if_differs : one.first ≡ two.first → (notes : List Note)
      → answer q (after notes (recorded_before n one)) ≢ answer q (after notes (recorded_before n two))
      → IfOk found (λ f. IsSome f)
  if_differs same notes differ = mapped (IsLatest (IsAlike q one two) n (has_line_in (places_for q) entries)) _ found
      (λ f l. cause_exists q one two entries are n f l same notes differ) all_latest

-- ---- the entries of lines

pub no_entries : (others : List (ℕ × Noted)) (entries : List Entry) → HaveEntries [] others entries
no_entries others entries n p changes = absurd (true≢false (sym changes))

pub entries_kept : (lines others : List (ℕ × Noted)) (old new : List Entry)
    → ((n : ℕ) (p : SearchPlace) → has_line n p old ≡ true → has_line n p new ≡ true) → HaveEntries lines others old
    → HaveEntries lines others new
entries_kept lines others old new kept have n p changes = by_part (have n p changes)
  where
    by_part : (has_line n p old ≡ true) ⊎ (changes_in (notes_at n lines) ≡ changes_in (notes_at n others))
        → (has_line n p new ≡ true) ⊎ (changes_in (notes_at n lines) ≡ changes_in (notes_at n others))
    by_part (inl e) = inl (kept n p e)
    by_part (inr same) = inr same

-- the notes of a number, after one more line
notes_after : (n : ℕ) (lines : List (ℕ × Noted)) (l : ℕ × Noted)
    → (notes_at n (lines ++ l ∷ []) ≡ notes_at n lines) ⊎ ((l.0 ≡ n) × (notes_at n (lines ++ l ∷ []) ≡ l.1.notes))
notes_after n [] l = by_test (l.0 == n) refl
  where
    by_test : (b : Bool) → (l.0 == n) ≡ b
        → (notes_of (if b then Some l.1 else None) ≡ []) ⊎ ((l.0 ≡ n) × (notes_of (if b then Some l.1 else None) ≡ l.1.notes))
    by_test true e = inr (eqb-true l.0 n e, refl)
    by_test false e = inl refl
notes_after n (k ∷ lines) l = by_test (k.0 == n) (notes_after n lines l)
  where
    by_test : (b : Bool)
        → (notes_at n (lines ++ l ∷ []) ≡ notes_at n lines) ⊎ ((l.0 ≡ n) × (notes_at n (lines ++ l ∷ []) ≡ l.1.notes))
        → (notes_of (if b then Some k.1 else noted_at n (lines ++ l ∷ [])) ≡ notes_of (if b then Some k.1 else noted_at n lines))
        ⊎ ((l.0 ≡ n) × (notes_of (if b then Some k.1 else noted_at n (lines ++ l ∷ [])) ≡ l.1.notes))
    by_test true rest = inl refl
    by_test false rest = rest

pub one_more_line : (lines others : List (ℕ × Noted)) (l : ℕ × Noted) (entries : List Entry)
    → HaveEntries lines others entries → HasEntries l.0 l.1.notes (notes_at l.0 others) entries
    → HaveEntries (lines ++ l ∷ []) others entries
one_more_line lines others l entries have has n = by_part (notes_after n lines l)
  where
    by_part : (notes_at n (lines ++ l ∷ []) ≡ notes_at n lines) ⊎ ((l.0 ≡ n) × (notes_at n (lines ++ l ∷ []) ≡ l.1.notes))
        → HasEntries n (notes_at n (lines ++ l ∷ [])) (notes_at n others) entries
    by_part (inl same) = subst (λ notes. HasEntries n notes (notes_at n others) entries) (sym same) (have n)
    by_part (inr is) =
        subst (λ notes. HasEntries n notes (notes_at n others) entries) (sym is.1)
        (subst (λ m. HasEntries m l.1.notes (notes_at m others) entries) is.0 has)

pub next_line : (lines others : List (ℕ × Noted)) (i : ℕ) (l : ℕ × Noted) (notes those : List Note) (old new : List Entry)
    → i < length lines → l ≡ get_or lines i l → notes ≡ l.1.notes → those ≡ notes_at l.0 others
    → ((n : ℕ) (p : SearchPlace) → has_line n p old ≡ true → has_line n p new ≡ true)
    → HaveEntries (take i lines) others old → HasEntries l.0 notes those new
    → HaveEntries (take (i + 1) lines) others new
next_line lines others i l notes those old new below item is_notes is_those kept have has =
    subst (λ ls. HaveEntries ls others new)
    (sym (take_more lines i l below ∙ ap (λ (x : ℕ × Noted). take i lines ++ x ∷ []) (sym item)))
    (one_more_line (take i lines) others l new (entries_kept (take i lines) others old new kept have)
    (subst (λ ns. HasEntries l.0 ns (notes_at l.0 others) new) is_notes
    (subst (λ ts. HasEntries l.0 notes ts new) is_those has)))
