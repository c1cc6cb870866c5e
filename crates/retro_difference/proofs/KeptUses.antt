-- The next uses of cells, line by line: over a line that no entry is at, and over one that is
-- settled.
use Rattle.std.proofs.Common.{◌≡◌, ◌≢◌, ◌∙◌, ◌⊎◌, inl, inr, ℕ, suc, ◌<◌, ◌≤◌, ◌==◌, Bool, true, false, ◌||◌}
use Rattle.std.proofs.Common.{nat_lt, List, [], ◌∷◌, drop, Option, Some, None, refl, sym, ap, arith, subst}
use Rattle.std.proofs.Common.{MatchBool}
use Rattle.std.specs.List.{slice_get}
use Rattle.std.specs.FinMap as finmap
use Rattle.std.specs.Option.{is_some}
use Rattle.std.proofs.lemmas.Bool.{true≢false, eqb-true, eq-eqb, ltb-true}
use Rattle.retro_tree.specs.Cell.{value}
use Rattle.retro_tree.specs.Exact.{IsDifference, IsExact}
use Rattle.retro_tree.specs.Notes.{after, AgreeOn, changes, effects, touches}
use Rattle.retro_tree.specs.Overlay.{OverlayMap}
use Rattle.retro_tree.specs.declared.cell.Cell.{Cell}
use Rattle.retro_tree.specs.declared.note.Note.{Note}
use Rattle.retro_tree.specs.declared.overlay_entry.OverlayEntry.{OverlayEntry}
use Rattle.retro_tree.specs.declared.overlay_entry.OverlayEntry.TheVariants as entries
use Rattle.retro_tree.specs.declared.state.State.{State}
use Rattle.retro_tree.specs.declared.value.Value.{Value}
use Rattle.retro_tree.proofs.NoteLaws.{value_after, value_unchanged}
use Rattle.retro_tree.proofs.Small.{both_true, first_true}
use Rattle.retro_difference.specs.Meeting.{Met}
use Rattle.retro_history.specs.Index.{Line, next_use}
use Rattle.retro_history.proofs.Lines.{RiseFrom}
use Rattle.retro_difference.specs.NextUses.{KeepsUses}
use Rattle.retro_difference.specs.NextUses.{AddsUses, AreSorted, HasNext, IsFirstIn, Prunes, Use}
use Rattle.retro_difference.specs.NextUses.{first_use, has_use}
use Rattle.retro_difference.specs.NextUses.{is_first_over, is_use, starts_at}
use Rattle.retro_difference.proofs.Entries.{has_none, head_has, least}
use Rattle.retro_difference.proofs.UsedLines.{apart, first_at_head, first_is_use, first_past, from_line, later_use}
use Rattle.retro_difference.proofs.UsedLines.{next_is_first, rise_after, use_above, use_at_head, use_past}

-- ---- the cells of an exact overlay

differs : (o : Option OverlayEntry) (was now : Value) → is_some o ≡ true → IsDifference o was now → was ≢ now
differs None was now t h = absurd (true≢false (sym t))
differs (Some (entries.Value v)) was now t h = h.1
differs (Some (entries.Growth bytes)) was now t h = absurd h

agrees : (o : Option OverlayEntry) (was now : Value) → is_some o ≡ false → IsDifference o was now → was ≡ now
agrees None was now t h = h
agrees (Some l) was now t h = absurd (true≢false t)

module _ (overlay : OverlayMap) (s t : State) (exact : IsExact overlay s t) where
  -- a cell with an entry differs, and one without doesn't
  pub differ : (c : Cell) → finmap.contains_key overlay c ≡ true → value c s ≢ value c t
  differ c has = differs (finmap.get overlay c) (value c s) (value c t) has (exact c)

  pub agree : (c : Cell) → finmap.contains_key overlay c ≡ false → value c s ≡ value c t
  agree c out = agrees (finmap.get overlay c) (value c s) (value c t) out (exact c)

-- notes that make two states differ in a cell in which they agree change it
changed : (recorded chosen : List Note) (s t : State) (c : Cell) → value c s ≡ value c t
    → value c (after recorded s) ≢ value c (after chosen t) → (changes recorded c || changes chosen c) ≡ true
changed recorded chosen s t c same apart = by_test (changes recorded c) (changes chosen c) refl refl
  where
    by_test : (a b : Bool) → changes recorded c ≡ a → changes chosen c ≡ b → (a || b) ≡ true
    by_test true b e f = refl
    by_test false true e f = refl
    by_test false false e f =
        absurd (apart (value_unchanged recorded c s e ∙ same ∙ sym (value_unchanged chosen c t f)))

-- a cell with an entry after a line has one before it, or is one that the line changes
pub entry_from : (old new : OverlayMap) (s t : State) (recorded chosen : List Note) → IsExact old s t
    → IsExact new (after recorded s) (after chosen t) → (c : Cell) → finmap.contains_key new c ≡ true
    → (finmap.contains_key old c ≡ true) ⊎ ((changes recorded c || changes chosen c) ≡ true)
entry_from old new s t recorded chosen was is c has = by_test (finmap.contains_key old c) refl
  where
    by_test : (b : Bool) → finmap.contains_key old c ≡ b
        → (finmap.contains_key old c ≡ true) ⊎ ((changes recorded c || changes chosen c) ≡ true)
    by_test true e = inl e
    by_test false e =
        inr (changed recorded chosen s t c (agree old s t was c e) (differ new (after recorded s) (after chosen t) is c has))

-- a cell with an entry after a line that does the same in both states has one before it
pub entry_kept : (old new : OverlayMap) (s t : State) (notes : List Note) → IsExact old s t
    → IsExact new (after notes s) (after notes t) → (c : Cell) → finmap.contains_key new c ≡ true
    → (finmap.contains_key old c ≡ true) ⊎ (false ≡ true)
entry_kept old new s t notes was is c has = by_test (finmap.contains_key old c) refl
  where
    by_test : (b : Bool) → finmap.contains_key old c ≡ b → (finmap.contains_key old c ≡ true) ⊎ (false ≡ true)
    by_test true e = inl e
    by_test false e =
        absurd (differ new (after notes s) (after notes t) is c has
        (value_after notes c s ∙ ap (effects notes c) (agree old s t was c e) ∙ sym (value_after notes c t)))

-- ---- the next line

none_at : (l : Line) (lines : List Line) (uses : List Use) (overlay : OverlayMap) → RiseFrom l.0 lines
    → KeepsUses overlay (l ∷ lines) uses → starts_at l.0 uses ≡ false → (c : Cell) → has_use l.0 c uses ≡ true → ⊥
none_at l lines [] overlay rise keeps e c has = has_none l.0 c has
none_at l lines (u ∷ uses) overlay rise keeps e c has =
    by_test (l.0 == u.0) refl
  where
    low : u.0 ≤ l.0
    low = least u uses l.0 c keeps.sorted has

    by_test : (b : Bool) → (l.0 == u.0) ≡ b → ⊥
    by_test true f = true≢false (sym (eq-eqb u.0 l.0 (sym (eqb-true l.0 u.0 f))) ∙ e)
    by_test false f =
        let le = low in
        let more = use_above l.0 lines u.0 u.1 rise
        (use_past l lines u.0 u.1 f (keeps.sound u.0 u.1 (head_has u uses))) in omega (arith, le, more)

module _ (overlay : OverlayMap) (l : Line) (lines : List Line) (uses : List Use) (rise : RiseFrom l.0 lines)
    (keeps : KeepsUses overlay (l ∷ lines) uses) where
  module _ (none : (c : Cell) → has_use l.0 c uses ≡ true → ⊥) where
    -- a line that no entry is at uses no cell with an entry in the overlay
    pub not_used : (c : Cell) → finmap.contains_key overlay c ≡ true → touches l.1.notes c ≡ true → ⊥
    not_used c has touched = none c (keeps.complete c l.0 has (first_at_head l lines c touched))

    pub agree_at : (s t : State) → IsExact overlay s t → AgreeOn l.1.notes s t
    agree_at s t exact c touched = by_test (finmap.contains_key overlay c) refl
      where
        by_test : (b : Bool) → finmap.contains_key overlay c ≡ b → value c s ≡ value c t
        by_test true e = absurd (not_used c e touched)
        by_test false e = agree overlay s t exact c e

    -- the uses are those of the lines after it
    pub keeps_past : KeepsUses overlay lines uses
    keeps_past = record {
      complete = complete;
      sound = sound;
      first = keeps.first;
      sorted = keeps.sorted;
    }
      where
        complete : (c : Cell) (n : ℕ) → finmap.contains_key overlay c ≡ true → first_use c lines ≡ Some n
            → has_use n c uses ≡ true
        complete c n has first = by_test (touches l.1.notes c) refl
          where
            by_test : (b : Bool) → touches l.1.notes c ≡ b → has_use n c uses ≡ true
            by_test true e = absurd (not_used c has e)
            by_test false e = keeps.complete c n has (first_past l lines c e ∙ first)

        sound : (n : ℕ) (c : Cell) → has_use n c uses ≡ true → is_use n c lines ≡ true
        sound n c has = by_test (l.0 == n) refl
          where
            by_test : (b : Bool) → (l.0 == n) ≡ b → is_use n c lines ≡ true
            by_test true e = absurd (none c (subst (λ k. has_use k c uses ≡ true) (sym (eqb-true l.0 n e)) has))
            by_test false e = use_past l lines n c e (keeps.sound n c has)

  -- a line that an entry in the overlay is at is met
  pub met_at : (c : Cell) → has_use l.0 c uses ≡ true → finmap.contains_key overlay c ≡ true → (s t : State)
      → IsExact overlay s t → Met l.1.notes s t
  met_at c has key s t exact = (c, use_at_head l lines c rise (keeps.sound l.0 c has), differ overlay s t exact c key)

  pub met_by_start : (s t : State) → IsExact overlay s t
      → MatchBool (starts_at l.0 uses) (Met l.1.notes s t) (AgreeOn l.1.notes s t)
  met_by_start s t exact = by_test (starts_at l.0 uses) refl
    where
      met : (us : List Use) → us ≡ uses → starts_at l.0 us ≡ true → Met l.1.notes s t
      met [] same e = absurd (true≢false (sym e))
      met (u ∷ us) same e =
          let at : u.0 ≡ l.0 = eqb-true u.0 l.0 e in
          let has = subst (λ k. has_use k u.1 (u ∷ us) ≡ true) at (head_has u us) in
          met_at u.1 (subst (λ vs. has_use l.0 u.1 vs ≡ true) same has)
          (subst (IsFirstIn overlay) (sym same) keeps.first) s t exact

      by_test : (b : Bool) → starts_at l.0 uses ≡ b → MatchBool b (Met l.1.notes s t) (AgreeOn l.1.notes s t)
      by_test true e = met uses refl e
      by_test false e = agree_at (none_at l lines uses overlay rise keeps e) s t exact

-- ---- one line more

first_in : (after : ℕ) (overlay : OverlayMap) (uses : List Use) → is_first_over after overlay uses ≡ true
    → IsFirstIn overlay uses
first_in after overlay [] h = tt
first_in after overlay (u ∷ uses) h = both_true (nat_lt after u.0) _ h

above_first : (after : ℕ) (overlay : OverlayMap) (uses : List Use) (n : ℕ) (c : Cell)
    → is_first_over after overlay uses ≡ true → AreSorted uses → has_use n c uses ≡ true → after < n
above_first after overlay [] n c h sorted has = absurd (has_none n c has)
above_first after overlay (u ∷ uses) n c h sorted has =
    let low = ltb-true after u.0 (first_true (nat_lt after u.0) _ h) in
    let le = least u uses n c sorted has in omega (arith, low, le)

-- the uses of lines above a number, without entries that aren't
keeps_pruned : (after : ℕ) (overlay : OverlayMap) (lines : List Line) (old new : List Use) → RiseFrom after lines
    → ((c : Cell) (n : ℕ) → finmap.contains_key overlay c ≡ true → first_use c lines ≡ Some n
    → has_use n c old ≡ true)
    → ((n : ℕ) (c : Cell) → after < n → has_use n c old ≡ true → is_use n c lines ≡ true)
    → AreSorted old → Prunes after overlay old new → KeepsUses overlay lines new
keeps_pruned after overlay lines old new rise complete sound sorted pruned = record {
  complete = λ c n key first.
      pruned.kept n c (use_above after lines n c rise (first_is_use c lines n first)) key (complete c n key first);
  sound = λ n c has.
      sound n c (above_first after overlay new n c pruned.first (pruned.sorted sorted) has) (pruned.only n c has);
  first = first_in after overlay new pruned.first;
  sorted = pruned.sorted sorted;
}

module _ (lines : List Line) (k : ℕ) (l : Line) (overlay : OverlayMap) (uses mid new : List Use)
    (rise : RiseFrom 0 lines) (next : slice_get lines k ≡ Some l) (keeps : KeepsUses overlay (drop k lines) uses)
    (adds : AddsUses l.0 lines uses mid) where
  rest_rise : RiseFrom l.0 (drop (suc k) lines)
  rest_rise = rise_after 0 lines k l rise next

  rest_is : drop k lines ≡ l ∷ drop (suc k) lines
  rest_is = from_line lines k l next

  keeps_here : KeepsUses overlay (l ∷ drop (suc k) lines) uses
  keeps_here = subst (λ ls. KeepsUses overlay ls uses) rest_is keeps

  -- an entry that was added is at a line after this one
  added : (n : ℕ) (c : Cell) → next_use l.0 c lines ≡ Some n → is_use n c (drop (suc k) lines) ≡ true
  added n c h = first_is_use c (drop (suc k) lines) n (sym (next_is_first 0 lines k l c rise next) ∙ h)

  -- if the line isn't settled
  pub keeps_unsettled : RiseFrom 0 (drop k lines) → Prunes 0 overlay mid new → KeepsUses overlay (drop k lines) new
  keeps_unsettled here pruned =
      keeps_pruned 0 overlay (drop k lines) mid new here
      (λ c n key first. adds.kept n c (keeps.complete c n key first))
      (λ n c more has. by_source n c (adds.only n c has)) (adds.sorted keeps.sorted) pruned
    where
      by_source : (n : ℕ) (c : Cell) → (has_use n c uses ≡ true) ⊎ (next_use l.0 c lines ≡ Some n)
          → is_use n c (drop k lines) ≡ true
      by_source n c (inl h) = keeps.sound n c h
      by_source n c (inr h) =
          subst (λ ls. is_use n c ls ≡ true) (sym rest_is) (later_use l (drop (suc k) lines) n c (added n c h))

  -- if it is
  pub keeps_settled : (after : OverlayMap) (changed : Cell → Bool)
      → ((c : Cell) → finmap.contains_key after c ≡ true
      → (finmap.contains_key overlay c ≡ true) ⊎ (changed c ≡ true))
      → ((c : Cell) → has_use l.0 c uses ≡ true → finmap.contains_key overlay c ≡ true → HasNext l.0 lines c mid)
      → ((c : Cell) → changed c ≡ true → HasNext l.0 lines c mid)
      → Prunes l.0 after mid new → KeepsUses after (drop (suc k) lines) new
  keeps_settled after changed entry used written pruned =
      keeps_pruned l.0 after (drop (suc k) lines) mid new rest_rise
      (λ c n key first. complete c n (next_is_first 0 lines k l c rise next ∙ first) first (entry c key))
      (λ n c more has. by_source n c more (adds.only n c has)) (adds.sorted keeps.sorted) pruned
    where
      complete : (c : Cell) (n : ℕ) → next_use l.0 c lines ≡ Some n → first_use c (drop (suc k) lines) ≡ Some n
          → (finmap.contains_key overlay c ≡ true) ⊎ (changed c ≡ true) → has_use n c mid ≡ true
      complete c n at first (inr h) = written c h n at
      complete c n at first (inl key) = by_test (touches l.1.notes c) refl
        where
          by_test : (b : Bool) → touches l.1.notes c ≡ b → has_use n c mid ≡ true
          by_test true e =
              used c (keeps_here.complete c l.0 key (first_at_head l (drop (suc k) lines) c e)) key n at
          by_test false e =
              adds.kept n c (keeps_here.complete c n key (first_past l (drop (suc k) lines) c e ∙ first))

      by_source : (n : ℕ) (c : Cell) → l.0 < n → (has_use n c uses ≡ true) ⊎ (next_use l.0 c lines ≡ Some n)
          → is_use n c (drop (suc k) lines) ≡ true
      by_source n c more (inl h) =
          use_past l (drop (suc k) lines) n c (apart l.0 n more) (keeps_here.sound n c h)
      by_source n c more (inr h) = added n c h
