-- Lines that a repair keeps without looking at them: those before the next edited number and the
-- next use.
use Rattle.std.proofs.Common.{◌≡◌, ◌∙◌, ◌⊎◌, inl, inr, ℕ, zero, suc, ◌<◌, ◌≤◌, ◌==◌, Bool, true, false}
use Rattle.std.proofs.Common.{nat_lt, cond, List, [], ◌∷◌, drop, length, Option, Some, None, refl, sym, ap, arith}
use Rattle.std.proofs.Common.{subst}
use Rattle.std.specs.List.{AllByRecursion, slice_get}
use Rattle.std.specs.List.Sorted.{IsPartitionPoint}
use Rattle.std.specs.FinMap as finmap
use Rattle.std.specs.Option.{is_some}
use Rattle.std.proofs.lemmas.Bool.{eqb-true, ltb-true, ltb-false}
use Rattle.retro_tree.specs.Exact.{IsExact}
use Rattle.retro_tree.specs.Notes.{after}
use Rattle.retro_tree.specs.Overlay.{OverlayMap}
use Rattle.retro_tree.specs.declared.cell.Cell.{Cell}
use Rattle.retro_tree.specs.declared.state.State.{State}
use Rattle.retro_tree.proofs.ExactOverlays.{unmet_step}
use Rattle.retro_tree.proofs.Small.{some_same}
use Rattle.retro_history.proofs.Lines.{RiseFrom, later}
use Rattle.retro_keep.specs.Edit.{IsNextFrom, sooner}
use Rattle.retro_keep.specs.Recording.{RecordingValue, noted_at}
use Rattle.retro_redo.specs.Editing.{AreLines, EditMap}
use Rattle.retro_difference.specs.NextUses.{KeepsUses}
use Rattle.retro_difference.specs.NextUses.{AreSorted, IsFirstIn, Use, first_number, has_use}
use Rattle.retro_redo.specs.Skipping.{AreUnmet, IsStop}
use Rattle.retro_redo.proofs.EditCases.{none_there}
use Rattle.retro_difference.proofs.Entries.{has_none, head_has, least}
use Rattle.retro_difference.proofs.KeptUses.{agree_at, keeps_past, met_at}
use Rattle.retro_redo.proofs.Positions.{Line, not_none}
use Rattle.retro_difference.proofs.UsedLines.{all_from, from_line, line_from, number_above, past_line, rise_after, rise_from}
use Rattle.retro_difference.proofs.UsedLines.{use_above, use_past}

-- ---- the number of the next stop

-- a number is below the next stop, if there is one
abbrev IsUnder : ℕ → Option ℕ → Type 0
IsUnder n None = Unit {0}
IsUnder n (Some stop) = n < stop

under_both : (n : ℕ) (one two : Option ℕ) → IsUnder n (sooner one two) → IsUnder n one × IsUnder n two
under_both n None two h = (tt, h)
under_both n (Some a) None h = (h, tt)
under_both n (Some a) (Some b) h = by_test (nat_lt a b) refl h
  where
    by_test : (x : Bool) → nat_lt a b ≡ x → n < cond x a b → (n < a) × (n < b)
    by_test true e h = let less = ltb-true a b e in (h, omega (arith, h, less))
    by_test false e h = let le = ltb-false a b e in (omega (arith, h, le), h)

one_of_both : (one two : Option ℕ) (stop : ℕ) → sooner one two ≡ Some stop
    → (one ≡ Some stop) ⊎ (two ≡ Some stop)
one_of_both None two stop h = inr h
one_of_both (Some a) None stop h = inl h
one_of_both (Some a) (Some b) stop h = by_test (nat_lt a b) h
  where
    by_test : (x : Bool) → ◌≡◌ {A = Option ℕ} (Some (cond x a b)) (Some stop)
        → (◌≡◌ {A = Option ℕ} (Some a) (Some stop)) ⊎ (◌≡◌ {A = Option ℕ} (Some b) (Some stop))
    by_test true h = inl h
    by_test false h = inr h

not_edited : (edits : EditMap) (low : ℕ) (one : Option ℕ) (n : ℕ) → IsNextFrom (finmap.contains_key edits) low one
    → low ≤ n → IsUnder n one → finmap.get edits n ≡ None
not_edited edits low None n h le under = none_there (finmap.get edits n) (h n le)
not_edited edits low (Some a) n h le under = none_there (finmap.get edits n) (h.2 n le under)

is_edited : (edits : EditMap) (low : ℕ) (one : Option ℕ) (stop : ℕ) → IsNextFrom (finmap.contains_key edits) low one
    → one ≡ Some stop → finmap.contains_key edits stop ≡ true
is_edited edits low None stop h e = absurd (not_none stop e)
is_edited edits low (Some a) stop h e =
    subst (λ n. finmap.contains_key edits n ≡ true) (some_same a stop e) h.1

no_entry : (uses : List Use) (n : ℕ) (c : Cell) → AreSorted uses → IsUnder n (first_number uses)
    → has_use n c uses ≡ true → ⊥
no_entry [] n c sorted under has = has_none n c has
no_entry (u ∷ uses) n c sorted under has =
    let le = least u uses n c sorted has in omega (arith, under, le)

-- an entry at a number, of a cell in the overlay
abbrev Entry : OverlayMap → List Use → ℕ → Type 0
Entry overlay uses n = (c : Cell) × (has_use n c uses ≡ true) × (finmap.contains_key overlay c ≡ true)

first_entry : (overlay : OverlayMap) (uses : List Use) (stop : ℕ) → IsFirstIn overlay uses
    → first_number uses ≡ Some stop → Entry overlay uses stop
first_entry overlay [] stop first e = absurd (not_none stop e)
first_entry overlay (u ∷ uses) stop first e =
    (u.1, subst (λ n. has_use n u.1 (u ∷ uses) ≡ true) (some_same u.0 stop e) (head_has u uses), first)

-- ---- the lines below it

-- the first n lines are below the next stop, and the one after them isn't
abbrev pub AreUnder : Option ℕ → ℕ → List Line → Type 0
AreUnder stop zero [] = Unit {0}
AreUnder stop zero (l ∷ lines) = ¬ (IsUnder l.0 stop)
AreUnder stop (suc n) [] = ⊥
AreUnder stop (suc n) (l ∷ lines) = IsUnder l.0 stop × AreUnder stop n lines

pub all_under : (lines : List Line) → AreUnder None (length lines) lines
all_under [] = tt
all_under (l ∷ lines) = (tt, all_under lines)

pub some_under : (stop : ℕ) (lines : List Line) (n : ℕ) → n ≤ length lines
    → IsPartitionPoint (λ (l : Line). nat_lt l.0 stop ≡ true) (λ (l : Line). nat_lt l.0 stop ≡ false) lines n
    → AreUnder (Some stop) n lines
some_under stop [] zero le parted = tt
some_under stop (l ∷ lines) zero le parted =
    λ under. let high = ltb-false l.0 stop (parted.1 0 l (omega arith) (omega arith)) in omega (arith, under, high)
some_under stop [] (suc n) le parted = absurd (omega (arith, le))
some_under stop (l ∷ lines) (suc n) le parted = (
  ltb-true l.0 stop (parted.0 0 l (omega arith) (omega arith)),
  some_under stop lines n (omega (arith, le)) (
    λ k d from to. parted.0 (suc k) d (omega (arith, from, to)) (omega (arith, from, to)),
    λ k d from to. parted.1 (suc k) d (omega (arith, from, to)) (omega (arith, from, to)),
  ),
)

module _ (edits : EditMap) (overlay : OverlayMap) (uses : List Use) (low : ℕ) (one : Option ℕ)
    (next : IsNextFrom (finmap.contains_key edits) low one) where
  -- if the next edited number comes first, one of the lines has it
  abbrev HasLine : List Line → Type 0
  HasLine lines = (stop : ℕ) → one ≡ Some stop → is_some (noted_at stop lines) ≡ true

  at_stop : (l : Line) (lines : List Line) (stop : ℕ) → RiseFrom l.0 lines → HasLine (l ∷ lines)
      → KeepsUses overlay (l ∷ lines) uses → stop ≤ l.0
      → (one ≡ Some stop) ⊎ (first_number uses ≡ Some stop) → (s t : State) → IsExact overlay s t
      → IsStop (finmap.get edits) l s t
  at_stop l lines stop rise has keeps high (inl e) s t exact = by_test (l.0 == stop) refl
    where
      by_test : (b : Bool) → (l.0 == stop) ≡ b → IsStop (finmap.get edits) l s t
      by_test true f =
          inl (subst (λ n. finmap.contains_key edits n ≡ true) (sym (eqb-true l.0 stop f))
          (is_edited edits low one stop next e))
      by_test false f =
          let more = number_above l.0 stop lines rise
          (sym (ap (λ b. is_some (cond b (Some l.1) (noted_at stop lines))) f) ∙ has stop e) in
          absurd (omega (arith, more, high))
  at_stop l lines stop rise has keeps high (inr e) s t exact = by_test (l.0 == stop) refl
    where
      entry : Entry overlay uses stop
      entry = first_entry overlay uses stop keeps.first e

      by_test : (b : Bool) → (l.0 == stop) ≡ b → IsStop (finmap.get edits) l s t
      by_test true f =
          inr (met_at overlay l lines uses rise keeps entry.0
          (subst (λ n. has_use n entry.0 uses ≡ true) (sym (eqb-true l.0 stop f)) entry.1) entry.2 s t exact)
      by_test false f =
          let more = use_above l.0 lines stop entry.0 rise
          (use_past l lines stop entry.0 f (keeps.sound stop entry.0 entry.1)) in absurd (omega (arith, more, high))

  pub skipped : (n m : ℕ) (lines : List Line) → RiseFrom m lines → AllByRecursion (λ l. low ≤ l.0) lines
      → HasLine lines → AreUnder (sooner one (first_number uses)) n lines → KeepsUses overlay lines uses
      → ((s t : State) → IsExact overlay s t → AreUnmet (finmap.get edits) n lines s t)
      × KeepsUses overlay (drop n lines) uses
  skipped zero m [] rise from has under keeps = (λ s t exact. tt, keeps)
  skipped zero m (l ∷ lines) rise from has under keeps = (
    λ s t exact. by_stop (sooner one (first_number uses)) refl under s t exact,
    keeps,
  )
    where
      by_stop : (stop : Option ℕ) → sooner one (first_number uses) ≡ stop → ¬ (IsUnder l.0 stop) → (s t : State)
          → IsExact overlay s t → IsStop (finmap.get edits) l s t
      by_stop None e under s t exact = absurd (under tt)
      by_stop (Some stop) e under s t exact =
          at_stop l lines stop (later m l lines rise) has keeps (not_less l.0 stop under)
          (one_of_both one (first_number uses) stop e) s t exact
        where
          not_less : (a b : ℕ) → ¬ (a < b) → b ≤ a
          not_less a b h = omega (arith, h)
  skipped (suc n) m [] rise from has under keeps = absurd under
  skipped (suc n) m (l ∷ lines) rise from has under keeps =
      let both = under_both l.0 one (first_number uses) under.0 in
      let rising = later m l lines rise in
      let none = λ (c : Cell). no_entry uses l.0 c keeps.sorted both.1 in
      let agreed = agree_at overlay l lines uses rising keeps none in
      let rest = skipped n l.0 lines rising from.1 (has_rest both.0) under.1
      (keeps_past overlay l lines uses rising keeps none) in (
        λ s t exact. (
          not_edited edits low one l.0 next from.0 both.0,
          agreed s t exact,
          rest.0 (after l.1.notes s) (after l.1.notes t) (unmet_step overlay s t l.1.notes exact (agreed s t exact)),
        ),
        rest.1,
      )
    where
      has_rest : IsUnder l.0 one → HasLine lines
      has_rest under stop e = past_line stop l lines (subst (IsUnder l.0) e under) (has stop e)

-- from a place on
pub skipped_from : (edits : EditMap) (overlay : OverlayMap) (uses : List Use) (r : RecordingValue) (from : ℕ) (l : Line)
    (one : Option ℕ) (n : ℕ) → RiseFrom 0 r.lines → slice_get r.lines from ≡ Some l → AreLines edits r
    → IsNextFrom (finmap.contains_key edits) l.0 one → AreUnder (sooner one (first_number uses)) n (drop from r.lines)
    → KeepsUses overlay (drop from r.lines) uses
    → ((s t : State) → IsExact overlay s t → AreUnmet (finmap.get edits) n (drop from r.lines) s t)
    × KeepsUses overlay (drop n (drop from r.lines)) uses
skipped_from edits overlay uses r from l one n rise at known next under keeps =
    skipped edits overlay uses l.0 one next n 0 (drop from r.lines) (rise_from 0 r.lines from rise)
    (subst (AllByRecursion (λ (x : Line). l.0 ≤ x.0)) (sym (from_line r.lines from l at))
    (omega arith, all_from l.0 l.0 (drop (suc from) r.lines) (omega arith) (rise_after 0 r.lines from l rise at)))
    (λ stop e.
    line_from 0 stop r.lines from l rise at (at_least one stop next e)
    (known stop (is_edited edits l.0 one stop next e))) under keeps
  where
    at_least : (one : Option ℕ) (stop : ℕ) → IsNextFrom (finmap.contains_key edits) l.0 one → one ≡ Some stop
        → l.0 ≤ stop
    at_least None stop h e = absurd (not_none stop e)
    at_least (Some a) stop h e = subst (λ n. l.0 ≤ n) (some_same a stop e) h.0
