-- The current version before a line is what the rule of versions gives.
use Rattle.std.proofs.Common.{◌≡◌, ℕ, Bool, true, false, ◌&&◌, ◌||◌, ◌+◌, ◌≤◌, List, [], ◌∷◌, ◌++◌, Option, Some, None}
use Rattle.std.proofs.Common.{nat_lt, refl, ap, sym, ◌∙◌, if◌then◌else◌, arith, append-nil}
use Rattle.std.specs.Option.{is_some, option_map, unwrap_or}
use Rattle.std.proofs.lemmas.Bool.Decides.{nat_tests}
use Rattle.retro_tree.specs.Cell.{value}
use Rattle.retro_tree.specs.Change.{cell_of, value_grown, written}
use Rattle.retro_tree.specs.Notes.{after, cell_eq, changes, effects}
use Rattle.retro_tree.specs.declared.cell.Cell.{Cell}
use Rattle.retro_tree.specs.declared.value.Value.{Value}
use Rattle.retro_tree.specs.declared.change.Change.{Change}
use Rattle.retro_tree.specs.declared.change.Change.TheVariants.{Put, Grow, SetVar, SetCwd, SetStatus}
use Rattle.retro_tree.specs.declared.note.Note.{Note}
use Rattle.retro_tree.specs.declared.note.Note.TheVariants.{Asked, Made}
use Rattle.retro_tree.specs.declared.state.State.{State}
use Rattle.retro_tree.specs.declared.overlay_entry.OverlayEntry.TheVariants as entries
use Rattle.retro_tree.proofs.NoteLaws.{value_after, effects_unchanged}
use Rattle.retro_tree.proofs.OverlayChanges.{grown_combined}
use Rattle.retro_tree.proofs.Small.{none_some, some_same}
use Rattle.std.proofs.lemmas.Bool.{true≢false}
use Rattle.retro_keep.specs.Recording.{last_state}
use Rattle.retro_keep.specs.declared.noted.Noted.{Noted}
use Rattle.retro_keep.specs.Recorded.{lines_below}
use Rattle.retro_history.specs.declared.rolled.Rolled.{Rolled}
use Rattle.retro_history.specs.Versions.{Version, whole, growth, growth_limit, growth_in, is_growth, with_growth}
use Rattle.retro_history.specs.Versions.{content_by, versions_by}
use Rattle.retro_history.specs.Versions.{rolled_on, roll}
use Rattle.retro_history.specs.inner.Tracks.{VersionValue, whole_version, version_made}
use Rattle.retro_history.specs.inner.Tracks.{version_after, current}
use Rattle.retro_history.proofs.Chains.{Lines, Rise, above, later, not_below, none_below}

-- ---- the growths of one line

grown_twice : (old bytes : List ℕ) (v : Value) → value_grown (old ++ bytes) v ≡ value_grown bytes (value_grown old v)
grown_twice old bytes v = grown_combined bytes (entries.Growth old) v

no_growth : (notes : List Note) (c : Cell) → changes notes c ≡ false → growth_in notes c ≡ Some []
no_growth [] c h = refl
no_growth (Asked a r ∷ notes) c h = no_growth notes c h
no_growth (Made change ∷ notes) c h = go (cell_eq (cell_of change) c) h (no_growth notes c)
  where
    go : (b : Bool) → (b || changes notes c) ≡ false → (changes notes c ≡ false → growth_in notes c ≡ Some [])
        → (if b then with_growth change (growth_in notes c) else growth_in notes c) ≡ Some []
    go true e rest = absurd (true≢false e)
    go false e rest = rest e

-- notes that only grow a cell append their bytes together
growth_effects : (notes : List Note) (c : Cell) (v : Value) (bytes : List ℕ) → growth_in notes c ≡ Some bytes
    → effects notes c v ≡ (if changes notes c then value_grown bytes v else v)
growth_effects [] c v bytes h = refl
growth_effects (Asked a r ∷ notes) c v bytes h = growth_effects notes c v bytes h
growth_effects (Made change ∷ notes) c v bytes h =
    go (cell_eq (cell_of change) c) h (growth_effects notes c v bytes)
    (λ (old more : List ℕ). growth_effects notes c (value_grown old v) more)
  where
    Rest : Type 0
    Rest = (old more : List ℕ) → growth_in notes c ≡ Some more
        → effects notes c (value_grown old v) ≡ (if changes notes c then value_grown more (value_grown old v)
        else value_grown old v)

    grows : (old : List ℕ) (o : Option (List ℕ)) → growth_in notes c ≡ o → (b : Bool) → changes notes c ≡ b
        → option_map (λ rest. old ++ rest) o ≡ Some bytes → Rest → effects notes c (value_grown old v)
        ≡ value_grown bytes v
    grows old None e b f g rest = absurd (none_some bytes g)
    grows old (Some more) e true f g rest =
        rest old more e
        ∙ ap (λ (b : Bool). if b then value_grown more (value_grown old v) else value_grown old v) f
        ∙ sym (grown_twice old more v) ∙ ap (λ bs. value_grown bs v) (some_same (old ++ more) bytes g)
    grows old (Some more) e false f g rest =
        let nothing : more ≡ [] = some_same more [] (sym e ∙ no_growth notes c f) in
        rest old more e
        ∙ ap (λ (b : Bool). if b then value_grown more (value_grown old v) else value_grown old v) f
        ∙ ap (λ bs. value_grown bs v) (sym (append-nil old) ∙ ap (λ bs. old ++ bs) (sym nothing)
        ∙ some_same (old ++ more) bytes g)

    own : (change : Change) → with_growth change (growth_in notes c) ≡ Some bytes → Rest
        → effects notes c (written change v) ≡ value_grown bytes v
    own (Grow p old) g rest = grows old (growth_in notes c) refl (changes notes c) refl g rest
    own (Put p node) g rest = absurd (none_some bytes g)
    own (SetVar sid name text) g rest = absurd (none_some bytes g)
    own (SetCwd sid p) g rest = absurd (none_some bytes g)
    own (SetStatus sid status) g rest = absurd (none_some bytes g)

    go : (b : Bool) → (if b then with_growth change (growth_in notes c) else growth_in notes c) ≡ Some bytes
        → (growth_in notes c ≡ Some bytes
        → effects notes c v ≡ (if changes notes c then value_grown bytes v else v))
        → Rest
        → effects notes c (if b then written change v else v)
        ≡ (if b || changes notes c then value_grown bytes v else v)
    go true g same rest = own change g rest
    go false g same rest = same g

-- ---- what a line makes of a version
module _ (c : Cell) where
  made_value : (n : ℕ) (notes : List Note) (v : VersionValue) → (version_made c n notes v).value
      ≡ effects notes c v.value
  made_value n notes v = go (is_growth v.growths notes c)
    where
      go : (b : Bool) → (if b then record {
        number = n;
        checkpoint = v.checkpoint;
        growths = v.growths + 1;
        value = effects notes c v.value;
      } else whole_version n (effects notes c v.value)).value ≡ effects notes c v.value
      go true = refl
      go false = refl

  made_growths : (n : ℕ) (notes : List Note) (v : VersionValue) → (version_made c n notes v).growths
      ≡ (if is_growth v.growths notes c then v.growths + 1 else 0)
  made_growths n notes v = go (is_growth v.growths notes c)
    where
      go : (b : Bool) → (if b then record {
        number = n;
        checkpoint = v.checkpoint;
        growths = v.growths + 1;
        value = effects notes c v.value;
      } else whole_version n (effects notes c v.value)).growths ≡ (if b then v.growths + 1 else 0)
      go true = refl
      go false = refl

  value_after_line : (l : ℕ × Noted) (v : VersionValue) → (version_after c l v).value ≡ effects l.1.notes c v.value
  value_after_line l v = go (changes l.1.notes c) refl
    where
      go : (b : Bool) → changes l.1.notes c ≡ b → (if b then version_made c l.0 l.1.notes v else v).value
          ≡ effects l.1.notes c v.value
      go true e = made_value l.0 l.1.notes v
      go false e = sym (effects_unchanged l.1.notes c v.value e)

  -- the current version has the recorded value
  pub current_value : (lines : Lines) (v : VersionValue) (s : State) → v.value ≡ value c s
      → (current c lines v).value ≡ value c (last_state lines s)
  current_value [] v s e = e
  current_value (l ∷ lines) v s e =
      current_value lines (version_after c l v) (after l.1.notes s)
      (value_after_line l v ∙ ap (effects l.1.notes c) e ∙ sym (value_after l.1.notes c s))

  -- the versions from a version on
  abbrev pub versions_from : VersionValue → Lines → List Version
  versions_from v lines = versions_by v.growths v.value lines c

  -- the first line makes a version, or none
  pub versions_split : (l : ℕ × Noted) (lines : Lines) (v : VersionValue) (b : Bool) → changes l.1.notes c ≡ b
      → versions_from v (l ∷ lines)
      ≡ (if b then (l.0, content_by v.growths v.value l.1.notes c)
      ∷ versions_from (version_made c l.0 l.1.notes v) lines else versions_from v lines)
  versions_split l lines v true e =
      ap (λ (b : Bool). (if b then (l.0, content_by v.growths v.value l.1.notes c) ∷ [] else [])
      ++ versions_by (if b then (if is_growth v.growths l.1.notes c then v.growths + 1 else 0) else v.growths)
      (effects l.1.notes c v.value) lines c) e
      ∙ (λ i. (l.0, content_by v.growths v.value l.1.notes c)
      ∷ versions_by (sym (made_growths l.0 l.1.notes v) i) (sym (made_value l.0 l.1.notes v) i) lines c)
  versions_split l lines v false e =
      ap (λ (b : Bool). (if b then (l.0, content_by v.growths v.value l.1.notes c) ∷ [] else [])
      ++ versions_by (if b then (if is_growth v.growths l.1.notes c then v.growths + 1 else 0) else v.growths)
      (effects l.1.notes c v.value) lines c) e
      ∙ ap (λ w. versions_by v.growths w lines c) (effects_unchanged l.1.notes c v.value e)

  -- ---- rolling back
  abbrev pub rolled_of : VersionValue → Rolled
  rolled_of v = record { from = v.checkpoint; value = v.value }

  rolled_made : (l : ℕ × Noted) (v : VersionValue) → changes l.1.notes c ≡ true
      → rolled_on (l.0, content_by v.growths v.value l.1.notes c) (rolled_of v)
      ≡ rolled_of (version_made c l.0 l.1.notes v)
  rolled_made l v e = go (growth_in l.1.notes c) refl (nat_lt v.growths growth_limit)
    where
      go : (o : Option (List ℕ)) → growth_in l.1.notes c ≡ o → (b : Bool)
          → rolled_on (l.0, (if is_some o && b then growth (unwrap_or o []) else whole (effects l.1.notes c v.value)))
          (rolled_of v)
          ≡ rolled_of (if is_some o && b then record {
            number = l.0;
            checkpoint = v.checkpoint;
            growths = v.growths + 1;
            value = effects l.1.notes c v.value;
          } else whole_version l.0 (effects l.1.notes c v.value))
      go None f b = refl
      go (Some bytes) f false = refl
      go (Some bytes) f true =
          ap (λ (x : Value). record { from = v.checkpoint; value = x })
          (sym (growth_effects l.1.notes c v.value bytes f
          ∙ ap (λ (b : Bool). if b then value_grown bytes v.value else v.value) e))

  roll_late : (n low : ℕ) (r : Rolled) (lines : Lines) (v : VersionValue) → n ≤ low → Rise low lines
      → roll n r (versions_from v lines) ≡ r
  roll_late n low r [] v h rise = refl
  roll_late n low r (l ∷ lines) v h rise =
      let up = above low l lines rise in
      ap (roll n r) (versions_split l lines v (changes l.1.notes c) refl)
      ∙ go (changes l.1.notes c) (not_below l.0 n (omega (arith, up)))
      (λ (w : VersionValue). roll_late n l.0 r lines w (omega (arith, up)) (later low l lines rise))
    where
      go : (b : Bool) → nat_lt l.0 n ≡ false → ((w : VersionValue) → roll n r (versions_from w lines) ≡ r)
          → roll n r (if b then (l.0, content_by v.growths v.value l.1.notes c)
          ∷ versions_from (version_made c l.0 l.1.notes v) lines else versions_from v lines) ≡ r
      go true past rest =
          ap (λ (b : Bool). roll n (if b then rolled_on (l.0, content_by v.growths v.value l.1.notes c) r else r)
          (versions_from (version_made c l.0 l.1.notes v) lines)) past
          ∙ rest (version_made c l.0 l.1.notes v)
      go false past rest = rest v

  -- rolling back gives the checkpoint and the value of the current version
  pub rolls : (n low : ℕ) (lines : Lines) (v : VersionValue) → Rise low lines
      → roll n (rolled_of v) (versions_from v lines) ≡ rolled_of (current c (lines_below n lines) v)
  rolls n low [] v rise = refl
  rolls n low (l ∷ lines) v rise =
      let on = later low l lines rise in
      ap (roll n (rolled_of v)) (versions_split l lines v (changes l.1.notes c) refl)
      ∙ by_number (nat_lt l.0 n) refl (λ (w : VersionValue). rolls n l.0 lines w on) on
    where
      Rest : Type 0
      Rest = (w : VersionValue)
          → roll n (rolled_of w) (versions_from w lines) ≡ rolled_of (current c (lines_below n lines) w)

      earlier_line : nat_lt l.0 n ≡ true → Rest → (b : Bool) → changes l.1.notes c ≡ b
          → roll n (rolled_of v) (if b then (l.0, content_by v.growths v.value l.1.notes c)
          ∷ versions_from (version_made c l.0 l.1.notes v) lines else versions_from v lines)
          ≡ rolled_of (current c (lines_below n lines) (if b then version_made c l.0 l.1.notes v else v))
      earlier_line f rest true e =
          ap (λ (b : Bool). roll n (if b then rolled_on (l.0, content_by v.growths v.value l.1.notes c) (rolled_of v)
          else rolled_of v) (versions_from (version_made c l.0 l.1.notes v) lines)) f
          ∙ ap (λ (r : Rolled). roll n r (versions_from (version_made c l.0 l.1.notes v) lines)) (rolled_made l v e)
          ∙ rest (version_made c l.0 l.1.notes v)
      earlier_line f rest false e = rest v

      later_line : nat_lt l.0 n ≡ false → Rise l.0 lines → Rest → (b : Bool)
          → roll n (rolled_of v) (if b then (l.0, content_by v.growths v.value l.1.notes c)
          ∷ versions_from (version_made c l.0 l.1.notes v) lines else versions_from v lines)
          ≡ rolled_of (current c (lines_below n lines) v)
      later_line f on rest true =
          let le : n ≤ l.0 = grind (arith, nat_tests) in
          ap (λ (b : Bool). roll n (if b then rolled_on (l.0, content_by v.growths v.value l.1.notes c) (rolled_of v)
          else rolled_of v) (versions_from (version_made c l.0 l.1.notes v) lines)) f
          ∙ roll_late n l.0 (rolled_of v) lines (version_made c l.0 l.1.notes v) le on
          ∙ sym (ap (λ (x : Lines). rolled_of (current c x v)) (none_below n l.0 lines le on))
      later_line f on rest false = rest v

      by_number : (below : Bool) → nat_lt l.0 n ≡ below → Rest → Rise l.0 lines
          → roll n (rolled_of v) (if changes l.1.notes c then (l.0, content_by v.growths v.value l.1.notes c)
          ∷ versions_from (version_made c l.0 l.1.notes v) lines else versions_from v lines)
          ≡ rolled_of (current c (if below then l ∷ lines_below n lines else lines_below n lines) v)
      by_number true f rest on = earlier_line f rest (changes l.1.notes c) refl
      by_number false f rest on = later_line f on rest (changes l.1.notes c)
