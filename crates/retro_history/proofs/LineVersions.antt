-- The notes of a line make one version of each cell that they change.
use Rattle.std.proofs.Common.{◌≡◌, ℕ, Bool, true, false, ◌&&◌, ◌||◌, ◌==◌, ◌+◌, List, [], ◌∷◌, ◌++◌, Option, Some, None}
use Rattle.std.proofs.Common.{nat_lt, refl, ap, ◌∙◌, if◌then◌else◌}
use Rattle.std.specs.Option.{is_some, option_map}
use Rattle.std.proofs.lemmas.Bool.{eq-eqb}
use Rattle.retro_tree.specs.Change.{cell_of, value_grown, written}
use Rattle.retro_tree.specs.Notes.{cell_eq, changes, effects}
use Rattle.retro_tree.specs.declared.cell.Cell.{Cell}
use Rattle.retro_tree.specs.declared.value.Value.{Value}
use Rattle.retro_tree.specs.declared.change.Change.{Change}
use Rattle.retro_tree.specs.declared.change.Change.TheVariants.{Put, Grow, SetVar, SetCwd, SetStatus}
use Rattle.retro_tree.specs.declared.note.Note.{Note}
use Rattle.retro_tree.specs.declared.note.Note.TheVariants.{Asked, Made}
use Rattle.retro_history.specs.Versions.{growth_in, growth_limit, with_growth}
use Rattle.retro_history.specs.inner.Tracks.{TrackValue, VersionValue, whole_version, next_version}
use Rattle.retro_history.specs.inner.Tracks.{version_of_line}
use Rattle.retro_history.specs.inner.Tracks.{version_grown, version_changed, track_changed}
use Rattle.retro_history.specs.inner.Tracks.{track_noted, version_made}

-- the version of line n, after the rest of its notes: whole if they change the cell in another way
abbrev settled : Option (List ℕ) → ℕ → ℕ → ℕ → Value → VersionValue
settled None n checkpoint growths v = whole_version n v
settled (Some bytes) n checkpoint growths v =
    record { number = n; checkpoint = checkpoint; growths = growths; value = v }

-- a track whose last version is that of line n
abbrev track_at : List VersionValue → ℕ → ℕ → ℕ → Value → TrackValue
track_at earlier n checkpoint growths v = record {
  earlier = earlier;
  last = record { number = n; checkpoint = checkpoint; growths = growths; value = v };
}

settled_mapped : (f : List ℕ → List ℕ) (o : Option (List ℕ)) (n k g : ℕ) (v : Value)
    → settled o n k g v ≡ settled (option_map f o) n k g v
settled_mapped f None n k g v = refl
settled_mapped f (Some bytes) n k g v = refl

settled_whole : (o : Option (List ℕ)) (n : ℕ) (v : Value) → settled o n n 0 v ≡ whole_version n v
settled_whole None n v = refl
settled_whole (Some bytes) n v = refl

-- a change by the line that made the last version
changed_again : (earlier : List VersionValue) (n k g : ℕ) (v : Value) (change : Change)
    → track_changed n change (track_at earlier n k g v)
    ≡ record {
      earlier = earlier;
      last = version_changed n change (record { number = n; checkpoint = k; growths = g; value = v });
    }
changed_again earlier n k g v change =
    ap (λ (b : Bool). record {
      earlier = if b then earlier else earlier ++ record { number = n; checkpoint = k; growths = g; value = v } ∷ [];
      last = version_changed n change (record { number = n; checkpoint = k; growths = g; value = v });
    }) (eq-eqb n n refl)

grown_again : (n k g : ℕ) (v : Value) (bytes : List ℕ)
    → version_grown bytes (version_of_line n (record { number = n; checkpoint = k; growths = g; value = v }))
    ≡ record { number = n; checkpoint = k; growths = g; value = value_grown bytes v }
grown_again n k g v bytes =
    ap (λ (b : Bool). version_grown bytes (if b then record { number = n; checkpoint = k; growths = g; value = v }
    else next_version n (record { number = n; checkpoint = k; growths = g; value = v }))) (eq-eqb n n refl)

-- the rest of the notes of the line that made the last version
module _ (c : Cell) (n : ℕ) (earlier : List VersionValue) where
  abbrev InLine : List Note → Type 0
  InLine notes = (k g : ℕ) (v : Value) → track_noted c n notes (track_at earlier n k g v)
      ≡ record { earlier = earlier; last = settled (growth_in notes c) n k g (effects notes c v) }

  -- a growth by the line
  grow_in_line : (notes : List Note) → InLine notes → (bytes : List ℕ) (k g : ℕ) (v : Value)
      → track_noted c n notes (record {
        earlier = earlier;
        last = version_grown bytes
            (version_of_line n (record { number = n; checkpoint = k; growths = g; value = v }));
      })
      ≡ record {
        earlier = earlier;
        last = settled (option_map (λ rest. bytes ++ rest) (growth_in notes c)) n k g
            (effects notes c (value_grown bytes v));
      }
  grow_in_line notes rest bytes k g v =
      ap (λ (l : VersionValue). track_noted c n notes (record { earlier = earlier; last = l }))
      (grown_again n k g v bytes)
      ∙ rest k g (value_grown bytes v)
      ∙ ap (λ (l : VersionValue). record { earlier = earlier; last = l })
      (settled_mapped (λ rest. bytes ++ rest) (growth_in notes c) n k g (effects notes c (value_grown bytes v)))

  -- another change by the line
  put_in_line : (notes : List Note) → InLine notes → (w : Value)
      → track_noted c n notes (record { earlier = earlier; last = whole_version n w })
      ≡ record { earlier = earlier; last = settled None n n 0 (effects notes c w) }
  put_in_line notes rest w =
      rest n 0 w
      ∙ ap (λ (l : VersionValue). record { earlier = earlier; last = l })
      (settled_whole (growth_in notes c) n (effects notes c w))

  change_in_line : (change : Change) (notes : List Note) → InLine notes → (k g : ℕ) (v : Value)
      → track_noted c n notes (record {
        earlier = earlier;
        last = version_changed n change (record { number = n; checkpoint = k; growths = g; value = v });
      })
      ≡ record {
        earlier = earlier;
        last = settled (with_growth change (growth_in notes c)) n k g (effects notes c (written change v));
      }
  change_in_line (Grow p bytes) notes rest k g v = grow_in_line notes rest bytes k g v
  change_in_line (Put p node) notes rest k g v = put_in_line notes rest (written (Put p node) v)
  change_in_line (SetVar sid name text) notes rest k g v = put_in_line notes rest (written (SetVar sid name text) v)
  change_in_line (SetCwd sid p) notes rest k g v = put_in_line notes rest (written (SetCwd sid p) v)
  change_in_line (SetStatus sid status) notes rest k g v =
      put_in_line notes rest (written (SetStatus sid status) v)

  in_line : (notes : List Note) → InLine notes
  in_line [] k g v = refl
  in_line (Asked a r ∷ notes) k g v = in_line notes k g v
  in_line (Made change ∷ notes) k g v = go (cell_eq (cell_of change) c) (in_line notes)
    where
      go : (b : Bool) → InLine notes
          → track_noted c n notes
          (if b then track_changed n change (track_at earlier n k g v) else track_at earlier n k g v)
          ≡ record {
            earlier = earlier;
            last = settled (if b then with_growth change (growth_in notes c) else growth_in notes c) n k g
                (effects notes c (if b then written change v else v));
          }
      go true rest = ap (track_noted c n notes) (changed_again earlier n k g v change)
          ∙ change_in_line change notes rest k g v
      go false rest = rest k g v

-- ---- the first change by a line
first_growth : (o : Option (List ℕ)) (f : List ℕ → List ℕ) (b : Bool) (n : ℕ) (v : VersionValue) (w : Value)
    → settled o n (if b then v.checkpoint else n) (if b then v.growths + 1 else 0) w
    ≡ (if is_some (option_map f o) && b
    then record { number = n; checkpoint = v.checkpoint; growths = v.growths + 1; value = w }
    else whole_version n w)
first_growth None f true n v w = refl
first_growth None f false n v w = refl
first_growth (Some bytes) f true n v w = refl
first_growth (Some bytes) f false n v w = refl

-- the track after a line that made none of the versions so far
abbrev pub track_of_line : Cell → ℕ → List Note → TrackValue → TrackValue
track_of_line c n notes t = record { earlier = t.earlier ++ t.last ∷ []; last = version_made c n notes t.last }

module _ (c : Cell) (n : ℕ) (t : TrackValue) (apart : (t.last.number == n) ≡ false) where
  -- the same for notes that begin with a change, by whether it is of the cell
  abbrev begun : Bool → Change → List Note → TrackValue
  begun b change notes =
      let w = effects notes c (if b then written change t.last.value else t.last.value) in
      record {
        earlier = t.earlier ++ t.last ∷ [];
        last = if is_some (if b then with_growth change (growth_in notes c) else growth_in notes c)
            && nat_lt t.last.growths growth_limit
            then record {
              number = n;
              checkpoint = t.last.checkpoint;
              growths = t.last.growths + 1;
              value = w;
            }
            else whole_version n w;
      }

  abbrev pushed : VersionValue → TrackValue
  pushed last = record { earlier = t.earlier ++ t.last ∷ []; last = last }

  first_grow : (bytes : List ℕ) (notes : List Note)
      → track_noted c n notes (pushed (version_grown bytes (version_of_line n t.last)))
      ≡ pushed (if is_some (option_map (λ rest. bytes ++ rest) (growth_in notes c))
      && nat_lt t.last.growths growth_limit
      then record {
        number = n;
        checkpoint = t.last.checkpoint;
        growths = t.last.growths + 1;
        value = effects notes c (value_grown bytes t.last.value);
      }
      else whole_version n (effects notes c (value_grown bytes t.last.value)))
  first_grow bytes notes =
      let b = nat_lt t.last.growths growth_limit in
      ap (λ (same : Bool). track_noted c n notes
      (pushed (version_grown bytes (if same then t.last else next_version n t.last)))) apart
      ∙ in_line c n (t.earlier ++ t.last ∷ []) notes (if b then t.last.checkpoint else n)
      (if b then t.last.growths + 1 else 0) (value_grown bytes t.last.value)
      ∙ ap pushed
      (first_growth (growth_in notes c) (λ rest. bytes ++ rest) b n t.last
      (effects notes c (value_grown bytes t.last.value)))

  first_put : (w : Value) (notes : List Note) → track_noted c n notes (pushed (whole_version n w))
      ≡ pushed (whole_version n (effects notes c w))
  first_put w notes = put_in_line c n (t.earlier ++ t.last ∷ []) notes (in_line c n (t.earlier ++ t.last ∷ []) notes) w

  first_change : (change : Change) (notes : List Note)
      → track_noted c n notes (pushed (version_changed n change t.last)) ≡ begun true change notes
  first_change (Grow p bytes) notes = first_grow bytes notes
  first_change (Put p node) notes = first_put (written (Put p node) t.last.value) notes
  first_change (SetVar sid name text) notes = first_put (written (SetVar sid name text) t.last.value) notes
  first_change (SetCwd sid p) notes = first_put (written (SetCwd sid p) t.last.value) notes
  first_change (SetStatus sid status) notes = first_put (written (SetStatus sid status) t.last.value) notes

  -- a line adds one version if it changes the cell, and else none
  pub line_noted : (notes : List Note) → track_noted c n notes t
      ≡ (if changes notes c then track_of_line c n notes t else t)
  line_noted [] = refl
  line_noted (Asked a r ∷ notes) = line_noted notes
  line_noted (Made change ∷ notes) = go (cell_eq (cell_of change) c) (line_noted notes)
    where
      go : (b : Bool)
          → track_noted c n notes t ≡ (if changes notes c then track_of_line c n notes t else t)
          → track_noted c n notes (if b then track_changed n change t else t)
          ≡ (if b || changes notes c then begun b change notes else t)
      go true rest =
          ap (λ (same : Bool). track_noted c n notes (record {
            earlier = if same then t.earlier else t.earlier ++ t.last ∷ [];
            last = version_changed n change t.last;
          })) apart
          ∙ first_change change notes
      go false rest = rest
