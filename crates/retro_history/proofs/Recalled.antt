-- What the histories of a recording's cells tell of the state before a line.
use Rattle.std.proofs.Common.{◌≡◌, ℕ, List, [], ◌∷◌, ◌++◌, Option, Some, None, refl, sym, ap, ◌∙◌, subst, arith, nat_lt}
use Rattle.std.proofs.Common.{Bool, true, false, cond, T}
use Rattle.std.specs.Bool.{if◌then◌else◌}
use Rattle.std.specs.Option.{unwrap_or, is_some, option_map}
use Rattle.std.specs.Ordering.{eq_by_cmp, is_eq}
use Rattle.std.specs.Cmp.{tied_itself}
use Rattle.std.specs.FinMap as finmap
use Rattle.std.specs.FinMap.{get-entries, entries_sorted}
use Rattle.std.specs.FinMap.Entries.{find, is_sorted, below_all}
use Rattle.retro_tree.specs.CellOrder.{cell_cmp, cell_total, cell_exact}
use Rattle.retro_tree.specs.Path.{PathValue}
use Rattle.retro_tree.specs.Node.{is_present}
use Rattle.retro_tree.specs.Tree.{node_in}
use Rattle.retro_tree.specs.Ask.{names_in}
use Rattle.retro_tree.specs.Cell.{value}
use Rattle.retro_tree.specs.inner.Marks.{mark}
use Rattle.retro_tree.specs.Overlay.{OverlayMap, Overlays, combined_value}
use Rattle.retro_tree.specs.Commit.{committed}
use Rattle.retro_tree.specs.declared.node.Node.{Node}
use Rattle.retro_tree.specs.declared.node.Node.TheVariants.{Missing, Dir, File}
use Rattle.retro_tree.specs.declared.cell.Cell.{Cell}
use Rattle.retro_tree.specs.declared.cell.Cell.TheVariants as cells
use Rattle.retro_tree.specs.declared.value.Value.{Value}
use Rattle.retro_tree.specs.declared.value.Value.TheVariants as values
use Rattle.retro_tree.specs.declared.overlay_entry.OverlayEntry.{OverlayEntry}
use Rattle.retro_tree.proofs.Small.{none_some, tied, both_fst, both_snd}
use Rattle.retro_tree.proofs.Children.{child_name_of, same_children}
use Rattle.retro_tree.proofs.Fitting.{fits_overlays}
use Rattle.retro_keep.specs.Recording.{RecordingValue}
use Rattle.retro_keep.specs.Recorded.{recorded_before}
use Rattle.retro_history.specs.Versions.{checkpoints}
use Rattle.retro_history.specs.inner.History.{parts_before, version_parts}
use Rattle.retro_history.specs.inner.CellHistory.{AllRise, HistoryMap, new_history, track_in}
use Rattle.retro_history.specs.inner.IsHistory.{IsTracked}
use Rattle.retro_history.specs.inner.Tracks.{VersionValue, whole_version, new_track}
use Rattle.retro_history.specs.inner.Tracks.{all_versions, version_chain, version_below, last_below}
use Rattle.retro_history.specs.inner.Tracks.{RiseFrom}
use Rattle.retro_history.specs.inner.Tracks.{checkpoint_numbers}
use Rattle.retro_history.specs.declared.cell_history.CellHistory.{CellHistory}
use Rattle.retro_history.specs.inner.TrackMarks.{histories_from, mark_of_value, mark_tracks}
use Rattle.retro_history.proofs.Chains.{Rise, chained, chain_rises, looked_up}
use Rattle.retro_history.proofs.RecordedVersions.{version_at, recorded_value, recorded_checkpoints}
use Rattle.retro_history.proofs.Marking.{entry_by, entry_of, child_marked, marks_fit, no_entry}

module _ (r : RecordingValue) (m : HistoryMap) (kept : IsTracked r m) (rise : Rise 0 r.lines) where
  -- all versions of a cell are its chain
  pub chain_of : (c : Cell) → all_versions (track_in c r.first m)
      ≡ version_chain c r.lines (whole_version 0 (value c r.first))
  unfolding IsTracked
  chain_of c = ap all_versions (kept c) ∙ chained c 0 r.lines (new_track (value c r.first)) (omega arith) rise

  -- their numbers rise
  pub track_rises : (c : Cell) → RiseFrom 0 (all_versions (track_in c r.first m))
  track_rises c = subst (RiseFrom 0) (sym (chain_of c))
      (chain_rises c 0 0 r.lines (whole_version 0 (value c r.first)) (omega arith) (omega arith) rise)

  -- the version of a cell before line n
  pub version_is : (c : Cell) (n : ℕ)
      → unwrap_or (version_below n (track_in c r.first m)) (whole_version 0 (value c r.first)) ≡ version_at c n r
  version_is c n =
      ap (λ vs. unwrap_or (last_below n None vs) (whole_version 0 (value c r.first)))
      (chain_of c)
      ∙ looked_up c n r.lines (whole_version 0 (value c r.first)) refl rise

  -- what a look-up in a track gives
  pub parts_in_track : (c : Cell) (n : ℕ) (h : CellHistory) → finmap.get m c ≡ Some h
      → version_parts (unwrap_or (version_below n h.track) (whole_version 0 (value c r.first))) ≡ parts_before c n r
  parts_in_track c n h here =
      ap (λ (o : Option CellHistory).
      version_parts (unwrap_or (version_below n (unwrap_or o (new_history (value c r.first))).track)
      (whole_version 0 (value c r.first)))) (sym here)
      ∙ ap version_parts (version_is c n)

  -- if it finds one
  pub parts_found : (c : Cell) (n : ℕ) (h : CellHistory) (parts : ℕ × Value) → finmap.get m c ≡ Some h
      → Some parts ≡ option_map version_parts (version_below n h.track) → parts ≡ parts_before c n r
  parts_found c n h parts here is =
      ap (λ (o : Option (ℕ × Value)). unwrap_or o parts) is
      ∙ go (version_below n h.track) is
      ∙ parts_in_track c n h here
    where
      go : (o : Option VersionValue) → Some parts ≡ option_map version_parts o
          → unwrap_or (option_map version_parts o) parts
          ≡ version_parts (unwrap_or o (whole_version 0 (value c r.first)))
      go None e = absurd (none_some parts (sym e))
      go (Some v) e = refl

  -- if it finds none
  pub parts_missing : (c : Cell) (n : ℕ) (h : CellHistory) → finmap.get m c ≡ Some h
      → None ≡ option_map version_parts (version_below n h.track) → (0, value c r.first) ≡ parts_before c n r
  parts_missing c n h here is = go (version_below n h.track) is ∙ parts_in_track c n h here
    where
      go : (o : Option VersionValue) → None ≡ option_map version_parts o
          → (0, value c r.first) ≡ version_parts (unwrap_or o (whole_version 0 (value c r.first)))
      go None e = refl
      go (Some v) e = absurd (none_some (version_parts v) e)

  first_alone : (v : Value) (n : ℕ)
      → unwrap_or (version_below n (new_track v)) (whole_version 0 v) ≡ whole_version 0 v
  first_alone v n = go (nat_lt 0 n)
    where
      go : (b : Bool) → unwrap_or (if b then Some (whole_version 0 v) else None) (whole_version 0 v) ≡ whole_version 0 v
      go true = refl
      go false = refl

  pub parts_without_track : (c : Cell) (n : ℕ) → finmap.get m c ≡ None
      → (0, value c r.first) ≡ parts_before c n r
  parts_without_track c n none =
      ap version_parts (sym (first_alone (value c r.first) n)
      ∙ ap (λ (o : Option CellHistory). unwrap_or (version_below n (unwrap_or o (new_history (value c r.first))).track)
      (whole_version 0 (value c r.first))) (sym none)
      ∙ version_is c n)

  -- the checkpoints
  pub checkpoints_are : (c : Cell) → checkpoint_numbers (all_versions (track_in c r.first m)) ≡ checkpoints c r
  checkpoints_are c = ap checkpoint_numbers (chain_of c) ∙ recorded_checkpoints c r

  -- ---- children
  abbrev present : Value → Bool
  present (values.Node node) = is_present node
  present (values.Cwd p) = true
  present (values.Text t) = true
  present (values.Status n) = true

  there_mark : (node : Node) → is_present (mark node) ≡ is_present node
  there_mark Missing = refl
  there_mark Dir = refl
  there_mark (File bytes) = refl

  mark_present : (v : Value) → is_present (mark_of_value v) ≡ present v
  mark_present (values.Node node) = there_mark node
  mark_present (values.Cwd p) = refl
  mark_present (values.Text t) = refl
  mark_present (values.Status n) = refl

  child_present : (n : ℕ) (v : Value) (o : Option CellHistory)
      → present (combined_value (entry_of n o None) v)
      ≡ present (unwrap_or (version_below n (unwrap_or o (new_history v)).track) (whole_version 0 v)).value
  child_present n v None = ap (λ (w : VersionValue). present w.value) (sym (first_alone v n))
  child_present n v (Some h) = go (version_below n h.track)
    where
      go : (o : Option VersionValue)
          → present (combined_value (entry_by o None) v)
          ≡ present (unwrap_or o (whole_version 0 v)).value
      go None = refl
      go (Some w) = mark_present w.value

  abbrev pub marks_at : PathValue → ℕ → OverlayMap
  marks_at p n = mark_tracks p n (histories_from (cells.At p) m) finmap.empty

  same_presence : (p : PathValue) (n : ℕ) (name : List ℕ)
      → present (value (cells.At (p ++ name ∷ [])) (committed (marks_at p n) r.first))
      ≡ present (value (cells.At (p ++ name ∷ [])) (recorded_before n r))
  same_presence p n name =
      let c = cells.At (p ++ name ∷ []) in
      ap present (fits_overlays (marks_at p n) r.first (marks_fit p n m) c)
      ∙ ap (λ (o : Option OverlayEntry). present (combined_value o (value c r.first)))
      (child_marked p (p ++ name ∷ []) n m (ap is_some (child_name_of p name)))
      ∙ child_present n (value c r.first) (finmap.get m c)
      ∙ ap (λ (w : VersionValue). present w.value) (version_is c n)
      ∙ ap present (recorded_value c n r)

  child_there : (p : PathValue) (n : ℕ) (name : List ℕ)
      → is_present (node_in (p ++ name ∷ []) (committed (marks_at p n) r.first).tree)
      ≡ is_present (node_in (p ++ name ∷ []) (recorded_before n r).tree)
  unfolding value
  child_there p n name = same_presence p n name

  -- the names of the children
  pub names_recalled : (p : PathValue) (n : ℕ)
      → names_in p (committed (marks_at p n) r.first).tree ≡ names_in p (recorded_before n r).tree
  names_recalled p n = same_children p _ _ (child_there p n)

  -- the marks give the committed state
  pub marks_overlay : (p : PathValue) (n : ℕ) → Overlays (marks_at p n) r.first (committed (marks_at p n) r.first)
  marks_overlay p n = fits_overlays (marks_at p n) r.first (marks_fit p n m)

  -- ---- the numbers rise in each track
  in_each : (es : List (Cell × CellHistory)) → T (is_sorted cell_cmp es)
      → ((c : Cell) (t : CellHistory) → find cell_cmp c es ≡ Some t → RiseFrom 0 (all_versions t.track)) → AllRise es
  in_each [] h all = tt
  in_each (e ∷ es) h all = (
    all e.0 e.1 (ap (λ o. cond (is_eq o) (Some e.1) (find cell_cmp e.0 es)) (tied_itself cell_total e.0)),
    in_each es (both_snd _ _ h) (λ c t is. all c t (later c t is)),
  )
    where
      later : (c : Cell) (t : CellHistory) → find cell_cmp c es ≡ Some t → find cell_cmp c (e ∷ es) ≡ Some t
      later c t is = go (eq_by_cmp cell_cmp c e.0) refl
        where
          go : (b : Bool) → eq_by_cmp cell_cmp c e.0 ≡ b → cond b (Some e.1) (find cell_cmp c es) ≡ Some t
          go true s = absurd (none_some t
              (sym (no_entry c es (subst (λ d. T (below_all cell_cmp d es)) (sym (cell_exact c e.0 (tied _ s)))
              (both_fst _ _ h))) ∙ is))
          go false s = is

  pub all_rise : AllRise (finmap.entries m)
  all_rise = in_each (finmap.entries m) (entries_sorted m) (λ c t is.
      subst (λ (o : Option CellHistory). RiseFrom 0 (all_versions (unwrap_or o (new_history (value c r.first))).track))
      (get-entries m c ∙ is) (track_rises c))
