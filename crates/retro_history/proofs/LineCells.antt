-- What the cells that a line uses, gathered note by note, do to the histories of all cells.
use Rattle.std.proofs.Common.{◌≡◌, ℕ, Bool, true, false, ◌||◌, cond, List, [], ◌∷◌, ◌++◌, Some, T}
use Rattle.std.proofs.Common.{refl, sym, ap, ◌∙◌, subst}
use Rattle.std.specs.Bool.{if◌then◌else◌}
use Rattle.std.specs.Cmp.{eq_by_cmp_equiv}
use Rattle.std.specs.FinMap as map
use Rattle.std.specs.FinMap.Entries.{find, is_sorted, below_all}
use Rattle.std.specs.Option.{unwrap_or}
use Rattle.std.specs.Ordering.{eq_by_cmp, is_eq}
use Rattle.retro_tree.specs.Maps.{update}
use Rattle.retro_tree.specs.CellOrder.{cell_cmp, cell_total, cell_exact}
use Rattle.retro_tree.specs.Path.{parent_of}
use Rattle.retro_tree.specs.Cell.{value}
use Rattle.retro_tree.specs.Change.{cell_of}
use Rattle.retro_tree.specs.Notes.{cell_eq, changes}
use Rattle.retro_tree.specs.declared.ask.Ask.{Ask}
use Rattle.retro_tree.specs.declared.ask.Ask.TheVariants as asks
use Rattle.retro_tree.specs.declared.cell.Cell.{Cell}
use Rattle.retro_tree.specs.declared.cell.Cell.TheVariants as cells
use Rattle.retro_tree.specs.declared.change.Change.{Change}
use Rattle.retro_tree.specs.declared.note.Note.{Note}
use Rattle.retro_tree.specs.declared.note.Note.TheVariants.{Asked, Made}
use Rattle.retro_tree.specs.declared.state.State.{State}
use Rattle.retro_tree.proofs.Small.{less, tied, both_fst, both_snd}
use Rattle.retro_history.specs.inner.CellHistory.{HistoryMap, history_in, history_noted}
use Rattle.retro_history.specs.inner.CellHistory.{history_used, new_history, with_use}
use Rattle.retro_history.specs.inner.LineUse.{UseMap, UseValue, cells_noted, depends, has_changes}
use Rattle.retro_history.specs.inner.LineUse.{no_use, queried_cell}
use Rattle.retro_history.specs.inner.LineUse.{reads_directly, use_at, use_changed, use_noted}
use Rattle.retro_history.specs.inner.LineUse.{use_read, with_query}
use Rattle.retro_history.specs.inner.LineUse.{with_change, with_read}
use Rattle.retro_history.specs.inner.Numbers.{noted}
use Rattle.retro_history.specs.inner.Tracks.{TrackValue, track_by, track_changed, track_noted}
use Rattle.retro_history.specs.declared.cell_history.CellHistory.{CellHistory}

-- a look-up in a map of which one cell is updated
updated : {X : Type 0} (d : Cell → X) (f : X → X) (m : map.FinMap cell_cmp X) (k c : Cell)
    → unwrap_or (map.get (update m k (d k) f) c) (d c)
    ≡ (if cell_eq k c then f (unwrap_or (map.get m c) (d c)) else unwrap_or (map.get m c) (d c))
updated {X = X} d f m k c =
    ap (λ o. unwrap_or o (d c)) (map.get-insert cell_total m k (f (unwrap_or (map.get m k) (d k))) c)
    ∙ ap (λ b. unwrap_or (cond b (Some (f (unwrap_or (map.get m k) (d k)))) (map.get m c)) (d c))
    ((eq_by_cmp_equiv cell_total).symm c k)
    ∙ go (cell_eq k c) refl
  where
    go : (b : Bool) → cell_eq k c ≡ b
        → unwrap_or (cond b (Some (f (unwrap_or (map.get m k) (d k)))) (map.get m c)) (d c)
        ≡ (if b then f (unwrap_or (map.get m c) (d c)) else unwrap_or (map.get m c) (d c))
    go true e = ap (λ x. f (unwrap_or (map.get m x) (d x))) (cell_exact k c (tied _ e))
    go false e = refl

-- ---- how a line uses one cell

use_read_at : (n : ℕ) (k : Cell) (m : UseMap) (c : Cell)
    → use_at n (with_read n k m) c ≡ (if cell_eq k c then use_read (use_at n m c) else use_at n m c)
use_read_at n k m c = updated (λ k. no_use n) use_read m k c

either_read : (a b : Bool) (u : UseValue)
    → (if b then use_read (if a then use_read u else u) else (if a then use_read u else u))
    ≡ (if a || b then use_read u else u)
either_read true true u = refl
either_read true false u = refl
either_read false true u = refl
either_read false false u = refl

use_queried : (n : ℕ) (a : Ask) (m : UseMap) (c : Cell)
    → use_at n (with_query n a m) c ≡ (if depends a c then use_read (use_at n m c) else use_at n m c)
use_queried n (asks.Kind p) m c = use_read_at n (cells.At p) m c
use_queried n (asks.Bytes p) m c = use_read_at n (cells.At p) m c
use_queried n (asks.Names p) m c = use_read_at n (cells.At p) m c
use_queried n (asks.CanWrite p more) m c =
    use_read_at n (cells.At (parent_of p)) (with_read n (cells.At p) m) c
    ∙ ap (λ (u : UseValue). if cell_eq (cells.At (parent_of p)) c then use_read u else u)
    (use_read_at n (cells.At p) m c)
    ∙ either_read (cell_eq (cells.At p) c) (cell_eq (cells.At (parent_of p)) c) (use_at n m c)
use_queried n (asks.User name) m c = use_read_at n (queried_cell (asks.User name)) m c
use_queried n (asks.VarOf sid name) m c = use_read_at n (cells.Var sid name) m c
use_queried n (asks.CwdOf sid) m c = use_read_at n (cells.Cwd sid) m c
use_queried n (asks.StatusOf sid) m c = use_read_at n (cells.Status sid) m c

use_gathered : (n : ℕ) (notes : List Note) (m : UseMap) (c : Cell)
    → use_at n (cells_noted n notes m) c ≡ use_noted c notes (use_at n m c)
use_gathered n [] m c = refl
use_gathered n (Asked a r ∷ notes) m c =
    use_gathered n notes (with_query n a m) c ∙ ap (use_noted c notes) (use_queried n a m c)
use_gathered n (Made change ∷ notes) m c =
    use_gathered n notes (with_change n change m) c
    ∙ ap (use_noted c notes) (updated (λ k. no_use n) (use_changed change) m (cell_of change) c)

-- ---- what its parts are

number_kept : (c : Cell) (notes : List Note) (u : UseValue) → (use_noted c notes u).number ≡ u.number
number_kept c [] u = refl
number_kept c (Asked a r ∷ notes) u = number_kept c notes _ ∙ go (depends a c)
  where
    go : (b : Bool) → (if b then use_read u else u).number ≡ u.number
    go true = refl
    go false = refl
number_kept c (Made change ∷ notes) u = number_kept c notes _ ∙ go (cell_eq (cell_of change) c)
  where
    go : (b : Bool) → (if b then use_changed change u else u).number ≡ u.number
    go true = refl
    go false = refl

or_more : (a b c : Bool) → ((a || b) || c) ≡ (a || (b || c))
or_more true b c = refl
or_more false b c = refl

reads_are : (c : Cell) (notes : List Note) (u : UseValue)
    → (use_noted c notes u).reads ≡ (u.reads || reads_directly notes c)
reads_are c [] u = go u.reads
  where
    go : (b : Bool) → b ≡ (b || false)
    go true = refl
    go false = refl
reads_are c (Asked a r ∷ notes) u =
    reads_are c notes _ ∙ ap (λ b. b || reads_directly notes c) (go (depends a c) u.reads refl)
    ∙ or_more u.reads (depends a c) (reads_directly notes c)
  where
    go : (b d : Bool) → u.reads ≡ d → (if b then use_read u else u).reads ≡ (d || b)
    go true true e = refl
    go true false e = refl
    go false true e = e
    go false false e = e
reads_are c (Made change ∷ notes) u =
    reads_are c notes _ ∙ ap (λ b. b || reads_directly notes c) (go (cell_eq (cell_of change) c))
  where
    go : (b : Bool) → (if b then use_changed change u else u).reads ≡ u.reads
    go true = refl
    go false = refl

one_more : (change : Change) (made : List Change) → has_changes (made ++ change ∷ []) ≡ true
one_more change [] = refl
one_more change (first ∷ made) = refl

writes_are : (c : Cell) (notes : List Note) (u : UseValue)
    → has_changes (use_noted c notes u).changes ≡ (has_changes u.changes || changes notes c)
writes_are c [] u = go (has_changes u.changes)
  where
    go : (b : Bool) → b ≡ (b || false)
    go true = refl
    go false = refl
writes_are c (Asked a r ∷ notes) u =
    writes_are c notes _ ∙ ap (λ b. b || changes notes c) (go (depends a c))
  where
    go : (b : Bool) → has_changes (if b then use_read u else u).changes ≡ has_changes u.changes
    go true = refl
    go false = refl
writes_are c (Made change ∷ notes) u =
    writes_are c notes _
    ∙ ap (λ b. b || changes notes c) (go (cell_eq (cell_of change) c) (has_changes u.changes) refl)
    ∙ or_more (has_changes u.changes) (cell_eq (cell_of change) c) (changes notes c)
  where
    go : (b d : Bool) → has_changes u.changes ≡ d
        → has_changes (if b then use_changed change u else u).changes ≡ (d || b)
    go true true e = one_more change u.changes
    go true false e = one_more change u.changes
    go false true e = e
    go false false e = e

track_by_more : (n : ℕ) (made : List Change) (change : Change) (t : TrackValue)
    → track_by n (made ++ change ∷ []) t ≡ track_changed n change (track_by n made t)
track_by_more n [] change t = refl
track_by_more n (first ∷ made) change t = track_by_more n made change (track_changed n first t)

track_is : (c : Cell) (n : ℕ) (notes : List Note) (u : UseValue) (t : TrackValue)
    → track_by n (use_noted c notes u).changes t ≡ track_noted c n notes (track_by n u.changes t)
track_is c n [] u t = refl
track_is c n (Asked a r ∷ notes) u t =
    track_is c n notes _ t ∙ ap (track_noted c n notes) (go (depends a c))
  where
    go : (b : Bool) → track_by n (if b then use_read u else u).changes t ≡ track_by n u.changes t
    go true = refl
    go false = refl
track_is c n (Made change ∷ notes) u t =
    track_is c n notes _ t ∙ ap (track_noted c n notes) (go (cell_eq (cell_of change) c))
  where
    go : (b : Bool) → track_by n (if b then use_changed change u else u).changes t
        ≡ (if b then track_changed n change (track_by n u.changes t) else track_by n u.changes t)
    go true = track_by_more n u.changes change t
    go false = refl

history_is : (c : Cell) (n : ℕ) (notes : List Note) (u : UseValue) (h : CellHistory) → u ≡ use_noted c notes (no_use n)
    → history_used u h ≡ history_noted c n notes h
history_is c n notes u h is =
    ap (λ v. history_used v h) is
    ∙ (λ i. record {
      track = track_by (number_kept c notes (no_use n) i) (use_noted c notes (no_use n)).changes h.track;
      uses = record {
        written = noted (writes_are c notes (no_use n) i) (number_kept c notes (no_use n) i) h.uses.written;
        read = noted (reads_are c notes (no_use n) i) (number_kept c notes (no_use n) i) h.uses.read;
      };
    })
    ∙ ap (λ t. record {
      track = t;
      uses = record {
        written = noted (changes notes c) n h.uses.written;
        read = noted (reads_directly notes c) n h.uses.read;
      };
    }) (track_is c n notes (no_use n) h.track)

-- ---- the cells of a line, one by one

-- the history of a cell after the uses of some cells, of which only those of the cell itself count
abbrev pub used_by : Cell → List (Cell × UseValue) → CellHistory → CellHistory
used_by c [] h = h
used_by c (e ∷ es) h = used_by c es (if cell_eq e.0 c then history_used e.1 h else h)

pub use_added : (c k : Cell) (first : State) (u : UseValue) (m : HistoryMap)
    → history_in c first (with_use k first u m)
    ≡ (if cell_eq k c then history_used u (history_in c first m) else history_in c first m)
use_added c k first u m = updated (λ k. new_history (value k first)) (history_used u) m k c

unused : (c : Cell) (es : List (Cell × UseValue)) (h : CellHistory) → T (below_all cell_cmp c es) → used_by c es h ≡ h
unused c [] h below = refl
unused c (e ∷ es) h below =
    ap (λ b. used_by c es (if b then history_used e.1 h else h))
    ((eq_by_cmp_equiv cell_total).symm e.0 c ∙ ap is_eq (less _ (both_fst _ _ below)))
    ∙ unused c es h (both_snd _ _ below)

used_found : (c : Cell) (n : ℕ) (es : List (Cell × UseValue)) (h : CellHistory) → T (is_sorted cell_cmp es)
    → used_by c es h ≡ history_used (unwrap_or (find cell_cmp c es) (no_use n)) h
used_found c n [] h sorted = refl
used_found c n (e ∷ es) h sorted = go (cell_eq e.0 c) refl (used_found c n es h (both_snd _ _ sorted))
  where
    here : (b : Bool) → cell_eq e.0 c ≡ b → eq_by_cmp cell_cmp c e.0 ≡ b
    here b is = (eq_by_cmp_equiv cell_total).symm c e.0 ∙ is

    go : (b : Bool) → cell_eq e.0 c ≡ b
        → used_by c es h ≡ history_used (unwrap_or (find cell_cmp c es) (no_use n)) h
        → used_by c es (if b then history_used e.1 h else h)
        ≡ history_used (unwrap_or (cond (eq_by_cmp cell_cmp c e.0) (Some e.1) (find cell_cmp c es)) (no_use n)) h
    go true is later =
        unused c es (history_used e.1 h)
        (subst (λ d. T (below_all cell_cmp d es)) (cell_exact e.0 c (tied _ is)) (both_fst _ _ sorted))
        ∙ ap (λ b. history_used (unwrap_or (cond b (Some e.1) (find cell_cmp c es)) (no_use n)) h) (sym (here true is))
    go false is later =
        later
        ∙ ap (λ b. history_used (unwrap_or (cond b (Some e.1) (find cell_cmp c es)) (no_use n)) h) (sym (here false is))

-- all uses of a line together
pub line_used : (c : Cell) (n : ℕ) (notes : List Note) (m : UseMap) (h : CellHistory)
    → m ≡ cells_noted n notes map.empty → used_by c (map.entries m) h ≡ history_noted c n notes h
line_used c n notes m h is =
    used_found c n (map.entries m) h (map.entries_sorted m)
    ∙ ap (λ o. history_used (unwrap_or o (no_use n)) h) (sym (map.get-entries m c))
    ∙ ap (λ x. history_used (use_at n x c) h) is
    ∙ history_is c n notes (use_at n (cells_noted n notes map.empty) c) h
    (use_gathered n notes map.empty c
    ∙ ap (λ o. use_noted c notes (unwrap_or o (no_use n))) (map.get-empty cell_cmp c))
