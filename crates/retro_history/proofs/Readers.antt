-- The lines that read a cell: those that read it directly, and those that list its parent.
use Rattle.std.proofs.Common.{◌≡◌, ℕ, Bool, true, false, ◌&&◌, ◌||◌, List, [], ◌∷◌, refl, sym, ap, ◌∙◌}
use Rattle.std.specs.Cmp.{unsigned_ties}
use Rattle.std.specs.Ordering.{is_eq, ordering_then}
use Rattle.std.specs.declared.cmp.Ordering.{Ordering}
use Rattle.std.specs.declared.cmp.Ordering.TheVariants.{Less, Equal, Greater}
use Rattle.std.proofs.lemmas.Bool.{true≢false}
use Rattle.retro_tree.specs.Order.{path_eq, path_exact, path_equiv, path_ties, text_cmp, text_ties}
use Rattle.retro_tree.specs.Path.{PathValue, is_child, parent_of, passwd}
use Rattle.retro_tree.specs.Ask.{supports}
use Rattle.retro_tree.specs.Change.{cell_of}
use Rattle.retro_tree.specs.Notes.{cell_eq, changes, touches}
use Rattle.retro_tree.specs.declared.ask.Ask.{Ask}
use Rattle.retro_tree.specs.declared.ask.Ask.TheVariants as asks
use Rattle.retro_tree.specs.declared.cell.Cell.{Cell}
use Rattle.retro_tree.specs.declared.cell.Cell.TheVariants as cells
use Rattle.retro_tree.specs.declared.note.Note.{Note}
use Rattle.retro_tree.specs.declared.note.Note.TheVariants.{Asked, Made}
use Rattle.retro_tree.proofs.LawLemmas.{child_of_parent, parent_of_child}
use Rattle.retro_tree.proofs.Small.{tied}
use Rattle.retro_history.specs.Index.{Line, is_listing_of, lists, next_use, numbers_of, read_at, reads}
use Rattle.retro_history.specs.inner.IndexSteps.{Indexes, parent_listings}
use Rattle.retro_history.specs.inner.LineUse.{depends, reads_directly}
use Rattle.retro_history.specs.inner.Numbers.{earliest, first_above, union}
use Rattle.retro_history.specs.inner.CellHistory.{uses_at}
use Rattle.retro_history.specs.declared.index.Index.{Index}
use Rattle.retro_history.proofs.Lines.{earliest_assoc, earliest_none, first_of_tests, same_tests, union_of_tests}
use Rattle.retro_history.proofs.Unions.{none_union}

-- ---- tests

or_false : (a : Bool) → a ≡ (a || false)
or_false true = refl
or_false false = refl

or_itself : (a : Bool) → (a || false) ≡ (a || a)
or_itself true = refl
or_itself false = refl

or_together : (a b c d : Bool) → ((a || b) || (c || d)) ≡ ((a || c) || (b || d))
or_together true b c d = refl
or_together false true true d = refl
or_together false true false d = refl
or_together false false c d = refl

or_past : (a b c : Bool) → (a || (b || c)) ≡ (b || (a || c))
or_past true true c = refl
or_past true false c = refl
or_past false b c = refl

or_joined : (a b c : Bool) → (a || (b || c)) ≡ ((a || b) || c)
or_joined true b c = refl
or_joined false b c = refl

then_equal : (a b : Ordering) → (is_eq a && is_eq b) ≡ is_eq (ordering_then a b)
then_equal Less b = refl
then_equal Equal b = refl
then_equal Greater b = refl

-- ---- one query

path_cell : (q p : PathValue) → path_eq q p ≡ cell_eq (cells.At q) (cells.At p)
path_cell q p = path_ties q p

same_path : (q p : PathValue) → path_eq q p ≡ true → q ≡ p
same_path q p e = path_exact q p (tied _ (sym (path_ties q p) ∙ e))

not_own_child : (p : PathValue) → is_child p [] ≡ false
not_own_child [] = refl
not_own_child (name ∷ p) = refl

-- a path that isn't the root is a child of its parent alone
child_by_parent : (q : PathValue) (name : List ℕ) (rest : PathValue)
    → is_child q (name ∷ rest) ≡ path_eq q (parent_of (name ∷ rest))
child_by_parent q name rest = go (is_child q (name ∷ rest)) refl (path_eq q (parent_of (name ∷ rest))) refl
  where
    go : (a : Bool) → is_child q (name ∷ rest) ≡ a → (b : Bool) → path_eq q (parent_of (name ∷ rest)) ≡ b → a ≡ b
    go true e true f = refl
    go true e false f =
        absurd (true≢false (sym (path_equiv.refl q) ∙ ap (path_eq q) (sym (parent_of_child q (name ∷ rest) e)) ∙ f))
    go false e true f =
        absurd (true≢false (sym (child_of_parent name rest)
        ∙ ap (λ p. is_child p (name ∷ rest)) (sym (same_path q (parent_of (name ∷ rest)) f)) ∙ e))
    go false e false f = refl

-- a listing depends on a path's cell if it is of the path or of its parent
listing_reads : (q p : PathValue)
    → (path_eq q p || is_child q p) ≡ (cell_eq (cells.At q) (cells.At p) || path_eq q (parent_of p))
listing_reads q [] =
    ap (λ b. path_eq q [] || b) (not_own_child q) ∙ or_itself (path_eq q [])
    ∙ ap (λ b. b || path_eq q []) (path_cell q [])
listing_reads q (name ∷ rest) =
    ap (λ b. path_eq q (name ∷ rest) || b) (child_by_parent q name rest)
    ∙ ap (λ b. b || path_eq q (parent_of (name ∷ rest))) (path_cell q (name ∷ rest))

supports_path : (a : Ask) (p : PathValue)
    → supports a (cells.At p) ≡ (depends a (cells.At p) || is_listing_of (parent_of p) a)
unfolding supports
supports_path (asks.Kind q) p = path_cell q p ∙ or_false (cell_eq (cells.At q) (cells.At p))
supports_path (asks.Bytes q) p = path_cell q p ∙ or_false (cell_eq (cells.At q) (cells.At p))
supports_path (asks.Names q) p = listing_reads q p
supports_path (asks.CanWrite q more) p =
    (λ i. path_cell q p i || path_cell (parent_of q) p i)
    ∙ or_false (cell_eq (cells.At q) (cells.At p) || cell_eq (cells.At (parent_of q)) (cells.At p))
supports_path (asks.User name) p = path_cell passwd p ∙ or_false (cell_eq (cells.At passwd) (cells.At p))
supports_path (asks.VarOf sid name) p = refl
supports_path (asks.CwdOf sid) p = refl
supports_path (asks.StatusOf sid) p = refl

-- the cells of sessions are read directly alone
abbrev IsOfSession : Cell → Type 0
IsOfSession c = (a : Ask) → supports a c ≡ depends a c

cwd_of_session : (other : ℕ) → IsOfSession (cells.Cwd other)
unfolding supports
cwd_of_session other (asks.Kind q) = refl
cwd_of_session other (asks.Bytes q) = refl
cwd_of_session other (asks.Names q) = refl
cwd_of_session other (asks.CanWrite q more) = refl
cwd_of_session other (asks.User name) = refl
cwd_of_session other (asks.VarOf sid name) = refl
cwd_of_session other (asks.CwdOf sid) = unsigned_ties sid other
cwd_of_session other (asks.StatusOf sid) = refl

var_of_session : (other : ℕ) (variable : List ℕ) → IsOfSession (cells.Var other variable)
unfolding supports
var_of_session other variable (asks.Kind q) = refl
var_of_session other variable (asks.Bytes q) = refl
var_of_session other variable (asks.Names q) = refl
var_of_session other variable (asks.CanWrite q more) = refl
var_of_session other variable (asks.User name) = refl
var_of_session other variable (asks.VarOf sid name) =
    (λ i. unsigned_ties sid other i && text_ties name variable i) ∙ then_equal _ (text_cmp name variable)
var_of_session other variable (asks.CwdOf sid) = refl
var_of_session other variable (asks.StatusOf sid) = refl

status_of_session : (other : ℕ) → IsOfSession (cells.Status other)
unfolding supports
status_of_session other (asks.Kind q) = refl
status_of_session other (asks.Bytes q) = refl
status_of_session other (asks.Names q) = refl
status_of_session other (asks.CanWrite q more) = refl
status_of_session other (asks.User name) = refl
status_of_session other (asks.VarOf sid name) = refl
status_of_session other (asks.CwdOf sid) = refl
status_of_session other (asks.StatusOf sid) = unsigned_ties sid other

-- ---- the notes of a line

reads_path : (notes : List Note) (p : PathValue)
    → (reads_directly notes (cells.At p) || lists notes (parent_of p)) ≡ reads notes (cells.At p)
reads_path [] p = refl
reads_path (Asked a r ∷ notes) p =
    or_together (depends a (cells.At p)) (reads_directly notes (cells.At p)) (is_listing_of (parent_of p) a)
    (lists notes (parent_of p))
    ∙ ap (λ b. b || (reads_directly notes (cells.At p) || lists notes (parent_of p))) (sym (supports_path a p))
    ∙ ap (λ b. supports a (cells.At p) || b) (reads_path notes p)
reads_path (Made change ∷ notes) p = reads_path notes p

reads_of_session : (notes : List Note) (c : Cell) → IsOfSession c → reads_directly notes c ≡ reads notes c
reads_of_session [] c is = refl
reads_of_session (Asked a r ∷ notes) c is =
    ap (λ b. b || reads_directly notes c) (sym (is a)) ∙ ap (λ b. supports a c || b) (reads_of_session notes c is)
reads_of_session (Made change ∷ notes) c is = reads_of_session notes c is

touches_are : (notes : List Note) (c : Cell) → (changes notes c || reads notes c) ≡ touches notes c
touches_are [] c = refl
touches_are (Asked a r ∷ notes) c =
    or_past (changes notes c) (supports a c) (reads notes c) ∙ ap (λ b. supports a c || b) (touches_are notes c)
touches_are (Made change ∷ notes) c =
    sym (or_joined (cell_eq (cell_of change) c) (changes notes c) (reads notes c))
    ∙ ap (λ b. cell_eq (cell_of change) c || b) (touches_are notes c)

-- ---- the lines of an index

readers_of_session : (x : Index) (c : Cell) (lines : List Line) → IsOfSession c → Indexes x lines
    → (uses_at x.cells c).read ≡ read_at c lines
readers_of_session x c lines is h =
    h.read c
    ∙ same_tests (λ l. reads_directly l.1.notes c) (λ l. reads l.1.notes c) lines
    (λ l. reads_of_session l.1.notes c is)

readers_of_path : (p : PathValue) (lines : List Line)
    → numbers_of (λ l. reads_directly l.1.notes (cells.At p) || lists l.1.notes (parent_of p)) lines
    ≡ read_at (cells.At p) lines
readers_of_path p lines = same_tests
    (λ l. reads_directly l.1.notes (cells.At p) || lists l.1.notes (parent_of p))
    (λ l. reads l.1.notes (cells.At p)) lines (λ l. reads_path l.1.notes p)

pub readers_found : (x : Index) (c : Cell) (lines : List Line) → Indexes x lines
    → union (uses_at x.cells c).read (parent_listings c x.listed) ≡ read_at c lines
readers_found x (cells.At p) lines h =
    (λ i. union (h.read (cells.At p) i) (h.listed (parent_of p) i))
    ∙ union_of_tests 0 (λ l. reads_directly l.1.notes (cells.At p)) (λ l. lists l.1.notes (parent_of p)) lines
    h.numbered
    ∙ readers_of_path p lines
readers_found x (cells.Cwd sid) lines h =
    none_union (uses_at x.cells (cells.Cwd sid)).read
    ∙ readers_of_session x (cells.Cwd sid) lines (cwd_of_session sid) h
readers_found x (cells.Var sid name) lines h =
    none_union (uses_at x.cells (cells.Var sid name)).read
    ∙ readers_of_session x (cells.Var sid name) lines (var_of_session sid name) h
readers_found x (cells.Status sid) lines h =
    none_union (uses_at x.cells (cells.Status sid)).read
    ∙ readers_of_session x (cells.Status sid) lines (status_of_session sid) h

-- the first line above a number that reads a cell
next_reader : (after : ℕ) (x : Index) (c : Cell) (lines : List Line) → Indexes x lines
    → earliest (first_above after (uses_at x.cells c).read) (first_above after (parent_listings c x.listed))
    ≡ first_above after (read_at c lines)
next_reader after x (cells.At p) lines h =
    (λ i. earliest (first_above after (h.read (cells.At p) i)) (first_above after (h.listed (parent_of p) i)))
    ∙ first_of_tests 0 after (λ l. reads_directly l.1.notes (cells.At p)) (λ l. lists l.1.notes (parent_of p)) lines
    h.numbered
    ∙ ap (first_above after) (readers_of_path p lines)
next_reader after x (cells.Cwd sid) lines h =
    earliest_none (first_above after (uses_at x.cells (cells.Cwd sid)).read)
    ∙ ap (first_above after) (readers_of_session x (cells.Cwd sid) lines (cwd_of_session sid) h)
next_reader after x (cells.Var sid name) lines h =
    earliest_none (first_above after (uses_at x.cells (cells.Var sid name)).read)
    ∙ ap (first_above after) (readers_of_session x (cells.Var sid name) lines (var_of_session sid name) h)
next_reader after x (cells.Status sid) lines h =
    earliest_none (first_above after (uses_at x.cells (cells.Status sid)).read)
    ∙ ap (first_above after) (readers_of_session x (cells.Status sid) lines (status_of_session sid) h)

-- the first line above a number that reads or writes a cell
pub next_use_found : (after : ℕ) (x : Index) (c : Cell) (lines : List Line) → Indexes x lines
    → earliest (earliest (first_above after (uses_at x.cells c).written) (first_above after (uses_at x.cells c).read))
    (first_above after (parent_listings c x.listed))
    ≡ next_use after c lines
next_use_found after x c lines h =
    earliest_assoc (first_above after (uses_at x.cells c).written) (first_above after (uses_at x.cells c).read)
    (first_above after (parent_listings c x.listed))
    ∙ (λ i. earliest (first_above after (h.written c i)) (next_reader after x c lines h i))
    ∙ first_of_tests 0 after (λ l. changes l.1.notes c) (λ l. reads l.1.notes c) lines h.numbered
    ∙ ap (first_above after) (same_tests (λ l. changes l.1.notes c || reads l.1.notes c)
    (λ l. touches l.1.notes c) lines (λ l. touches_are l.1.notes c))
