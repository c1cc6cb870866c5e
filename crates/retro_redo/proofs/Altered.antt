-- If a kept line changes no path near an altered one, its changes are lawful in the repaired state,
-- as they were in the recorded one.
use Rattle.std.proofs.Common.{◌≡◌, ◌∙◌, ℕ, Bool, true, false, not, ◌&&◌, ◌||◌, List, [], ◌∷◌, ◌++◌, Option, Some, None}
use Rattle.std.proofs.Common.{refl, sym, ap}
use Rattle.std.specs.BTreeMap.{is_at}
use Rattle.std.specs.Bool.{if◌then◌else◌}
use Rattle.std.specs.Cmp.Lexicographic.{nat_list_eq_equiv}
use Rattle.std.specs.List.{cons_option, list_any}
use Rattle.std.specs.Option.{is_some}
use Rattle.std.proofs.lemmas.Bool.{true≢false}
use Rattle.retro_tree.specs.Cell.{value}
use Rattle.retro_tree.specs.Change.{IsLawfulChange, apply, cell_of, has_its_session, may_make, written}
use Rattle.retro_tree.specs.Lawful.{IsLawful, law_at}
use Rattle.retro_tree.specs.Node.{grown, is_dir}
use Rattle.retro_tree.specs.Notes.{AllAllowed, after, cell_eq, changes, effects}
use Rattle.retro_tree.specs.Order.{path_cmp}
use Rattle.retro_tree.specs.Path.{PathValue, below, is_child, only_name, parent_of}
use Rattle.retro_tree.specs.State.{SameSessions}
use Rattle.retro_tree.specs.Tree.{has_child, node_in}
use Rattle.retro_tree.specs.declared.cell.Cell.TheVariants as cells
use Rattle.retro_tree.specs.declared.change.Change.{Change}
use Rattle.retro_tree.specs.declared.change.Change.TheVariants as changes
use Rattle.retro_tree.specs.declared.node.Node.{Node}
use Rattle.retro_tree.specs.declared.node.Node.TheVariants.{Missing}
use Rattle.retro_tree.specs.declared.note.Note.{Note}
use Rattle.retro_tree.specs.declared.note.Note.TheVariants.{Asked, Made}
use Rattle.retro_tree.specs.declared.state.State.{State}
use Rattle.retro_tree.proofs.Allowed.{sound, whole}
use Rattle.retro_tree.proofs.Below.{below_append, no_child_there}
use Rattle.retro_tree.proofs.KeptSessions.{change_keeps_sessions}
use Rattle.retro_tree.proofs.LawLemmas.{nothing_below}
use Rattle.retro_tree.proofs.NoteLaws.{same_cells, value_after, value_applied, value_unchanged}
use Rattle.retro_tree.proofs.Small.{and_true, both_true, first_true, not_true, or_first, or_last}
use Rattle.retro_redo.specs.inner.Altered.{changed_path, changed_paths, has_path, is_near}
use Rattle.retro_redo.proofs.AlteredPaths.{first_none, none_of_both, not_among, path_itself, rest_none}

-- ---- paths apart from altered ones

below_itself : (p : PathValue) → is_some (below p p) ≡ true
below_itself [] = refl
below_itself (x ∷ p) =
    ap (λ b. is_some (if b then below p p else None)) (nat_list_eq_equiv.refl x) ∙ below_itself p

-- a path that isn't near some: neither it nor its parent nor a child is among them
record IsApart (altered : List PathValue) (p : PathValue) : Type 0 where
  here : has_path p altered ≡ false
  parent : has_path (parent_of p) altered ≡ false
  child : (n : List ℕ) → has_path (p ++ n ∷ []) altered ≡ false

apart : (altered : List PathValue) (p : PathValue) → is_near altered p ≡ false → IsApart altered p
apart altered p far =
    let none = rest_none (has_path (parent_of p) altered) _ far in
    record {
      here = not_among (λ q. is_some (below p q)) altered p none (below_itself p);
      parent = first_none (has_path (parent_of p) altered) _ far;
      child = λ n.
          not_among (λ q. is_some (below p q)) altered (p ++ n ∷ []) none (ap is_some (below_append p (n ∷ [])));
    }

-- ---- states that agree where nothing is altered

abbrev pub Agree : List PathValue → State → State → Type 0
Agree altered s t = (p : PathValue) → has_path p altered ≡ false → value (cells.At p) s ≡ value (cells.At p) t

node_same : (altered : List PathValue) (p : PathValue) (s t : State) → Agree altered s t
    → has_path p altered ≡ false → node_in p s.tree ≡ node_in p t.tree
unfolding value
node_same altered p s t agree e = let same = agree p e in cc

pub agree_applied : (altered : List PathValue) (c : Change) (s t : State) → Agree altered s t
    → Agree altered (apply c s) (apply c t)
agree_applied altered c s t agree p e =
    value_applied c (cells.At p) s
    ∙ ap (λ v. if cell_eq (cell_of c) (cells.At p) then written c v else v) (agree p e)
    ∙ sym (value_applied c (cells.At p) t)

pub agree_after : (altered : List PathValue) (notes : List Note) (s t : State) → Agree altered s t
    → Agree altered (after notes s) (after notes t)
agree_after altered notes s t agree p e =
    value_after notes (cells.At p) s ∙ ap (effects notes (cells.At p)) (agree p e)
    ∙ sym (value_after notes (cells.At p) t)

-- notes that don't change a path leave its node
cells_apart : (q p : PathValue) → is_at (path_cmp p) q ≡ false → cell_eq (cells.At q) (cells.At p) ≡ false
cells_apart q p e = by_test (cell_eq (cells.At q) (cells.At p)) refl
  where
    by_test : (b : Bool) → cell_eq (cells.At q) (cells.At p) ≡ b → b ≡ false
    by_test true same =
        let cell : cells.At q ≡ cells.At p = same_cells (cells.At q) (cells.At p) same in
        let path : p ≡ q = cc in
        absurd (true≢false (sym (path_itself p) ∙ ap (is_at (path_cmp p)) path ∙ e))
    by_test false same = refl

unchanged : (notes : List Note) (p : PathValue) → has_path p (changed_paths notes) ≡ false
    → changes notes (cells.At p) ≡ false
unchanged [] p e = refl
unchanged (Asked a r ∷ notes) p e = unchanged notes p e
unchanged (Made (changes.Put q node) ∷ notes) p e =
    none_of_both _ _ (cells_apart q p (first_none (is_at (path_cmp p) q) _ e))
    (unchanged notes p (rest_none (is_at (path_cmp p) q) _ e))
unchanged (Made (changes.Grow q bytes) ∷ notes) p e =
    none_of_both _ _ (cells_apart q p (first_none (is_at (path_cmp p) q) _ e))
    (unchanged notes p (rest_none (is_at (path_cmp p) q) _ e))
unchanged (Made (changes.SetVar sid name text) ∷ notes) p e = unchanged notes p e
unchanged (Made (changes.SetCwd sid q) ∷ notes) p e = unchanged notes p e
unchanged (Made (changes.SetStatus sid n) ∷ notes) p e = unchanged notes p e

pub node_unchanged : (notes : List Note) (p : PathValue) (s : State) → has_path p (changed_paths notes) ≡ false
    → value (cells.At p) (after notes s) ≡ value (cells.At p) s
node_unchanged notes p s e = value_unchanged notes (cells.At p) s (unchanged notes p e)

-- ---- one change

has_session_too : (c : Change) (s t : State) → SameSessions s t → has_its_session c s ≡ true
    → has_its_session c t ≡ true
has_session_too (changes.Put p node) s t same has = refl
has_session_too (changes.Grow p bytes) s t same has = refl
has_session_too (changes.SetVar sid name text) s t same has = sym (same sid) ∙ has
has_session_too (changes.SetCwd sid p) s t same has = sym (same sid) ∙ has
has_session_too (changes.SetStatus sid n) s t same has = sym (same sid) ∙ has

child_of_itself : (p : PathValue) (n : List ℕ) → is_child p (p ++ n ∷ []) ≡ true
child_of_itself p n = ap (λ o. is_some (only_name o)) (below_append p (n ∷ []))

childless_too : (altered : List PathValue) (p : PathValue) (node : Node) (s t : State) → Agree altered s t
    → IsApart altered p → (is_dir node || not (has_child p s.tree)) ≡ true
    → (is_dir node || not (has_child p t.tree)) ≡ true
childless_too altered p node s t agree far may = by_test (is_dir node) refl
  where
    none : is_dir node ≡ false → (n : List ℕ) → node_in (p ++ n ∷ []) t.tree ≡ Missing
    none e n =
        let childless = not_true (has_child p s.tree) (sym (ap (λ b. b || not (has_child p s.tree)) e) ∙ may) in
        sym (node_same altered (p ++ n ∷ []) s t agree (far.child n))
        ∙ nothing_below p (p ++ n ∷ []) s.tree childless (child_of_itself p n)

    by_test : (b : Bool) → is_dir node ≡ b → (is_dir node || not (has_child p t.tree)) ≡ true
    by_test true e = or_first _ _ e
    by_test false e = or_last (is_dir node) _ (ap not (no_child_there t.tree p (none e)))

may_too : (altered : List PathValue) (c : Change) (s t : State) → Agree altered s t
    → list_any (is_near altered) (cons_option (changed_path (Made c)) []) ≡ false → may_make c s ≡ true
    → may_make c t ≡ true
unfolding may_make
may_too altered (changes.Put p node) s t agree far may =
    let at = apart altered p (first_none (is_near altered p) _ far) in
    and_true _ _
    (ap (law_at p node) (sym (node_same altered (parent_of p) s t agree at.parent)) ∙ first_true _ _ may)
    (childless_too altered p node s t agree at
    (both_true (law_at p node (node_in (parent_of p) s.tree)) _ may))
may_too altered (changes.Grow p bytes) s t agree far may =
    let at = apart altered p (first_none (is_near altered p) _ far) in
    let here = node_same altered p s t agree at.here in
    let parent = node_same altered (parent_of p) s t agree at.parent in
    sym (λ i. not (is_dir (here i)) && law_at p (grown bytes (here i)) (parent i)) ∙ may
may_too altered (changes.SetVar sid name text) s t agree far may = may
may_too altered (changes.SetCwd sid p) s t agree far may = may
may_too altered (changes.SetStatus sid n) s t agree far may = may

-- ---- the notes of a kept line

far_first : (f : PathValue → Bool) (o : Option PathValue) (rest : List PathValue)
    → list_any f (cons_option o rest) ≡ false → list_any f (cons_option o []) ≡ false
far_first f None rest e = refl
far_first f (Some p) rest e = none_of_both (f p) _ (first_none (f p) _ e) refl

far_rest : (f : PathValue → Bool) (o : Option PathValue) (rest : List PathValue)
    → list_any f (cons_option o rest) ≡ false → list_any f rest ≡ false
far_rest f None rest e = e
far_rest f (Some p) rest e = rest_none (f p) _ e

pub allowed_too : (altered : List PathValue) (notes : List Note) (s t : State) → Agree altered s t
    → SameSessions s t → IsLawful t → list_any (is_near altered) (changed_paths notes) ≡ false → AllAllowed notes s
    → AllAllowed notes t
allowed_too altered [] s t agree same lawful far allowed = tt
allowed_too altered (Asked a r ∷ notes) s t agree same lawful far allowed =
    allowed_too altered notes s t agree same lawful far allowed
allowed_too altered (Made c ∷ notes) s t agree same lawful far allowed =
    let has = has_session_too c s t same allowed.0.session in
    let may = may_too altered c s t agree
    (far_first (is_near altered) (changed_path (Made c)) (changed_paths notes) far) (whole c s allowed.0) in
    let one : IsLawfulChange c t = sound c t lawful has may in
    let sessions : SameSessions (apply c s) (apply c t) =
    λ k. change_keeps_sessions c s allowed.0.session k ∙ same k ∙ sym (change_keeps_sessions c t has k) in (
      one,
      allowed_too altered notes (apply c s) (apply c t) (agree_applied altered c s t agree) sessions one.after
          (far_rest (is_near altered) (changed_path (Made c)) (changed_paths notes) far) allowed.1,
    )
