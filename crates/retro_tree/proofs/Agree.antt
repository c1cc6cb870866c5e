-- The cells on which the answers of a state depend.
use Rattle.std.proofs.Common.{◌≡◌, ℕ, Bool, true, false, cond, List, [], ◌∷◌, map, Option, Some, None, refl, sym, ap}
use Rattle.std.proofs.Common.{◌∙◌, nat_eq}
use Rattle.std.specs.List.{filter_map, cons_option}
use Rattle.std.specs.Option.{unwrap_or, is_some}
use Rattle.std.specs.FinMap as map
use Rattle.std.specs.FinMap.{get-entries, entries, entries_sorted, same_map, contains_key}
use Rattle.std.specs.FinMap.Entries.{find, where_key, is_sorted-where_key, find-where_key, same_entries}
use Rattle.std.specs.declared.cmp.Ordering.TheVariants.{Equal}
use Rattle.std.proofs.lemmas.Bool.{true≢false, false≢true}
use Rattle.std.specs.Cmp.{nat_cmp_total, nat_eq_equiv}
use Rattle.std.specs.FinMap.{nat_cmp-IsAntisymmetric}
use Rattle.std.specs.Cmp.Lexicographic.{nat_list_eq_equiv}
use Rattle.retro_tree.specs.Order.{path_cmp, path_eq, path_total, path_exact, path_equiv, text_eq, text_total}
use Rattle.retro_tree.specs.Order.{text_exact}
use Rattle.retro_tree.specs.Path.{PathValue, parent_of, child_name, is_child, passwd}
use Rattle.retro_tree.specs.Node.{node_of, kind_of, permit_at}
use Rattle.retro_tree.specs.Tree.{Tree, node_in}
use Rattle.retro_tree.specs.Session.{default_session, session_in}
use Rattle.retro_tree.specs.User.{user_in}
use Rattle.retro_tree.specs.Cell.{value}
use Rattle.retro_tree.specs.Ask.{names_in, listing, answer, supports}
use Rattle.retro_tree.specs.declared.session.Session.{Session}
use Rattle.retro_tree.specs.declared.entry.Entry.{Entry}
use Rattle.retro_tree.specs.declared.entry.Entry.TheVariants.{Dir as DirEntry, File as FileEntry}
use Rattle.retro_tree.specs.declared.node.Node.{Node}
use Rattle.retro_tree.specs.declared.node.Node.TheVariants.{Missing, Dir, File}
use Rattle.retro_tree.specs.declared.cell.Cell.{Cell}
use Rattle.retro_tree.specs.declared.cell.Cell.TheVariants as cells
use Rattle.retro_tree.specs.declared.value.Value.{Value}
use Rattle.retro_tree.specs.declared.value.Value.TheVariants as values
use Rattle.retro_tree.specs.declared.ask.Ask.{Ask}
use Rattle.retro_tree.specs.declared.ask.Ask.TheVariants as asks
use Rattle.retro_tree.specs.declared.answer.Answer.TheVariants as answers
use Rattle.retro_tree.specs.declared.state.State.{State}
use Rattle.retro_tree.proofs.Small.{and_true, or_first, or_last}

-- the parts of a cell's value
abbrev node_held : Value → Node
node_held (values.Node node) = node
node_held (values.Cwd p) = Missing
node_held (values.Text t) = Missing
node_held (values.Status n) = Missing

abbrev cwd_held : Value → PathValue
cwd_held (values.Node node) = []
cwd_held (values.Cwd p) = p
cwd_held (values.Text t) = []
cwd_held (values.Status n) = []

abbrev text_held : Value → Option (List ℕ)
text_held (values.Node node) = None
text_held (values.Cwd p) = None
text_held (values.Text t) = t
text_held (values.Status n) = None

abbrev status_held : Value → ℕ
status_held (values.Node node) = 0
status_held (values.Cwd p) = 0
status_held (values.Text t) = 0
status_held (values.Status n) = n

abbrev entry_at : Node → Option Entry
entry_at Missing = None
entry_at Dir = Some DirEntry
entry_at (File bytes) = Some (FileEntry bytes)

entry_at_node : (o : Option Entry) → entry_at (node_of o) ≡ o
entry_at_node None = refl
entry_at_node (Some DirEntry) = refl
entry_at_node (Some (FileEntry bytes)) = refl

pub same_get : (m n : Tree) (q : PathValue) → node_in q m ≡ node_in q n → map.get m q ≡ map.get n q
unfolding node_in
same_get m n q e = sym (entry_at_node (map.get m q)) ∙ ap entry_at e ∙ entry_at_node (map.get n q)

-- the entries that give no name may go
names_kept : {X : Type 0} (f : PathValue → Option (List ℕ)) (es : List (PathValue × X))
    → filter_map f (map (λ e. e.0) (where_key path_cmp (λ q. is_some (f q)) es)) ≡ filter_map f (map (λ e. e.0) es)
names_kept f [] = refl
names_kept {X} f (e ∷ es) =
    elim (f e.0) as (λ o. f e.0 ≡ o
    → filter_map f
    (map (λ e. e.0) (cond (is_some o) (e ∷ where_key path_cmp (λ q. is_some (f q)) es)
    (where_key path_cmp (λ q. is_some (f q)) es))) ≡ cons_option o (filter_map f (map (λ e. e.0) es))) [
      | None ↦ λ is. names_kept f es
      | Some name ↦ λ is. λ i. cons_option (is i) (names_kept f es i)
    ] refl

pub names_agree : (p : PathValue) (m n : Tree)
    → ((q : PathValue) → is_child p q ≡ true → node_in q m ≡ node_in q n) → names_in p m ≡ names_in p n
unfolding names_in
names_agree p m n h =
    sym (names_kept (child_name p) (entries m))
    ∙ ap (λ es. filter_map (child_name p) (map (λ e. e.0) es)) same
    ∙ names_kept (child_name p) (entries n)
  where
    alike : (q x : PathValue) → path_cmp q x ≡ Equal → is_child p x ≡ is_child p q
    alike q x e = ap (is_child p) (sym (path_exact q x e))

    found : (q : PathValue) (b : Bool) → is_child p q ≡ b → cond b (find path_cmp q (entries m)) None
        ≡ cond b (find path_cmp q (entries n)) None
    found q true e = sym (get-entries m q) ∙ same_get m n q (h q e) ∙ get-entries n q
    found q false e = refl

    same : where_key path_cmp (is_child p) (entries m) ≡ where_key path_cmp (is_child p) (entries n)
    same = same_entries path_cmp path_total path_exact _ _
        (is_sorted-where_key path_cmp (is_child p) (entries m) (entries_sorted m))
        (is_sorted-where_key path_cmp (is_child p) (entries n) (entries_sorted n))
        (λ q. find-where_key path_cmp (is_child p) q (alike q) (entries m) ∙ found q (is_child p q) refl
        ∙ sym (find-where_key path_cmp (is_child p) q (alike q) (entries n)))

-- states that agree on the cells of an ask give the same answer
pub agreeing : (ask : Ask) (s t : State) → ((c : Cell) → supports ask c ≡ true → value c s ≡ value c t)
    → answer ask s ≡ answer ask t
unfolding value answer supports
agreeing (asks.Kind p) s t h = ap (λ v. answers.Kind (kind_of (node_held v))) (h (cells.At p) (path_equiv.refl p))
agreeing (asks.Bytes p) s t h = ap (λ v. answers.Bytes (node_held v)) (h (cells.At p) (path_equiv.refl p))
agreeing (asks.Names p) s t h =
    let here = ap node_held (h (cells.At p) (or_first (path_eq p p) (is_child p p) (path_equiv.refl p))) in
    let names = names_agree p s.tree t.tree
    (λ q e. ap node_held (h (cells.At q) (or_last (path_eq p q) (is_child p q) e))) in
    λ i. answers.Names (listing (here i) (names i))
agreeing (asks.CanWrite p n) s t h =
    let here = ap node_held (h (cells.At p) (or_first (path_eq p p) _ (path_equiv.refl p))) in
    let above = ap node_held
    (h (cells.At (parent_of p)) (or_last (path_eq p (parent_of p)) _ (path_equiv.refl (parent_of p)))) in
    λ i. answers.CanWrite (permit_at (here i) (above i) n)
agreeing (asks.User name) s t h =
    ap (λ v. answers.User (user_in name (node_held v))) (h (cells.At passwd) (path_equiv.refl passwd))
agreeing (asks.VarOf sid name) s t h =
    ap (λ v. answers.Var (text_held v))
    (h (cells.Var sid name) (and_true (nat_eq sid sid) (text_eq name name) (nat_eq_equiv.refl sid)
    (nat_list_eq_equiv.refl name)))
agreeing (asks.CwdOf sid) s t h = ap (λ v. answers.Cwd (cwd_held v)) (h (cells.Cwd sid) (nat_eq_equiv.refl sid))
agreeing (asks.StatusOf sid) s t h =
    ap (λ v. answers.Status (status_held v)) (h (cells.Status sid) (nat_eq_equiv.refl sid))

-- ---- equality of whole states
same_option : {A : Type 0} (o q : Option A) (d : A) → is_some o ≡ is_some q → unwrap_or o d ≡ unwrap_or q d → o ≡ q
same_option None None d e f = refl
same_option None (Some y) d e f = absurd (false≢true e)
same_option (Some x) None d e f = absurd (true≢false e)
same_option (Some x) (Some y) d e f = ap Some f

same_session : (a b : Session) → a.cwd ≡ b.cwd → ((q : List ℕ) → map.get a.vars q ≡ map.get b.vars q)
    → a.status ≡ b.status → a ≡ b
same_session a b cwd vars status =
    let all = same_map text_total text_exact a.vars b.vars vars in
    λ i. record { cwd = cwd i; vars = all i; status = status i }

-- states with the same sessions whose cells hold the same are equal
pub same_state : (s t : State) → ((c : Cell) → value c s ≡ value c t)
    → ((sid : ℕ) → contains_key s.sessions sid ≡ contains_key t.sessions sid) → s ≡ t
unfolding value
same_state s t h there =
    let tree = same_map path_total path_exact s.tree t.tree
    (λ q. same_get s.tree t.tree q (ap node_held (h (cells.At q)))) in
    let sessions = same_map nat_cmp_total nat_cmp-IsAntisymmetric s.sessions t.sessions (λ sid.
    same_option (map.get s.sessions sid) (map.get t.sessions sid) default_session (there sid)
    (same_session (session_in sid s.sessions) (session_in sid t.sessions) (ap cwd_held (h (cells.Cwd sid)))
    (λ q. ap text_held (h (cells.Var sid q))) (ap status_held (h (cells.Status sid))))) in
    λ i. record { tree = tree i; sessions = sessions i }
