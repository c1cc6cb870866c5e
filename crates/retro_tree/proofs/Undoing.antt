-- Undoing of writes.
use Rattle.std.proofs.Common.{◌≡◌, ℕ, Bool, true, false, List, ◌++◌, take, Option, Some, None, refl, sym, ap, subst}
use Rattle.std.proofs.Common.{◌∙◌}
use Rattle.std.specs.Option.{is_some, option_map, unwrap_or}
use Rattle.std.specs.Cmp.{nat_cmp_total}
use Rattle.std.specs.FinMap as map
use Rattle.std.specs.FinMap.{nat_cmp-IsAntisymmetric}
use Rattle.std.proofs.lemmas.Bool.{false≢true}
use Rattle.std.proofs.Math.Seq.{take-append_seam}
use Rattle.retro_tree.specs.Order.{path_total, path_exact, text_total}
use Rattle.retro_tree.specs.Maps.{update}
use Rattle.retro_tree.specs.Path.{PathValue}
use Rattle.retro_tree.specs.Node.{is_present, node_of, grown, kind_of, size_of}
use Rattle.retro_tree.specs.Tree.{Tree, put, node_in}
use Rattle.retro_tree.specs.Session.{default_session, session_in}
use Rattle.retro_tree.specs.State.{put_node, grow_file}
use Rattle.retro_tree.specs.Setting.{with_setting}
use Rattle.retro_tree.specs.inner.Previous.{with_previous, previous_of, previous_var, has_place}
use Rattle.retro_tree.specs.inner.CommitSteps.{undo, can_undo, Undoes, cut_at}
use Rattle.retro_tree.specs.declared.entry.Entry.{Entry}
use Rattle.retro_tree.specs.declared.entry.Entry.TheVariants.{Dir as DirEntry, File as FileEntry}
use Rattle.retro_tree.specs.declared.kind.Kind.{Kind}
use Rattle.retro_tree.specs.declared.kind.Kind.TheVariants as kinds
use Rattle.retro_tree.specs.declared.session.Session.{Session}
use Rattle.retro_tree.specs.declared.setting.Setting.{Setting}
use Rattle.retro_tree.specs.declared.setting.Setting.TheVariants.{Cwd, Var, Status}
use Rattle.retro_tree.specs.declared.previous.Previous.{Previous}
use Rattle.retro_tree.specs.declared.node.Node.{Node}
use Rattle.retro_tree.specs.declared.node.Node.TheVariants.{Missing, Dir, File}
use Rattle.retro_tree.specs.declared.undo.Undo.{Undo}
use Rattle.retro_tree.specs.declared.undo.Undo.TheVariants as undos
use Rattle.retro_tree.specs.declared.state.State.{State}
use Rattle.retro_tree.proofs.Small.{and_true}
use Rattle.retro_tree.proofs.Lookups.{get_inserted, session_updated}
use Rattle.retro_tree.proofs.PreviousSettings.{removed_again, inserted_again, put_back, key_inserted, set_back}

pub entry_undone : (p : PathValue) (entry : Entry) (s : State) (before : Option Entry)
    → before ≡ map.get s.tree p → Undoes (Some (undos.Entry p before)) (record s { tree = map.insert s.tree p entry }) s
entry_undone p entry s None is =
    (refl, ap (λ t. record s { tree = t }) (removed_again path_total path_exact s.tree p entry (sym is)))
entry_undone p entry s (Some old) is = (
  key_inserted path_total path_exact s.tree p entry,
  ap (λ t. record s { tree = t })
      (put_back path_total path_exact s.tree p old entry (sym is)),
)

node_undone : (p : PathValue) (node : Node) (s : State) (before : Option Entry) → is_present node ≡ true
    → before ≡ map.get s.tree p → Undoes (Some (undos.Entry p before)) (record s { tree = put p node s.tree }) s
node_undone p Missing s before there is = absurd (false≢true there)
node_undone p Dir s before there is = entry_undone p _ s before is
node_undone p (File bytes) s before there is = entry_undone p _ s before is

-- likewise with a copy of the path
pub node_written : (p key : PathValue) (node : Node) (s : State) (before : Option Entry) (t : Tree)
    → is_present node ≡ true → key ≡ p → t ≡ put p node s.tree → before ≡ map.get s.tree p
    → Undoes (Some (undos.Entry key before)) (record s { tree = t }) s
node_written p key node s before t there same new is =
    subst (λ (x : PathValue × Tree). Undoes (Some (undos.Entry x.0 before)) (record s { tree = x.1 }) s)
    (λ i. (sym same i, sym new i)) (node_undone p node s before there is)

-- a setting that was made can be restored without memory
placed : (x : Setting) (s : Session) → has_place (previous_of x s) (with_setting x s) ≡ true
placed (Cwd p) s = refl
placed (Status n) s = refl
placed (Var name text) s = go (map.get s.vars name)
  where
    go : (o : Option (List ℕ)) → has_place (previous_var name o) (with_setting (Var name text) s) ≡ true
    go None = refl
    go (Some old) = ap is_some (get_inserted text_total s.vars name text)

abbrev pub undo_of : ℕ → Option Previous → Undo
undo_of sid None = undos.Session sid
undo_of sid (Some before) = undos.Setting sid before

setting_undone : (sid : ℕ) (x : Setting) (s : State) (o : Option Session) → map.get s.sessions sid ≡ o
    → Undoes (Some (undo_of sid (option_map (previous_of x) o)))
    (record s { sessions = update s.sessions sid default_session (with_setting x) }) s
setting_undone sid x s None is = (
  refl,
  ap (λ m. record s { sessions = m })
      (removed_again nat_cmp_total nat_cmp-IsAntisymmetric s.sessions sid _ is),
)
setting_undone sid x s (Some session) is =
    let was : session_in sid s.sessions ≡ session = ap (λ o. unwrap_or o default_session) is in
    let new = update s.sessions sid default_session (with_setting x) in
    let now : session_in sid new ≡ with_setting x session = session_updated s.sessions sid (with_setting x)
    ∙ ap (with_setting x) was in (
      and_true _ _ (key_inserted nat_cmp_total nat_cmp-IsAntisymmetric s.sessions sid _)
          (ap (has_place (previous_of x session)) now ∙ placed x session),
      ap (λ m. record s { sessions = m }) (
          ap (λ t. map.insert new sid (with_previous (previous_of x session) t)) now
          ∙ ap (map.insert new sid) (set_back x session)
          ∙ put_back nat_cmp_total nat_cmp-IsAntisymmetric s.sessions sid session _ is),
    )

pub set_undone : (sid : ℕ) (x : Setting) (s : State) (before : Option Previous)
    → before ≡ option_map (previous_of x) (map.get s.sessions sid)
    → Undoes (Some (undo_of sid before))
    (record s { sessions = update s.sessions sid default_session (with_setting x) }) s
set_undone sid x s before is =
    let all = setting_undone sid x s (map.get s.sessions sid) refl in
    let now : State = record s { sessions = update s.sessions sid default_session (with_setting x) } in
    (ap (λ o. can_undo (undo_of sid o) now) is ∙ all.0, ap (λ o. undo (undo_of sid o) now) is ∙ all.1)

pub new_undone : (sid : ℕ) (x : Setting) (s : State)
    → None ≡ option_map (previous_of x) (map.get s.sessions sid)
    → Undoes (Some (undos.Session sid))
    (record s { sessions = update s.sessions sid default_session (with_setting x) }) s
new_undone sid x s is = set_undone sid x s None is

pub old_undone : (sid : ℕ) (x : Setting) (s : State) (before : Previous)
    → Some before ≡ option_map (previous_of x) (map.get s.sessions sid)
    → Undoes (Some (undos.Setting sid before))
    (record s { sessions = update s.sessions sid default_session (with_setting x) }) s
old_undone sid x s before is = set_undone sid x s (Some before) is

-- ---- growths
abbrev is_missing : Kind → Bool
is_missing kinds.Missing = true
is_missing kinds.Dir = false
is_missing kinds.File = false

abbrev is_dir : Kind → Bool
is_dir kinds.Missing = false
is_dir kinds.Dir = true
is_dir kinds.File = false

abbrev is_file : Kind → Bool
is_file kinds.Missing = false
is_file kinds.Dir = false
is_file kinds.File = true

-- a directory doesn't grow
pub dir_stays : (p : PathValue) (bytes : List ℕ) (s : State) → kind_of (node_in p s.tree) ≡ kinds.Dir
    → grow_file p bytes s ≡ s
unfolding node_in
dir_stays p bytes s is = go (map.get s.tree p) refl is
  where
    go : (o : Option Entry) → map.get s.tree p ≡ o → kind_of (node_of o) ≡ kinds.Dir
        → record s { tree = put p (grown bytes (node_of o)) s.tree } ≡ s
    go None e k = absurd (false≢true (ap is_dir k))
    go (Some DirEntry) e k = ap (λ t. record s { tree = t }) (inserted_again path_total path_exact s.tree p DirEntry e)
    go (Some (FileEntry old)) e k = absurd (false≢true (ap is_dir k))

-- a missing file is made
pub missing_made : (p : PathValue) (bytes : List ℕ) (s : State) → kind_of (node_in p s.tree) ≡ kinds.Missing
    → grow_file p bytes s ≡ put_node p (File bytes) s
missing_made p bytes s is = ap (λ n. put_node p n s) (go (node_in p s.tree) is)
  where
    go : (n : Node) → kind_of n ≡ kinds.Missing → grown bytes n ≡ File bytes
    go Missing e = refl
    go Dir e = absurd (false≢true (ap is_missing e))
    go (File old) e = absurd (false≢true (ap is_missing e))

-- a file is cut to the length that it had
pub growth_undone : (p : PathValue) (bytes : List ℕ) (n : ℕ) (s : State) → kind_of (node_in p s.tree)
    ≡ kinds.File → n ≡ size_of (node_in p s.tree) → undo (undos.Length p n) (grow_file p bytes s) ≡ s
unfolding node_in
growth_undone p bytes n s file is = go (map.get s.tree p) refl file is
  where
    go : (o : Option Entry) → map.get s.tree p ≡ o → kind_of (node_of o) ≡ kinds.File → n ≡ size_of (node_of o)
        → undo (undos.Length p n) (record s { tree = put p (grown bytes (node_of o)) s.tree }) ≡ s
    go None e k size = absurd (false≢true (ap is_file k))
    go (Some DirEntry) e k size = absurd (false≢true (ap is_file k))
    go (Some (FileEntry old)) e k size =
        let new = map.insert s.tree p (FileEntry (old ++ bytes)) in
        ap (λ t. record s { tree = t }) (
        ap (λ o. cut_at p n o new) (get_inserted path_total s.tree p (FileEntry (old ++ bytes)))
        ∙ ap (λ m. map.insert new p (FileEntry (take m (old ++ bytes)))) size
        ∙ ap (λ bs. map.insert new p (FileEntry bs)) (take-append_seam old bytes)
        ∙ put_back path_total path_exact s.tree p (FileEntry old) (FileEntry (old ++ bytes)) e)

pub ruleset growing = (dir_stays, missing_made, growth_undone)

pub ruleset undoing = (new_undone, old_undone)
