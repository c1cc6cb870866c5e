-- Sessions that are added row by row.
use Rattle.std.proofs.Common.{◌≡◌, ◌∙◌, ℕ, Bool, true, false, List, [], ◌∷◌, ◌++◌, None}
use Rattle.std.proofs.Common.{Result, Ok, Err, refl, sym, ap, subst, append_assoc, append-nil}
use Rattle.std.specs.Prelude.{IfOk}
use Rattle.std.specs.List.{list_any}
use Rattle.std.specs.Ordering.{eq_by_cmp, nat_cmp}
use Rattle.std.specs.Cmp.{nat_cmp_total}
use Rattle.std.specs.FinMap.{find, from_entries, from_entries_push, nat_cmp-IsAntisymmetric}
use Rattle.std.specs.FinMap.Entries.{is_some-find}
use Rattle.std.proofs.lemmas.Bool.{false≢true}
use Rattle.std.proofs.lemmas.List.{map-append}
use Rattle.retro_tree.specs.State.{put_session}
use Rattle.retro_tree.specs.Tree.{Tree}
use Rattle.retro_tree.specs.declared.session.Session.{Session}
use Rattle.retro_tree.specs.declared.state.State.{State}
use Rattle.retro_json.specs.declared.fault.Refusal.{Refusal}
use Rattle.retro_json.specs.Keyed.{are_distinct, keys_of}
use Rattle.retro_json.specs.SessionsPart.{entry_of, sessions_of_rows}
use Rattle.retro_json.specs.ReadsAs.{seen}
use Rattle.retro_json.specs.Steps.{◌>>=◌}
use Rattle.retro_json.specs.Worst.{both, every, with_item}
use Rattle.retro_json.proofs.Keyed.{differ_twice, none_of}
use Rattle.retro_json.proofs.Worst.{every_push}

abbrev pub NumberedRow : Type 0
NumberedRow = ℕ × Result Session Refusal

abbrev pub Rows : Type 0
Rows = List NumberedRow

-- ---- the numbers of rows and of their sessions

before_keys : (sid : ℕ) (rows : Rows) (one : Result Session Refusal) (rest : Result (List (ℕ × Session)) Refusal)
    → IfOk rest (λ es. keys_of es ≡ keys_of rows)
    → IfOk (both (entry_of (sid, one)) rest >>= λ p. Ok (p.0 ∷ p.1)) (λ es. keys_of es ≡ sid ∷ keys_of rows)
before_keys sid rows (Ok s) (Ok es) h = ap (λ ks. sid ∷ ks) h
before_keys sid rows (Ok s) (Err e) h = tt
before_keys sid rows (Err e) (Ok es) h = tt
before_keys sid rows (Err e) (Err f) h = tt

keys_read : (rows : Rows) → IfOk (every entry_of rows) (λ es. keys_of es ≡ keys_of rows)
unfolding every
keys_read [] = refl
keys_read (r ∷ rows) = before_keys r.0 rows r.1 (every entry_of rows) (keys_read rows)

-- ---- one more session

abbrev pub with_tree : Tree → Result (List (ℕ × Session)) Refusal → Result State Refusal
with_tree tree read = do
  entries ← read
  Ok (record { tree = tree; sessions = from_entries entries })

added : (tree : Tree) (sid : ℕ) (read : Result (List (ℕ × Session)) Refusal) (one : Result Session Refusal)
    → IfOk read (λ es. find nat_cmp sid es ≡ None)
    → with_tree tree (with_item read (entry_of (sid, one)))
    ≡ seen (λ p. put_session sid p.1 p.0) (both (with_tree tree read) one)
added tree sid (Ok es) (Ok s) h =
    ap (λ m. Ok (record { tree = tree; sessions = m }))
    (from_entries_push nat_cmp_total nat_cmp-IsAntisymmetric es sid s h)
added tree sid (Ok es) (Err e) h = refl
added tree sid (Err e) (Ok s) h = refl
added tree sid (Err e) (Err f) h = refl

-- ---- a loop that takes rows from a list

pub record IsAdded (tree : Tree) (all rest : Rows) (whole : Result State Refusal) : Type 0 where
  pub done : Rows
  pub parts : done ++ rest ≡ all
  pub is : whole ≡ with_tree tree (every entry_of done)

is_new : (done later : Rows) (r : NumberedRow) → are_distinct nat_cmp (keys_of (done ++ r ∷ later)) ≡ true
    → (b : Bool) → list_any (eq_by_cmp nat_cmp r.0) (keys_of done) ≡ b → b ≡ false
is_new done later r distinct false is = refl
is_new done later r distinct true is =
    absurd (false≢true (sym (differ_twice nat_cmp_total (keys_of done) r.0 (keys_of later) is)
    ∙ ap (are_distinct nat_cmp) (sym (map-append (λ (e : ℕ × Result Session Refusal). e.0) done (r ∷ later)))
    ∙ distinct))

absent : (sid : ℕ) (done : Rows) (read : Result (List (ℕ × Session)) Refusal)
    → list_any (eq_by_cmp nat_cmp sid) (keys_of done) ≡ false → IfOk read (λ es. keys_of es ≡ keys_of done)
    → IfOk read (λ es. find nat_cmp sid es ≡ None)
absent sid done (Ok es) h keys =
    none_of (find nat_cmp sid es)
    (is_some-find nat_cmp sid es ∙ ap (list_any (eq_by_cmp nat_cmp sid)) keys ∙ h)
absent sid done (Err e) h keys = tt

pub adding_goes_on : (tree : Tree) (all rest later : Rows) (whole new : Result State Refusal)
    (r : ℕ × Result Session Refusal)
    → are_distinct nat_cmp (keys_of all) ≡ true → rest ≡ r ∷ later
    → new ≡ seen (λ p. put_session r.0 p.1 p.0) (both whole r.1)
    → IsAdded tree all rest whole → IsAdded tree all later new
adding_goes_on tree all rest later whole new r distinct is put so_far =
    let done = so_far.done in
    let split : done ++ r ∷ later ≡ all = ap (λ rs. done ++ rs) (sym is) ∙ so_far.parts in
    let fresh = is_new done later r (ap (λ rs. are_distinct nat_cmp (keys_of rs)) split ∙ distinct) _ refl in
    let read = every entry_of done in
    record {
      done = done ++ r ∷ [];
      parts = append_assoc done (r ∷ []) later ∙ split;
      is =
          put ∙ ap (λ w. seen (λ p. put_session r.0 p.1 p.0) (both w r.1)) so_far.is
          ∙ sym (added tree r.0 read r.1 (absent r.0 done read fresh (keys_read done)))
          ∙ ap (with_tree tree) (sym (every_push entry_of done r));
    }

sessions_with : (tree : Tree) (read : Result (List (ℕ × Session)) Refusal)
    → seen (λ (s : State). s.sessions) (with_tree tree read) ≡ (read >>= λ es. Ok (from_entries es))
sessions_with tree (Ok es) = refl
sessions_with tree (Err e) = refl

tree_with : (tree : Tree) (read : Result (List (ℕ × Session)) Refusal)
    → IfOk (with_tree tree read) (λ (s : State). s.tree ≡ tree)
tree_with tree (Ok es) = refl
tree_with tree (Err e) = tt

pub adding_ends : (tree : Tree) (all : Rows) (whole : Result State Refusal) → IsAdded tree all [] whole
    → seen (λ (s : State). s.sessions) whole ≡ sessions_of_rows all
unfolding sessions_of_rows
adding_ends tree all whole so_far =
    ap (seen (λ (s : State). s.sessions)) so_far.is
    ∙ ap (λ rows. seen (λ (s : State). s.sessions) (with_tree tree (every entry_of rows)))
    (sym (append-nil so_far.done) ∙ so_far.parts)
    ∙ sessions_with tree (every entry_of all)

pub tree_stays : (tree : Tree) (all rest : Rows) (whole : Result State Refusal) → IsAdded tree all rest whole
    → IfOk whole (λ s. s.tree ≡ tree)
tree_stays tree all rest whole so_far =
    subst (λ w. IfOk w (λ (s : State). s.tree ≡ tree)) (sym so_far.is) (tree_with tree (every entry_of so_far.done))
