-- The notes of copies and of removals that follow one another.
use Rattle.std.proofs.Common.{◌≡◌, ℕ, false, List, [], ◌∷◌, ◌++◌, Some, None, refl, sym, ap}
use Rattle.std.proofs.Common.{◌∙◌}
use Rattle.std.proofs.Common.{subst, append_assoc}
use Rattle.std.proofs.lemmas.List.{append-nil}
use Rattle.retro_tree.specs.Path.{PathValue}
use Rattle.retro_tree.specs.Node.{is_dir}
use Rattle.retro_tree.specs.Tree.{node_in}
use Rattle.retro_tree.specs.Ask.{listing, names_in}
use Rattle.retro_tree.specs.Lawful.{IsLawful}
use Rattle.retro_tree.specs.declared.state.State.{State}
use Rattle.retro_tree.specs.declared.answer.Answer.TheVariants as answers
use Rattle.retro_tree.specs.declared.ask.Ask.TheVariants as asks
use Rattle.retro_tree.specs.declared.change.Change.TheVariants.{Put}
use Rattle.retro_tree.specs.declared.node.Node.{Node}
use Rattle.retro_tree.specs.declared.node.Node.TheVariants.{Missing, Dir, File}
use Rattle.retro_tree.specs.declared.note.Note.{Note}
use Rattle.retro_tree.specs.declared.note.Note.TheVariants.{Asked, Made}
use Rattle.retro_local.specs.Trace.{Trace, noted, reached, AllHold}
use Rattle.retro_local.specs.Runs.{Always, Computes}
use Rattle.retro_moves.specs.MoveNotes.{child_pairs, CopyNotes, done, leaf, dir, NodeNotes, with_removals}
use Rattle.retro_moves.specs.MoveNotes.{MoveNotes}

pub joined : {js ks : List (PathValue × PathValue)} {ps qs : List PathValue} {a b c : List Note} → CopyNotes js ps a b
    → CopyNotes ks qs b c → CopyNotes (js ++ ks) (ps ++ qs) a c
joined done h = h
joined (leaf node is r) h = leaf node is (joined r h)
joined {qs = qs} (dir {more = more} {paths = paths} names inner r same) h =
    dir names inner (joined r h) (ap (λ x. x ++ qs) same ∙ append_assoc more paths qs)

-- a copied node, after it was asked what it is
pub node_noted : (p q : PathValue) (node : Node) (paths : List PathValue) (old asked new : List Note)
    → asked ≡ Asked (asks.Bytes p) (answers.Bytes node) ∷ old → NodeNotes p q node paths asked new
    → CopyNotes ((p, q) ∷ []) paths old new
node_noted p q Missing paths old asked new is n = rw (n.0, n.1, is) (leaf Missing refl done)
node_noted p q (File bytes) paths old asked new is n = rw (n.0, n.1, is) (leaf (File bytes) refl done)
node_noted p q Dir paths old asked new is n =
    subst (λ x. CopyNotes ((p, q) ∷ []) x old new) (sym n.is)
    (dir n.names (subst (λ x. CopyNotes (child_pairs p q n.names) n.more
    (Made (Put q Dir) ∷ Asked (asks.Names p) (answers.Names (Some n.names)) ∷ x) new) is n.copies) done
    (sym (append-nil n.more)))

pub leaf_noted : (p q : PathValue) (node : Node) (paths : List PathValue) (old new : Trace) → is_dir node ≡ false
    → paths ≡ p ∷ [] → new ≡ noted old (Made (Put q node)) → NodeNotes p q node paths old.notes new.notes
leaf_noted p q Missing paths old new no_dir is made = (is, ap (λ t. t.notes) made)
leaf_noted p q Dir paths old new no_dir is made = cc
leaf_noted p q (File bytes) paths old new no_dir is made = (is, ap (λ t. t.notes) made)

-- what was copied of the children of a directory, and what is left
pub record Trail (p q : PathValue) (names left : List (List ℕ)) (paths : List PathValue)
    (start now : Trace) : Type 0 where
  pub copied : List PathValue
  pub is : paths ≡ p ∷ copied
  pub rest : (final : List Note) (more : List PathValue) → CopyNotes (child_pairs p q left) more now.notes final
      → CopyNotes (child_pairs p q names) (copied ++ more) start.notes final

pub trail_start : (p q : PathValue) (names : List (List ℕ)) (paths : List PathValue) (start : Trace) → paths ≡ p ∷ []
    → Trail p q names names paths start start
trail_start p q names paths start is = record { copied = []; is = is; rest = λ final more h. h }

pub trail_step : (p q : PathValue) (names left : List (List ℕ)) (n : List ℕ) (paths ps all : List PathValue)
    (node : Node)
    (start mid asked now : Trace) → Trail p q names (n ∷ left) paths start mid
    → asked ≡ noted mid (Asked (asks.Bytes (p ++ n ∷ [])) (answers.Bytes node))
    → NodeNotes (p ++ n ∷ []) (q ++ n ∷ []) node ps asked.notes now.notes → all ≡ paths ++ ps
    → Trail p q names left all start now
trail_step p q names left n paths ps all node start mid asked now t is copy same = record {
  copied = t.copied ++ ps;
  is = same ∙ ap (λ x. x ++ ps) t.is;
  rest = λ final more h.
      subst (λ x. CopyNotes (child_pairs p q names) x start.notes final) (sym (append_assoc t.copied ps more))
      (t.rest final (ps ++ more) (joined (node_noted (p ++ n ∷ []) (q ++ n ∷ []) node ps mid.notes asked.notes now.notes
      (ap (λ x. x.notes) is) copy) h));
}

pub trail_end : (p q : PathValue) (names : List (List ℕ)) (paths : List PathValue) (old a start now : Trace)
    → a ≡ noted old (Asked (asks.Names p) (answers.Names (Some names))) → start ≡ noted a (Made (Put q Dir))
    → Trail p q names [] paths start now → NodeNotes p q Dir paths old.notes now.notes
trail_end p q names paths old a start now asked made t = record {
  names = names;
  more = t.copied;
  is = t.is;
  copies = subst (λ (x : Trace). CopyNotes (child_pairs p q names) t.copied x.notes now.notes)
      (made ∙ ap (λ x. noted x (Made (Put q Dir))) asked)
      (subst (λ x. CopyNotes (child_pairs p q names) x start.notes now.notes) (append-nil t.copied)
      (t.rest now.notes [] done));
}

-- ---- old paths, from the last to the first
pub record Removed (all left : List PathValue) (start now : Trace) : Type 0 where
  pub removed : List PathValue
  pub is : all ≡ left ++ removed
  pub notes : now.notes ≡ with_removals removed start.notes

pub removed_start : (all : List PathValue) (start : Trace) → Removed all all start start
removed_start all start = record { removed = []; is = sym (append-nil all); notes = refl }

pub removed_step : (all ks left : List PathValue) (k : PathValue) (start mid now : Trace) → left ≡ ks ++ k ∷ []
    → Removed all left start mid → now ≡ noted mid (Made (Put k Missing)) → Removed all ks start now
removed_step all ks left k start mid now last r made = record {
  removed = k ∷ r.removed;
  is = r.is ∙ ap (λ x. x ++ r.removed) last ∙ append_assoc ks (k ∷ []) r.removed;
  notes = ap (λ x. x.notes) made ∙ ap (λ x. Made (Put k Missing) ∷ x) r.notes;
}

pub removed_end : (p q : PathValue) (all left : List PathValue) (old start now : Trace) → left ≡ []
    → NodeNotes p q Dir all old.notes start.notes → Removed all left start now → MoveNotes p q old.notes now.notes
removed_end p q all left old start now none copy r = record {
  paths = all;
  copied = start.notes;
  copy = copy;
  removals = r.notes ∙ ap (λ x. with_removals x start.notes) (sym (r.is ∙ ap (λ x. x ++ r.removed) none));
}

-- a directory of a lawful state always has a listing
never : (names : List (List ℕ)) → listing Dir names ≡ None → ⊥
never names e = cc

pub always_listed : (p : PathValue) (old new : Trace) → Always (λ s. node_in p s.tree ≡ Dir) old
    → AllHold old.notes old.start
    → ((s : State) → IsLawful s → AllHold old.notes s → IsLawful (reached old.notes s))
    → Computes old new (λ s. (s, listing (node_in p s.tree) (names_in p s.tree))) None
    → new ≡ noted old (Asked (asks.Names p) (answers.Names None)) → IsLawful old.start
    → AllHold new.notes new.start → ⊥
always_listed p old new here holds law names is lawful hold =
    let same : new.start ≡ old.start = ap (λ t. t.start) is in
    let all : AllHold new.notes old.start = subst (AllHold new.notes) same hold in
    let tree = (reached old.notes old.start).tree in
    never (names_in p tree)
    ((λ i. listing (sym (here old.start lawful holds (law old.start lawful holds)) i) (names_in p tree))
    ∙ ap (λ x. x.1) (names.means old.start lawful all))
