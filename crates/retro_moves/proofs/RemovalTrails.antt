-- The notes of removals that follow one another.
use Rattle.std.proofs.Common.{◌≡◌, ℕ, List, [], ◌∷◌, ◌++◌, Option, Some, None, ap, ◌∙◌, subst}
use Rattle.retro_tree.specs.Path.{PathValue}
use Rattle.retro_tree.specs.Node.{kind_of}
use Rattle.retro_tree.specs.Tree.{node_in}
use Rattle.retro_tree.specs.Ask.{answer, listing, names_in}
use Rattle.retro_tree.specs.declared.answer.Answer.TheVariants as answers
use Rattle.retro_tree.specs.declared.ask.Ask.TheVariants as asks
use Rattle.retro_tree.specs.declared.change.Change.TheVariants.{Put}
use Rattle.retro_tree.specs.declared.kind.Kind.{Kind}
use Rattle.retro_tree.specs.declared.kind.Kind.TheVariants as kinds
use Rattle.retro_tree.specs.declared.node.Node.{Node}
use Rattle.retro_tree.specs.declared.node.Node.TheVariants.{Missing, Dir, File}
use Rattle.retro_tree.specs.declared.note.Note.{Note}
use Rattle.retro_tree.specs.declared.note.Note.TheVariants.{Asked, Made}
use Rattle.retro_local.specs.Trace.{Trace, noted, reached, AllHold}
use Rattle.retro_moves.specs.RemovalNotes.{RemovalNotes, done, missing, file, dir, children}

pub joined : {js ks : List PathValue} {a b c : List Note} → RemovalNotes js a b → RemovalNotes ks b c
    → RemovalNotes (js ++ ks) a c
joined done h = h
joined (missing r) h = missing (joined r h)
joined (file r) h = file (joined r h)
joined (dir names inner r) h = dir names inner (joined r h)

pub missing_noted : (p : PathValue) (old new : Trace)
    → new ≡ noted old (Asked (asks.Kind p) (answers.Kind kinds.Missing))
    → RemovalNotes (p ∷ []) old.notes new.notes
missing_noted p old new is = rw is (missing done)

pub file_noted : (p : PathValue) (old mid new : Trace) → mid ≡ noted old (Asked (asks.Kind p) (answers.Kind kinds.File))
    → new ≡ noted mid (Made (Put p Missing)) → RemovalNotes (p ∷ []) old.notes new.notes
file_noted p old mid new asked made = rw (made, asked) (file done)

-- what was removed of the children of a directory, and what is left
abbrev pub Trail : PathValue → List (List ℕ) → List (List ℕ) → Trace → Trace → Type 0
Trail p names left start now =
    (final : List Note) → RemovalNotes (children p left) now.notes final
    → RemovalNotes (children p names) start.notes final

pub trail_step : (p : PathValue) (names left : List (List ℕ)) (n : List ℕ) (start mid now : Trace)
    → Trail p names (n ∷ left) start mid → RemovalNotes ((p ++ n ∷ []) ∷ []) mid.notes now.notes
    → Trail p names left start now
trail_step p names left n start mid now trail removed final h = trail final (joined removed h)

pub dir_noted : (p : PathValue) (names : List (List ℕ)) (old a start mid new : Trace)
    → a ≡ noted old (Asked (asks.Kind p) (answers.Kind kinds.Dir))
    → start ≡ noted a (Asked (asks.Names p) (answers.Names (Some names))) → Trail p names [] start mid
    → new ≡ noted mid (Made (Put p Missing)) → RemovalNotes (p ∷ []) old.notes new.notes
dir_noted p names old a start mid new kind asked trail made =
    rw made (dir names
    (subst (λ (t : Trace). RemovalNotes (children p names) t.notes mid.notes)
    (asked ∙ ap (λ t. noted t (Asked (asks.Names p) (answers.Names (Some names)))) kind) (trail mid.notes done)) done)

-- ---- a directory always has a listing
never : (node : Node) (names : List (List ℕ)) → kind_of node ≡ kinds.Dir → listing node names ≡ None → ⊥
never Missing names e f = cc
never Dir names e f = cc
never (File bytes) names e f = cc

same_kind : (a b : Kind) → answers.Kind a ≡ answers.Kind b → a ≡ b
same_kind a b e = cc

same_names : (a b : Option (List (List ℕ))) → answers.Names a ≡ answers.Names b → a ≡ b
same_names a b e = cc

pub always_listed : (p : PathValue) (old a b : Trace) → a ≡ noted old (Asked (asks.Kind p) (answers.Kind kinds.Dir))
    → b ≡ noted a (Asked (asks.Names p) (answers.Names None)) → AllHold b.notes b.start → ⊥
unfolding answer
always_listed p old a b kind names hold =
    let h = rw (names, kind) at hold in
    let tree = (reached old.notes old.start).tree in
    never (node_in p tree) (names_in p tree) (same_kind _ _ h.0.1) (same_names _ _ h.1)
