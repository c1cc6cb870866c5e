-- What is left of a removal when its kind is known.
use Rattle.std.proofs.Common.{◌≡◌, Bool, true, false, not, ◌||◌, Option, Some, None, Result, Ok, Err, ap, sym, refl}
use Rattle.std.proofs.Common.{◌∙◌, subst}
use Rattle.std.specs.Bool.{if◌then◌else◌}
use Rattle.retro_tree.specs.Lawful.{IsLawful}
use Rattle.retro_tree.specs.Node.{is_dir, kind_of}
use Rattle.retro_tree.specs.Path.{PathValue}
use Rattle.retro_tree.specs.Tree.{node_in}
use Rattle.retro_tree.specs.declared.kind.Kind.{Kind}
use Rattle.retro_tree.specs.declared.node.Node.{Node}
use Rattle.retro_tree.specs.declared.node.Node.TheVariants.{Missing, Dir, File}
use Rattle.retro_tree.specs.declared.state.State.{State}
use Rattle.retro_local.specs.Runs.{Computes}
use Rattle.retro_local.specs.Trace.{Trace, reached}
use Rattle.retro_moves.specs.Trees.{removed, with_tree, without}
use Rattle.retro_moves.proofs.Removals.{KeepsLawful}
use Rattle.retro_moves.proofs.Without.{without_none}
use Rattle.retro_utils.specs.Outcomes.{made_unless}
use Rattle.retro_utils.specs.Rm.{not_removed, remove_path}
use Rattle.retro_utils.specs.declared.reason.Reason.{Reason}
use Rattle.retro_utils.specs.declared.reason.Reason.TheVariants.{NoSuchFile}
use Rattle.retro_utils.specs.declared.removal.Removal.{Removal}

abbrev outcome_unless : Option Reason → Result (Unit {0}) Reason
outcome_unless None = Ok tt
outcome_unless (Some reason) = Err reason

-- what a removal by `retro_moves` computes
abbrev pub removal : Removal → PathValue → State → State × Kind
removal how p s = (with_tree (removed how.recursive p) s, kind_of (node_in p s.tree))

same_removal : (how : Removal) (p : PathValue) (s : State) → IsLawful s
    → remove_path how p s
    ≡ (with_tree (removed how.recursive p) s, outcome_unless (not_removed how (kind_of (node_in p s.tree))))
unfolding remove_path
same_removal how p s law = go (node_in p s.tree) how.recursive how.forced refl
  where
    go : (n : Node) (recursive forced : Bool) → node_in p s.tree ≡ n
        → made_unless (not_removed (record { forced = forced; recursive = recursive }) (kind_of n))
        (with_tree (without p)) s
        ≡ (
          with_tree (λ t. if recursive || not (is_dir n) then without p t else t) s,
          outcome_unless (not_removed (record { forced = forced; recursive = recursive }) (kind_of n)),
        )
    go Missing true true e = refl
    go Missing false true e = refl
    go Missing true false e =
        sym (ap (λ t. (record s { tree = t }, Err NoSuchFile)) (without_none p s.tree law.tree e))
    go Missing false false e =
        sym (ap (λ t. (record s { tree = t }, Err NoSuchFile)) (without_none p s.tree law.tree e))
    go Dir true forced e = refl
    go Dir false forced e = refl
    go (File bytes) true forced e = refl
    go (File bytes) false forced e = refl

-- a removal with its outcome by the kind of what was there
computed : (old new : Trace) (how : Removal) (p : PathValue) (k : Kind) → KeepsLawful old
    → Computes old new (removal how p) k
    → Computes old new (remove_path how p) (outcome_unless (not_removed how k))
computed old new how p k law gone = record {
  held = gone.held;
  means = λ s l h.
      let was = gone.means s l h in
      same_removal how p (reached old.notes s) (law s l (gone.held s l h))
      ∙ (λ i. ((was i).0, outcome_unless (not_removed how (was i).1)));
}

pub path_removed : (old new : Trace) (how : Removal) (p : PathValue) (k : Kind) → KeepsLawful old
    → Computes old new (removal how p) k → not_removed how k ≡ None → Computes old new (remove_path how p) (Ok tt)
path_removed old new how p k law gone e =
    subst (λ o. Computes old new (remove_path how p) (outcome_unless o)) e (computed old new how p k law gone)

pub path_left : (old new : Trace) (how : Removal) (p : PathValue) (k : Kind) (reason : Reason) → KeepsLawful old
    → Computes old new (removal how p) k → not_removed how k ≡ Some reason
    → Computes old new (remove_path how p) (Err reason)
path_left old new how p k reason law gone e =
    subst (λ o. Computes old new (remove_path how p) (outcome_unless o)) e (computed old new how p k law gone)
