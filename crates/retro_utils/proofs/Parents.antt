-- `mkdir -p` one prefix after another is `mkdir -p` on the whole state.
use Rattle.std.proofs.Common.{◌≡◌, ◌≢◌, ℕ, true, false, not, cond, List, [], ◌∷◌, ◌++◌, map, Some}
use Rattle.std.proofs.Common.{◌+◌, ◌<◌, suc, length, get_or, drop, add-one, drop-cons}
use Rattle.std.proofs.Common.{Result, Ok, Err, refl, sym, ap, ◌∙◌, subst, append_assoc, ⊎_elim}
use Rattle.std.specs.List.{find, take_while}
use Rattle.std.specs.Bool.{if◌then◌else◌}
use Rattle.std.specs.FinMap.{same_map}
use Rattle.std.proofs.lemmas.List.Sums.{take_while-cons}
use Rattle.retro_tree.specs.Lawful.{IsLawful}
use Rattle.retro_tree.specs.Node.{kind_of}
use Rattle.retro_tree.specs.Order.{path_total, path_exact}
use Rattle.retro_tree.specs.Path.{PathValue, below, is_null, parent_of, prefixes_of}
use Rattle.retro_tree.specs.State.{put_node}
use Rattle.retro_tree.specs.Tree.{Tree, node_in, put}
use Rattle.retro_tree.specs.declared.kind.Kind.{Kind}
use Rattle.retro_tree.specs.declared.kind.Kind.TheVariants as kinds
use Rattle.retro_tree.specs.declared.node.Node.TheVariants.{Dir}
use Rattle.retro_tree.specs.declared.state.State.{State}
use Rattle.retro_tree.proofs.Agree.{same_get}
use Rattle.retro_tree.proofs.Below.{below_append}
use Rattle.retro_tree.proofs.Lookups.{one_or_two, node_put, node_put_apart}
use Rattle.retro_tree.proofs.Small.{some_same}
use Rattle.retro_tree.proofs.TreeLaw.{told}
use Rattle.retro_local.specs.Kinds.{kind_at}
use Rattle.retro_utils.specs.MkdirParents.{is_blocked, is_file, blocked_at, blocked_by, with_dirs}
use Rattle.retro_utils.specs.MkdirParents.{make_prefixes, make_parents}
use Rattle.retro_utils.specs.inner.MkdirSteps.{step_by, make_step, and_then, make_each}
use Rattle.retro_utils.specs.declared.reason.Reason.{Reason}
use Rattle.retro_utils.proofs.Facts.{directory_at}

append_end : (q : PathValue) → q ++ [] ≡ q
append_end [] = refl
append_end (x ∷ q) = ap (λ r. x ∷ r) (append_end q)

-- none of the paths is k
abbrev Others : PathValue → List PathValue → Type 0
Others k [] = Unit {0}
Others k (x ∷ xs) = (x ≢ k) × Others k xs

-- ---- one prefix more

kind_apart : (k x : PathValue) (s : State) → x ≢ k → kind_at x (put_node k Dir s) ≡ kind_at x s
unfolding kind_at
kind_apart k x s h = ap (λ n. if is_null x then kinds.File else kind_of n) (node_put_apart k x Dir s.tree h)

free_same : (k : PathValue) (ks : List PathValue) (s : State) → Others k ks
    → take_while (λ x. not (is_blocked (put_node k Dir s) x)) ks ≡ take_while (λ x. not (is_blocked s x)) ks
free_same k [] s h = refl
free_same k (x ∷ ks) s h =
    take_while-cons (λ y. not (is_blocked (put_node k Dir s) y)) x ks
    ∙ (λ i. cond (not (is_file (kind_apart k x s h.0 i))) (x ∷ free_same k ks s h.1 i) [])
    ∙ sym (take_while-cons (λ y. not (is_blocked s y)) x ks)

found_same : (k : PathValue) (ks : List PathValue) (s : State) → Others k ks
    → find (is_blocked (put_node k Dir s)) ks ≡ find (is_blocked s) ks
found_same k [] s h = refl
found_same k (x ∷ ks) s h = λ i. cond (is_file (kind_apart k x s h.0 i)) (Some x) (found_same k ks s h.1 i)

-- a prefix at which no file is becomes a directory, and the others are made after it
prefix_made : (p k : PathValue) (ks : List PathValue) (s : State) → Others k ks → is_blocked s k ≡ false
    → make_prefixes p (k ∷ ks) s ≡ make_prefixes p ks (put_node k Dir s)
unfolding with_dirs
prefix_made p k ks s h free = λ i. (
  record s { tree = with_dirs (step i) s.tree },
  blocked_by p (cond (free i) (Some k) (sym (found_same k ks s h) i)),
)
  where
    step : take_while (λ x. not (is_blocked s x)) (k ∷ ks)
        ≡ k ∷ take_while (λ x. not (is_blocked (put_node k Dir s) x)) ks
    step =
        take_while-cons (λ x. not (is_blocked s x)) k ks
        ∙ (λ i. cond (not (free i)) (k ∷ sym (free_same k ks s h) i) [])

-- and a file ends it
prefix_blocked : (p k : PathValue) (ks : List PathValue) (s : State) → is_blocked s k ≡ true
    → make_prefixes p (k ∷ ks) s ≡ (s, Err (blocked_at p k))
unfolding with_dirs
prefix_blocked p k ks s blocked = λ i. (
  record s { tree = with_dirs (stop i) s.tree },
  blocked_by p (cond (blocked i) (Some k) (find (is_blocked s) ks)),
)
  where
    stop : take_while (λ x. not (is_blocked s x)) (k ∷ ks) ≡ []
    stop =
        take_while-cons (λ x. not (is_blocked s x)) k ks
        ∙ (λ i. cond (not (blocked i)) (k ∷ take_while (λ x. not (is_blocked s x)) ks) [])

-- a directory put where one is changes nothing
dir_again : (k : PathValue) (t : Tree) → node_in k t ≡ Dir → put k Dir t ≡ t
dir_again k t e = same_map path_total path_exact _ _ (λ r. same_get _ _ r (⊎_elim
    (λ same. ap (λ x. node_in x (put k Dir t)) same ∙ node_put k Dir t ∙ sym e ∙ ap (λ x. node_in x t) (sym same))
    (λ apart. node_put_apart k r Dir t apart)
    (one_or_two path_total path_exact r k)))

-- ---- the prefixes below a path, by the names that follow it
abbrev pub prefixes_after : PathValue → PathValue → List PathValue
prefixes_after at [] = []
prefixes_after at (name ∷ names) = (at ++ name ∷ []) ∷ prefixes_after (at ++ name ∷ []) names

longer : (k ys : PathValue) (n : List ℕ) → (k ++ ys) ++ n ∷ [] ≢ k
longer k ys n e = no_end ys (some_same _ _ (sym (below_append k (ys ++ n ∷ []))
    ∙ ap (below k) (sym (append_assoc k ys (n ∷ [])) ∙ e ∙ sym (append_end k)) ∙ below_append k []))
  where
    no_end : (zs : PathValue) → zs ++ n ∷ [] ≡ [] → ⊥
    no_end [] e = cc
    no_end (z ∷ zs) e = cc

others_below : (k ys rest : PathValue) → Others k (prefixes_after (k ++ ys) rest)
others_below k ys [] = tt
others_below k ys (n ∷ rest) = (
  longer k ys n,
  subst (λ f. Others k (prefixes_after f rest)) (sym (append_assoc k ys (n ∷ [])))
      (others_below k (ys ++ n ∷ []) rest),
)

others : (k rest : PathValue) → Others k (prefixes_after k rest)
others k rest = subst (λ f. Others k (prefixes_after f rest)) (append_end k) (others_below k [] rest)

each_after : (p at rest : PathValue) (s : State) → make_each p at rest s ≡ make_prefixes p (prefixes_after at rest) s
unfolding with_dirs make_step
each_after p at [] s = refl
each_after p at (n ∷ rest) s = go (kind_at k s) refl (λ t. each_after p (at ++ n ∷ []) rest t)
  where
    k : PathValue
    k = at ++ n ∷ []

    ks : List PathValue
    ks = prefixes_after k rest

    go : (kind : Kind) → kind_at k s ≡ kind → ((t : State) → make_each p k rest t ≡ make_prefixes p ks t)
        → and_then (step_by (kind_at k s) p k s) (make_each p k rest) ≡ make_prefixes p (k ∷ ks) s
    go kinds.Missing e more =
        ap (λ x. and_then (step_by x p k s) (make_each p k rest)) e
        ∙ more (put_node k Dir s)
        ∙ sym (prefix_made p k ks s (others k rest) (ap is_file e))
    go kinds.Dir e more =
        ap (λ x. and_then (step_by x p k s) (make_each p k rest)) e
        ∙ more s
        ∙ ap (λ t. make_prefixes p ks (record s { tree = t })) (sym (dir_again k s.tree (directory_at k s e)))
        ∙ sym (prefix_made p k ks s (others k rest) (ap is_file e))
    go kinds.File e more =
        ap (λ x. and_then (step_by x p k s) (make_each p k rest)) e
        ∙ sym (prefix_blocked p k ks s (ap is_file e))

-- ---- all prefixes
map_same : (xs : List PathValue) → map (λ q. [] ++ q) xs ≡ xs
map_same [] = refl
map_same (x ∷ xs) = ap (λ ys. x ∷ ys) (map_same xs)

prefixes_by : (at : PathValue) (n : List ℕ) (qs : List PathValue)
    → map (λ q. (at ++ n ∷ []) ++ q) qs ≡ map (λ q. at ++ q) (map (λ q. n ∷ q) qs)
prefixes_by at n [] = refl
prefixes_by at n (q ∷ qs) = λ i. append_assoc at (n ∷ []) q i ∷ prefixes_by at n qs i

prefixes_below : (at rest : PathValue) → prefixes_after at rest ≡ map (λ q. at ++ q) (prefixes_of rest)
prefixes_below at [] = refl
prefixes_below at (n ∷ rest) =
    ap (λ qs. (at ++ n ∷ []) ∷ qs) (prefixes_below (at ++ n ∷ []) rest ∙ prefixes_by at n (prefixes_of rest))

pub each_is_all : (p : PathValue) (s : State) → make_each p [] p s ≡ make_parents p s
unfolding make_parents
each_is_all p s =
    each_after p [] p s ∙ ap (λ ks. make_prefixes p ks s) (prefixes_below [] p ∙ map_same (prefixes_of p))

-- ---- the directory in which the next prefix is made
pub root_is_dir : (s : State) → IsLawful s → node_in [] s.tree ≡ Dir
root_is_dir s l = (told s.tree l.tree).root

pub parent_of_next : (at : PathValue) (n : List ℕ) → parent_of (at ++ n ∷ []) ≡ at
parent_of_next [] n = refl
parent_of_next (x ∷ []) n = refl
parent_of_next (x ∷ y ∷ at) n = ap (λ q. x ∷ q) (parent_of_next (y ∷ at) n)

failed : (r : Result (Unit {0}) Reason) (reason : Reason) → r ≡ Err reason → r ≡ Ok tt → ⊥
failed r reason e f = cc

pub made_is_dir : (p k : PathValue) (s t : State) → make_step p k s ≡ (t, Ok tt) → node_in k t.tree ≡ Dir
unfolding make_step
made_is_dir p k s t e = go (kind_at k s) refl e
  where
    go : (kind : Kind) → kind_at k s ≡ kind → step_by kind p k s ≡ (t, Ok tt) → node_in k t.tree ≡ Dir
    go kinds.Missing is made = ap (λ r. node_in k r.0.tree) (sym made) ∙ node_put k Dir s.tree
    go kinds.Dir is made = ap (λ r. node_in k r.0.tree) (sym made) ∙ directory_at k s is
    go kinds.File is made = absurd (failed (Err (blocked_at p k)) (blocked_at p k) refl (ap (λ r. r.1) made))

-- the prefixes of p are those below the root
pub all_left : (p : PathValue) → prefixes_of p ≡ prefixes_after [] p
all_left p = sym (prefixes_below [] p ∙ map_same (prefixes_of p))

-- The prefix k follows `at`, which the names follow, and is followed by the prefixes ks.
pub record Next (at names k : PathValue) (ks : List PathValue) : Type 0 where
  pub name : List ℕ
  pub later : PathValue
  pub names_are : names ≡ name ∷ later
  pub here : k ≡ at ++ name ∷ []
  pub left : ks ≡ prefixes_after k later

-- the prefix at which a loop over prefixes is
pub next_left : (at names k : PathValue) (ks : List PathValue) → k ∷ ks ≡ prefixes_after at names
    → Next at names k ks
next_left at [] k ks e = absurd (cc)
next_left at (n ∷ names) k ks e = record {
  name = n;
  later = names;
  names_are = refl;
  here = is;
  left = subst (λ q. ks ≡ prefixes_after q names) (sym is) (cc);
}
  where
    is : k ≡ at ++ n ∷ []
    is = cc

-- no names are left where no prefixes are
pub none_left : (at names : PathValue) (ks : List PathValue) → ks ≡ prefixes_after at names → length ks ≡ 0
    → names ≡ []
none_left at [] ks e h = refl
none_left at (n ∷ names) ks e h = absurd (not_zero (sym (ap length e) ∙ h))
  where
    not_zero : {k : ℕ} → suc k ≡ 0 → ⊥
    not_zero is = cc

-- one name further
pub one_further : (p at next names rest : PathValue) (name : List ℕ) (s t : State) → names ≡ name ∷ rest
    → next ≡ at ++ name ∷ [] → make_step p next s ≡ (t, Ok tt) → make_each p at names s ≡ make_each p next rest t
one_further p at next names rest name s t a b c =
    ap (λ ns. make_each p at ns s) a
    ∙ ap (λ k. and_then (make_step p k s) (make_each p k rest)) (sym b)
    ∙ ap (λ r. and_then r (make_each p next rest)) c

-- a prefix that can't be made
pub one_failed : (p at next names rest : PathValue) (name : List ℕ) (reason : Reason) (s t : State)
    → names ≡ name ∷ rest → next ≡ at ++ name ∷ [] → make_step p next s ≡ (t, Err reason)
    → make_each p at names s ≡ (t, Err reason)
one_failed p at next names rest name reason s t a b c =
    ap (λ ns. make_each p at ns s) a
    ∙ ap (λ k. and_then (make_step p k s) (make_each p k rest)) (sym b)
    ∙ ap (λ r. and_then r (make_each p next rest)) c

pub ruleset making = (root_is_dir, parent_of_next, made_is_dir)
