-- A tree in which a prefix of each path is replaced, node by node.
use Rattle.std.proofs.Common.{◌≡◌, Bool, true, false, not, cond, T, List, [], ◌∷◌, ◌++◌, map, Option, Some, None, refl}
use Rattle.std.proofs.Common.{sym}
use Rattle.std.proofs.Common.{ap, ◌∙◌}
use Rattle.std.specs.Option.{is_some}
use Rattle.std.specs.List.{list_all}
use Rattle.std.specs.Bool.{if◌then◌else◌}
use Rattle.std.specs.Ordering.{eq_by_cmp, is_eq}
use Rattle.std.specs.Cmp.{tied_itself}
use Rattle.std.specs.Cmp.Lexicographic.{nat_list_eq_equiv}
use Rattle.std.specs.FinMap as finmap
use Rattle.std.specs.FinMap.{get-entries, get-from_entries, entries, entries_sorted}
use Rattle.std.specs.FinMap.Entries.{find, is_sorted, below_all}
use Rattle.std.proofs.lemmas.Bool.{true≢false, false≢true}
use Rattle.retro_tree.specs.Order.{path_cmp, path_total, path_exact, text_eq}
use Rattle.retro_tree.specs.Path.{PathValue, below}
use Rattle.retro_tree.specs.Node.{node_of}
use Rattle.retro_tree.specs.Tree.{Tree, node_in}
use Rattle.retro_tree.specs.declared.entry.Entry.{Entry}
use Rattle.retro_tree.specs.declared.node.Node.{Node}
use Rattle.retro_tree.specs.declared.node.Node.TheVariants.{Missing}
use Rattle.retro_tree.proofs.Small.{tied, less, both_fst, both_snd, some_same, none_some, first_true, both_true}
use Rattle.retro_tree.proofs.Small.{and_true}
use Rattle.retro_tree.proofs.Below.{below_append, below_split}
use Rattle.retro_moves.specs.Trees.{without, continued, moved_path, moved, Apart}
use Rattle.retro_moves.proofs.Without.{get_without}

pub none_of : {A : Type 0} (o : Option A) → is_some o ≡ false → o ≡ None
none_of None e = refl
none_of (Some x) e = absurd (true≢false e)

some_none : {A : Type 0} (o : Option A) (x : A) → o ≡ Some x → o ≡ None → ⊥
some_none o x e f = none_some x (sym f ∙ e)

-- paths that are apart stay apart when they get longer
pub apart_longer : (p q rest : PathValue) → Apart p q → Apart p (q ++ rest)
apart_longer [] q rest h = absurd (true≢false h.left)
apart_longer (x ∷ p) [] rest h = absurd (true≢false h.right)
apart_longer (x ∷ p) (y ∷ q) rest h = go (λ up. apart_longer p q rest up) (text_eq x y) refl
  where
    go : (Apart p q → Apart p (q ++ rest)) → (b : Bool) → text_eq x y ≡ b → Apart (x ∷ p) ((y ∷ q) ++ rest)
    go more true e =
        let f : text_eq y x ≡ true = nat_list_eq_equiv.symm y x ∙ e in
        let up : Apart p q = record {
          left = sym (ap (λ b. is_some (if b then below p q else None)) e) ∙ h.left;
          right = sym (ap (λ b. is_some (if b then below q p else None)) f) ∙ h.right;
        } in
        let r = more up in
        record {
          left = ap (λ b. is_some (if b then below p (q ++ rest) else None)) e ∙ r.left;
          right = ap (λ b. is_some (if b then below (q ++ rest) p else None)) f ∙ r.right;
        }
    go more false e = record {
      left = ap (λ b. is_some (if b then below p (q ++ rest) else None)) e;
      right = ap (λ b. is_some (if b then below (q ++ rest) p else None)) (nat_list_eq_equiv.symm y x ∙ e);
    }

pub turned : (p q : PathValue) → Apart p q → Apart q p
turned p q h = record { left = h.right; right = h.left }

pub apart_both : (p q more rest : PathValue) → Apart p q → Apart (p ++ more) (q ++ rest)
apart_both p q more rest h = turned _ _ (apart_longer (q ++ rest) p more (turned _ _ (apart_longer p q rest h)))

-- nothing below p is below q
pub beside : (p q rest : PathValue) → Apart p q → below q (p ++ rest) ≡ None
beside p q rest h = none_of _ (apart_longer q p rest (turned p q h)).left

longer : (p q rest : PathValue) → Apart p q → is_some (below p (q ++ rest)) ≡ false
longer p q rest h = (apart_longer p q rest h).left

same : (a b : PathValue) → eq_by_cmp path_cmp a b ≡ true → a ≡ b
same a b e = path_exact a b (tied _ e)

itself : (a : PathValue) → eq_by_cmp path_cmp a a ≡ true
itself a = ap is_eq (tied_itself path_total a)

differ : (a b : PathValue) → (a ≡ b → ⊥) → eq_by_cmp path_cmp a b ≡ false
differ a b h = go (eq_by_cmp path_cmp a b) refl
  where
    go : (x : Bool) → eq_by_cmp path_cmp a b ≡ x → x ≡ false
    go true e = absurd (h (same a b e))
    go false e = refl

-- a test passes at all entries if it passes at each that is found
all_pass : (test : PathValue × Entry → Bool) (es all : List (PathValue × Entry)) → T (is_sorted path_cmp es)
    → ((q : PathValue) (e : Entry) → find path_cmp q es ≡ Some e → find path_cmp q all ≡ Some e)
    → ((q : PathValue) (e : Entry) → find path_cmp q all ≡ Some e → test (q, e) ≡ true) → list_all test es ≡ true
all_pass test [] all s keep h = refl
all_pass test (x ∷ es) all s keep h =
    and_true _ _ (h x.0 x.1
    (keep x.0 x.1 (ap (λ r. cond (is_eq r) (Some x.1) (find path_cmp x.0 es)) (tied_itself path_total x.0))))
    (all_pass test es all (both_snd _ _ s) (λ q e is. keep q e (skip q e (eq_by_cmp path_cmp q x.0) refl is)) h)
  where
    never : (q : PathValue) (e : Entry) (fs : List (PathValue × Entry)) → T (below_all path_cmp x.0 fs) → q ≡ x.0
        → find path_cmp q fs ≡ Some e → ⊥
    never q e [] b same is = none_some e is
    never q e (f ∷ fs) b same is =
        never q e fs (both_snd _ _ b) same
        (sym (ap (λ r. cond (is_eq r) (Some f.1) (find path_cmp q fs))
        (ap (λ k. path_cmp k f.0) same ∙ less _ (both_fst _ _ b))) ∙ is)

    skip : (q : PathValue) (e : Entry) (b : Bool) → eq_by_cmp path_cmp q x.0 ≡ b → find path_cmp q es ≡ Some e
        → cond b (Some x.1) (find path_cmp q es) ≡ Some e
    skip q e true t is = absurd (never q e es (both_fst _ _ s) (path_exact q x.0 (tied _ t)) is)
    skip q e false t is = is

abbrev agree : Bool → Bool → Bool
agree true b = b
agree false b = not b

twice : (b : Bool) → agree b b ≡ true
twice true = refl
twice false = refl

alike : (a b : Bool) → agree a b ≡ true → a ≡ b
alike true true h = refl
alike true false h = absurd (false≢true h)
alike false true h = absurd (false≢true h)
alike false false h = refl

-- entries whose paths were changed by f
module _ (f : PathValue → PathValue) (r : PathValue) where
  abbrev changed : List (PathValue × Entry) → List (PathValue × Entry)
  changed es = map (λ e. (f e.0, e.1)) es

  find_same : (s : PathValue) (es : List (PathValue × Entry))
      → list_all (λ e. agree (eq_by_cmp path_cmp r (f e.0)) (eq_by_cmp path_cmp s e.0)) es ≡ true
      → find path_cmp r (changed es) ≡ find path_cmp s es
  find_same s [] h = refl
  find_same s (e ∷ es) h =
      λ i. cond (alike (eq_by_cmp path_cmp r (f e.0)) (eq_by_cmp path_cmp s e.0)
      (first_true (agree (eq_by_cmp path_cmp r (f e.0)) (eq_by_cmp path_cmp s e.0)) _ h) i) (Some e.1)
      (find_same s es (both_true (agree (eq_by_cmp path_cmp r (f e.0)) (eq_by_cmp path_cmp s e.0)) _ h) i)

  find_none : (es : List (PathValue × Entry)) → list_all (λ e. not (eq_by_cmp path_cmp r (f e.0))) es ≡ true
      → find path_cmp r (changed es) ≡ None
  find_none [] h = refl
  find_none (e ∷ es) h =
      λ i. cond (off (eq_by_cmp path_cmp r (f e.0)) (first_true (not (eq_by_cmp path_cmp r (f e.0))) _ h) i)
      (Some e.1) (find_none es (both_true (not (eq_by_cmp path_cmp r (f e.0))) _ h) i)
    where
      off : (b : Bool) → not b ≡ true → b ≡ false
      off true e = absurd (false≢true e)
      off false e = refl

-- the node at r after the move, by what follows q and p in r
abbrev pub moved_node : PathValue → Tree → PathValue → Option PathValue → Option PathValue → Node
moved_node p t r (Some y) b = node_in (p ++ y) t
moved_node p t r None (Some x) = Missing
moved_node p t r None None = node_in r t

module _ (p q : PathValue) (t : Tree) (apart : Apart p q) where
  abbrev es : List (PathValue × Entry)
  es = entries (without q t)

  tested : (test : PathValue × Entry → Bool)
      → ((k : PathValue) (v : Entry) → find path_cmp k es ≡ Some v → test (k, v) ≡ true) → list_all test es ≡ true
  tested test h = all_pass test es es (entries_sorted (without q t)) (λ k v is. is) h

  gets : (r : PathValue) → node_in r (moved p q t) ≡ node_of (find path_cmp r (map (λ e. (moved_path p q e.0, e.1)) es))
  unfolding node_in moved
  gets r = ap node_of (get-from_entries path_total (map (λ e. (moved_path p q e.0, e.1)) es) r)

  -- nothing is below q
  cleared : (k : PathValue) (v : Entry) → find path_cmp k es ≡ Some v → below q k ≡ None
  cleared k v is = go (below q k) refl
    where
      go : (o : Option PathValue) → below q k ≡ o → o ≡ None
      go None e = refl
      go (Some y) e =
          absurd (none_some v (sym (get_without q k t ∙ ap (λ o. cond (not (is_some o)) (finmap.get t k) None) e)
          ∙ (get-entries (without q t) k ∙ is)))

  -- elsewhere all is there
  kept : (r : PathValue) → below q r ≡ None → node_of (find path_cmp r es) ≡ node_in r t
  unfolding node_in
  kept r e = ap node_of
      (sym (get-entries (without q t) r) ∙ get_without q r t ∙ ap (λ o. cond (not (is_some o)) (finmap.get t r) None) e)

  off_target : (y : PathValue) → below q (p ++ y) ≡ None
  off_target y = beside p q y apart

  off : (y : PathValue) → below p (q ++ y) ≡ None
  off y = none_of _ (longer p q y apart)

  -- below q: what was below p
  moved_at : (r y : PathValue) → below q r ≡ Some y
      → find path_cmp r (map (λ e. (moved_path p q e.0, e.1)) es) ≡ find path_cmp (p ++ y) es
  moved_at r y b = find_same (moved_path p q) r (p ++ y) es (tested _ (λ k v is. go k v is (below p k) refl))
    where
      at : r ≡ q ++ y
      at = below_split q r y b

      both : (k z : PathValue) → k ≡ p ++ z → (x : Bool) → eq_by_cmp path_cmp r (q ++ z) ≡ x
          → agree x (eq_by_cmp path_cmp (p ++ y) k) ≡ true
      both k z kz true e =
          let ys : y ≡ z =
          some_same _ _ (sym (below_append q y) ∙ ap (below q) (sym at ∙ same r (q ++ z) e) ∙ below_append q z) in
          ap (eq_by_cmp path_cmp (p ++ y)) (kz ∙ ap (λ w. p ++ w) (sym ys)) ∙ itself (p ++ y)
      both k z kz false e = ap not (differ (p ++ y) k (λ s.
          let ys : y ≡ z = some_same _ _ (sym (below_append p y) ∙ ap (below p) (s ∙ kz) ∙ below_append p z) in
          true≢false (sym (ap (eq_by_cmp path_cmp r) (ap (λ w. q ++ w) (sym ys) ∙ sym at) ∙ itself r) ∙ e)))

      go : (k : PathValue) (v : Entry) → find path_cmp k es ≡ Some v → (o : Option PathValue) → below p k ≡ o
          → agree (eq_by_cmp path_cmp r (continued q k o)) (eq_by_cmp path_cmp (p ++ y) k) ≡ true
      go k v is (Some z) bk = both k z (below_split p k z bk) (eq_by_cmp path_cmp r (q ++ z)) refl
      go k v is None bk = λ i. agree
          (differ r k (λ e. some_none (below q k) y (ap (below q) (sym e) ∙ b) (cleared k v is)) i)
          (differ (p ++ y) k (λ e. some_none (below p k) y (ap (below p) (sym e) ∙ below_append p y) bk) i)

  -- below p: nothing
  cleared_at : (r x : PathValue) → below q r ≡ None → below p r ≡ Some x
      → find path_cmp r (map (λ e. (moved_path p q e.0, e.1)) es) ≡ None
  cleared_at r x nq here =
      find_none (moved_path p q) r es
      (tested _ (λ k v is. ap not (differ r (moved_path p q k) (λ e. never k (below p k) refl e))))
    where
      never : (k : PathValue) (o : Option PathValue) → below p k ≡ o → r ≡ continued q k o → ⊥
      never k None b e = some_none (below p k) x (ap (below p) (sym e) ∙ here) b
      never k (Some y) b e = some_none (below q r) y (ap (below q) e ∙ below_append q y) nq

  -- elsewhere: what was there
  kept_at : (r : PathValue) → below q r ≡ None → below p r ≡ None
      → find path_cmp r (map (λ e. (moved_path p q e.0, e.1)) es) ≡ find path_cmp r es
  kept_at r nq np = find_same (moved_path p q) r r es (tested _ (λ k v is. go k (below p k) refl))
    where
      go : (k : PathValue) (o : Option PathValue) → below p k ≡ o
          → agree (eq_by_cmp path_cmp r (continued q k o)) (eq_by_cmp path_cmp r k) ≡ true
      go k None b = twice (eq_by_cmp path_cmp r k)
      go k (Some y) b = λ i. agree
          (differ r (q ++ y) (λ e. some_none (below q r) y (ap (below q) e ∙ below_append q y) nq) i)
          (differ r k (λ e. some_none (below p k) y b (ap (below p) (sym e) ∙ np)) i)

  pub node_moved : (r : PathValue) → node_in r (moved p q t) ≡ moved_node p t r (below q r) (below p r)
  node_moved r = gets r ∙ go (below q r) (below p r) refl refl
    where
      go : (a b : Option PathValue) → below q r ≡ a → below p r ≡ b
          → node_of (find path_cmp r (map (λ e. (moved_path p q e.0, e.1)) es)) ≡ moved_node p t r a b
      go (Some y) b ea eb = ap node_of (moved_at r y ea) ∙ kept (p ++ y) (off_target y)
      go None (Some x) ea eb = ap node_of (cleared_at r x ea eb)
      go None None ea eb = ap node_of (kept_at r ea eb) ∙ kept r ea
