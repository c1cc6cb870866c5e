-- Sets of paths, and which paths are near some.
use Rattle.std.proofs.Common.{◌≡◌, ◌∙◌, Bool, true, false, ◌||◌, List, [], ◌∷◌, ◌++◌, Option, Some, None, cond}
use Rattle.std.proofs.Common.{refl, sym, ap, subst, Bor, IfSome, IsTrue, MatchOption, option_map}
use Rattle.std.specs.List.{list_any, slice_get}
use Rattle.std.specs.Option.{is_some, option_copied}
use Rattle.std.specs.BTreeMap.{is_at}
use Rattle.std.specs.BTreeSet.{BTreeSet, contains}
use Rattle.std.specs.Cmp.{tied_itself}
use Rattle.std.specs.Ordering.{is_eq, is_gt, is_le}
use Rattle.std.specs.declared.cmp.Ordering.{Ordering}
use Rattle.std.specs.declared.cmp.Ordering.TheVariants as orders
use Rattle.std.proofs.lemmas.Bool.{true≢false}
use Rattle.retro_tree.specs.Order.{path_cmp, path_exact, path_total}
use Rattle.retro_tree.specs.Path.{PathValue, below, parent_of}
use Rattle.retro_tree.proofs.Small.{or_first, or_last, tied}
use Rattle.retro_tree.proofs.Together.{apart_from, path_after}
use Rattle.retro_redo.specs.inner.Altered.{has_path, is_near}

-- ---- tests of lists

pub first_none : (a b : Bool) → (a || b) ≡ false → a ≡ false
first_none true b e = e
first_none false b e = refl

pub rest_none : (a b : Bool) → (a || b) ≡ false → b ≡ false
rest_none true b e = absurd (true≢false e)
rest_none false b e = e

pub none_of_both : (a b : Bool) → a ≡ false → b ≡ false → (a || b) ≡ false
none_of_both true b e f = absurd (true≢false e)
none_of_both false b e f = f

or_assoc : (a b c : Bool) → (a || (b || c)) ≡ ((a || b) || c)
or_assoc true b c = refl
or_assoc false b c = refl

pub any_append : (f : PathValue → Bool) (xs ys : List PathValue)
    → list_any f (xs ++ ys) ≡ (list_any f xs || list_any f ys)
any_append f [] ys = refl
any_append f (x ∷ xs) ys = ap (λ b. f x || b) (any_append f xs ys) ∙ or_assoc (f x) (list_any f xs) (list_any f ys)

-- ---- paths among some

pub same_path : (p q : PathValue) → is_at (path_cmp p) q ≡ true → p ≡ q
same_path p q e = path_exact p q (tied _ e)

pub path_itself : (p : PathValue) → is_at (path_cmp p) p ≡ true
path_itself p = ap is_eq (tied_itself path_total p)

-- a path that passes a test which none of some paths passes isn't among them
pub not_among : (f : PathValue → Bool) (paths : List PathValue) (q : PathValue) → list_any f paths ≡ false
    → f q ≡ true → has_path q paths ≡ false
not_among f [] q none e = refl
not_among f (k ∷ paths) q none e =
    by_test (is_at (path_cmp q) k) refl (not_among f paths q (rest_none (f k) _ none) e)
  where
    by_test : (b : Bool) → is_at (path_cmp q) k ≡ b → has_path q paths ≡ false
        → (is_at (path_cmp q) k || has_path q paths) ≡ false
    by_test true same rest =
        absurd (true≢false (sym e ∙ ap f (same_path q k same) ∙ first_none (f k) _ none))
    by_test false apart rest = none_of_both _ _ apart rest

-- paths that are all among others pass a test only if one of the others does
passes_among : (f : PathValue → Bool) (xs ys : List PathValue)
    → ((p : PathValue) → has_path p xs ≡ true → has_path p ys ≡ true) → list_any f ys ≡ false → list_any f xs ≡ false
passes_among f [] ys among none = refl
passes_among f (x ∷ xs) ys among none =
    none_of_both (f x) _ (by_test (f x) refl)
    (passes_among f xs ys (λ p has. among p (or_last (is_at (path_cmp p) x) _ has)) none)
  where
    by_test : (b : Bool) → f x ≡ b → b ≡ false
    by_test true e =
        let has = among x (or_first (is_at (path_cmp x) x) _ (path_itself x)) in
        absurd (true≢false (sym has ∙ not_among f ys x none e))
    by_test false e = refl

-- lists of the same paths pass the same tests
pub any_of_same : (f : PathValue → Bool) (xs ys : List PathValue) → ((p : PathValue) → has_path p xs ≡ has_path p ys)
    → list_any f xs ≡ list_any f ys
any_of_same f xs ys same = by_test (list_any f xs) refl (list_any f ys) refl
  where
    by_test : (a : Bool) → list_any f xs ≡ a → (b : Bool) → list_any f ys ≡ b → a ≡ b
    by_test true e true g = refl
    by_test true e false g =
        absurd (true≢false (sym e ∙ passes_among f xs ys (λ p has. sym (same p) ∙ has) g))
    by_test false e true g =
        absurd (true≢false (sym g ∙ passes_among f ys xs (λ p has. same p ∙ has) e))
    by_test false e false g = refl

pub near_of_same : (xs ys : List PathValue) → ((p : PathValue) → has_path p xs ≡ has_path p ys) → (p : PathValue)
    → is_near xs p ≡ is_near ys p
near_of_same xs ys same p =
    λ i. same (parent_of p) i || any_of_same (λ q. is_some (below p q)) xs ys same i

-- ---- paths that are added

flipped : (p q : PathValue) → is_at (path_cmp p) q ≡ is_at (path_cmp q) p
flipped p q = by_test (is_at (path_cmp p) q) refl (is_at (path_cmp q) p) refl
  where
    by_test : (a : Bool) → is_at (path_cmp p) q ≡ a → (b : Bool) → is_at (path_cmp q) p ≡ b → a ≡ b
    by_test true e true g = refl
    by_test true e false g =
        absurd (true≢false (sym (path_itself p) ∙ ap (λ x. is_at (path_cmp x) p) (same_path p q e) ∙ g))
    by_test false e true g =
        absurd (true≢false (sym (path_itself q) ∙ ap (λ x. is_at (path_cmp x) q) (same_path q p g) ∙ e))
    by_test false e false g = refl

pub path_added : (old new : List PathValue) (path copy : PathValue) → copy ≡ path
    → ((q : PathValue) → has_path q new ≡ cond (is_at (path_cmp copy) q) true (has_path q old)) → (p : PathValue)
    → has_path p new ≡ (has_path p old || has_path p (path ∷ []))
path_added old new path copy same updates p =
    updates p ∙ ap (λ b. cond b true (has_path p old)) (flipped copy p ∙ ap (is_at (path_cmp p)) same)
    ∙ either (is_at (path_cmp p) path) (has_path p old)
  where
    either : (a b : Bool) → cond a true b ≡ (b || (a || false))
    either true true = refl
    either true false = refl
    either false true = refl
    either false false = refl

pub path_known : (old : List PathValue) (path : PathValue) → has_path path old ≡ true → (p : PathValue)
    → has_path p old ≡ (has_path p old || has_path p (path ∷ []))
path_known old path known p = by_test (is_at (path_cmp p) path) refl (has_path p old) refl
  where
    by_test : (a : Bool) → is_at (path_cmp p) path ≡ a → (b : Bool) → has_path p old ≡ b → b ≡ (b || (a || false))
    by_test true e true g = refl
    by_test true e false g =
        absurd (true≢false (sym known ∙ ap (λ x. has_path x old) (sym (same_path p path e)) ∙ g))
    by_test false e true g = refl
    by_test false e false g = refl

pub both_added : (old mid new first second : List PathValue)
    → ((p : PathValue) → has_path p mid ≡ (has_path p old || has_path p first))
    → ((p : PathValue) → has_path p new ≡ (has_path p mid || has_path p second)) → (p : PathValue)
    → has_path p new ≡ (has_path p old || has_path p (first ++ second))
both_added old mid new first second one two p =
    two p ∙ ap (λ b. b || has_path p second) (one p)
    ∙ sym (or_assoc (has_path p old) (has_path p first) (has_path p second))
    ∙ ap (λ b. has_path p old || b) (sym (any_append (is_at (path_cmp p)) first second))

-- the first of two parts is added
pub part_added : (old new first rest : List PathValue) (total : Bool) (p : PathValue)
    → has_path p new ≡ (has_path p old || has_path p first)
    → (has_path p old || has_path p (first ++ rest)) ≡ total → (has_path p new || has_path p rest) ≡ total
part_added old new first rest total p added so_far =
    ap (λ b. b || has_path p rest) added ∙ sym (or_assoc (has_path p old) (has_path p first) (has_path p rest))
    ∙ ap (λ b. has_path p old || b) (sym (any_append (is_at (path_cmp p)) first rest)) ∙ so_far

-- ---- paths below a path

none_passes : (f : PathValue → Bool) (paths : List PathValue)
    → ((q : PathValue) → f q ≡ true → has_path q paths ≡ false) → list_any f paths ≡ false
none_passes f [] none = refl
none_passes f (k ∷ paths) none =
    none_of_both (f k) _ (by_test (f k) refl)
    (none_passes f paths (λ q passes. rest_none (is_at (path_cmp q) k) _ (none q passes)))
  where
    by_test : (b : Bool) → f k ≡ b → b ≡ false
    by_test true e = absurd (true≢false (sym (path_itself k) ∙ first_none (is_at (path_cmp k) k) _ (none k e)))
    by_test false e = refl

one_passes : (f : PathValue → Bool) (paths : List PathValue) (q : PathValue) → has_path q paths ≡ true
    → f q ≡ true → list_any f paths ≡ true
one_passes f paths q has e = by_test (list_any f paths) refl
  where
    by_test : (b : Bool) → list_any f paths ≡ b → b ≡ true
    by_test true g = refl
    by_test false g = absurd (true≢false (sym has ∙ not_among f paths q g e))

not_greater : (o : Ordering) → is_le o ≡ true → is_gt o ≡ false
not_greater orders.Less e = refl
not_greater orders.Equal e = refl
not_greater orders.Greater e = absurd (true≢false (sym e))

less_or_equal : (o : Ordering) → is_gt o ≡ false → is_le o ≡ true
less_or_equal orders.Less e = refl
less_or_equal orders.Equal e = refl
less_or_equal orders.Greater e = absurd (true≢false e)

-- a path that isn't before another
abbrev IsFrom : PathValue → PathValue → Type 0
IsFrom p q = (is_gt (path_cmp p q) ≡ false) × Unit {0}

is_from : (p q : PathValue) → is_some (below p q) ≡ true → IsFrom p q
is_from p q e = (not_greater (path_cmp p q) (path_after p q e), tt)

-- whether a path that may be missing is below another
abbrev pub is_below : PathValue → Option PathValue → Bool
is_below p None = false
is_below p (Some q) = is_some (below p q)

-- the first path from another on decides whether one is below it
pub below_first : (set : BTreeSet PathValue) (p : PathValue) (range : List PathValue) (found : Option (Bor PathValue))
    (rest : List PathValue)
    → IfSome (slice_get range 0) (λ k. IsFrom p k × IsTrue (contains path_cmp set k))
    → ((q : PathValue) → IsFrom p q → IsTrue (contains path_cmp set q)
    → IfSome (slice_get range 0) (λ k. is_gt (path_cmp k q) ≡ false))
    → (range ≡ [] → (q : PathValue) → IsFrom p q → contains path_cmp set q ≡ false)
    → MatchOption found ((range ≡ []) × (rest ≡ [])) (λ x. range ≡ x.now ∷ rest)
    → list_any (λ q. is_some (below p q)) set.keys ≡ is_below p (option_copied found)
below_first set p range None rest first least none steps =
    none_passes (λ q. is_some (below p q)) set.keys (λ q e. none steps.0 q (is_from p q e))
below_first set p range (Some x) rest first least none steps = by_test (is_some (below p x.now)) refl
  where
    head : slice_get range 0 ≡ Some x.now
    head = ap (λ r. slice_get r 0) steps

    at : IsFrom p x.now × IsTrue (contains path_cmp set x.now)
    at = subst (λ o. IfSome o (λ k. IsFrom p k × IsTrue (contains path_cmp set k))) head first

    apart : (q : PathValue) → is_some (below p x.now) ≡ false → is_some (below p q) ≡ true
        → is_gt (path_cmp x.now q) ≡ false → ⊥
    apart q off e le = by_order (path_cmp x.now q) refl le
      where
        by_order : (o : Ordering) → path_cmp x.now q ≡ o → is_gt o ≡ false → ⊥
        by_order orders.Less g le =
            true≢false (sym e
            ∙ apart_from p x.now q (less_or_equal (path_cmp p x.now) at.0.0) off g)
        by_order orders.Equal g le =
            true≢false (sym e ∙ ap (λ k. is_some (below p k)) (sym (path_exact x.now q g)) ∙ off)
        by_order orders.Greater g le = true≢false le

    by_test : (b : Bool) → is_some (below p x.now) ≡ b → list_any (λ q. is_some (below p q)) set.keys ≡ b
    by_test true e = one_passes (λ q. is_some (below p q)) set.keys x.now at.1 e
    by_test false off = none_passes (λ q. is_some (below p q)) set.keys (λ q e. by_key q e (has_path q set.keys) refl)
      where
        by_key : (q : PathValue) → is_some (below p q) ≡ true → (c : Bool) → has_path q set.keys ≡ c → c ≡ false
        by_key q e false h = refl
        by_key q e true h =
            absurd (apart q off e (subst (λ o. IfSome o (λ k. is_gt (path_cmp k q) ≡ false)) head
            (least q (is_from p q e) h)))

pub some_mapped : {A B : Type 0} (f : A → B) (o : Option A) → is_some o ≡ is_some (option_map f o)
some_mapped f None = refl
some_mapped f (Some x) = refl
