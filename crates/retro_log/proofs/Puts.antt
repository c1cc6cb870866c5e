-- Objects whose members are put in one after another, as `serde_json` reads them.
use Rattle.std.proofs.Common.{◌≡◌, ℕ, List, Bool, true, false, ◌&&◌, ◌||◌, not, cond, Some, Ordering, Less, Equal}
use Rattle.std.proofs.Common.{Greater, is_some, nat_cmp, is_eq, bytes_eq, refl, sym, ap, ◌∙◌}
use Rattle.std.specs.Cmp.Lexicographic.{slice_cmp}
use Rattle.std.specs.Ordering.{match_ordering}
use Rattle.std.proofs.lemmas.Map.Lookups.{exact_bytes}
use Rattle.std.proofs.lemmas.Map.Text.{is_eq-slice_cmp}
use Rattle.std.proofs.lemmas.Slice.Eq.{bytes_eq-Decides}
use Rattle.serde_json.specs.Data.{Data, Members, no_members, member, put}
use Rattle.serde_json.specs.Find.{get_member}
use Rattle.retro_log.specs.Document.{has_keys}

by_equality : {A : Type 0} (o : Ordering) (x rest : A) → match_ordering o rest x rest ≡ cond (is_eq o) x rest
by_equality Less x rest = refl
by_equality Equal x rest = refl
by_equality Greater x rest = refl

get_first : (l m : List ℕ) (e : Data) (ms : Members)
    → get_member l (member m e ms) ≡ cond (bytes_eq l m) (Some e) (get_member l ms)
get_first l m e ms =
    by_equality (slice_cmp nat_cmp l m) (Some e) (get_member l ms)
    ∙ ap (λ b. cond b (Some e) (get_member l ms)) (is_eq-slice_cmp l m)

-- a key that isn't another, by the test
pub not_key : (k key : List ℕ) → (k ≡ key → ⊥) → bytes_eq k key ≡ false
not_key k key other = at (bytes_eq k key) refl
  where
    at : (same : Bool) → bytes_eq k key ≡ same → bytes_eq k key ≡ false
    at true is = absurd (other ((bytes_eq-Decides k key).0 is))
    at false is = is

once : {A : Type 0} (b : Bool) (x y z : A) → cond b x z ≡ cond b x (cond b y z)
once true x y z = refl
once false x y z = refl

-- two tests that don't hold together
swapped : {A : Type 0} (a b : Bool) (x y z : A) → (a ≡ true → b ≡ true → ⊥) → cond a x (cond b y z) ≡ cond b y (cond a x z)
swapped true true x y z h = absurd (h refl refl)
swapped true false x y z h = refl
swapped false true x y z h = refl
swapped false false x y z h = refl

not_both : (l k m : List ℕ) → slice_cmp nat_cmp k m ≡ Greater → bytes_eq l m ≡ true → bytes_eq l k ≡ true → ⊥
not_both l k m e a b =
    let is_m : l ≡ m = (bytes_eq-Decides l m).0 a in
    let is_k : l ≡ k = (bytes_eq-Decides l k).0 b in
    let same : bytes_eq k m ≡ true = (bytes_eq-Decides k m).1 (sym is_k ∙ is_m) in
    let other : bytes_eq k m ≡ false = sym (is_eq-slice_cmp k m) ∙ ap is_eq e in
    absurd (cc)

-- the last value that was put at a key
pub get_put : (l k : List ℕ) (d : Data) (ms : Members)
    → get_member l (put k d ms) ≡ cond (bytes_eq l k) (Some d) (get_member l ms)
get_put l k d no_members = get_first l k d no_members
get_put l k d (member m e ms) = at (get_put l k d ms) (slice_cmp nat_cmp k m) refl
  where
    at : get_member l (put k d ms) ≡ cond (bytes_eq l k) (Some d) (get_member l ms)
        → (o : Ordering) → slice_cmp nat_cmp k m ≡ o
        → get_member l (match_ordering o (member k d (member m e ms)) (member m d ms) (member m e (put k d ms)))
        ≡ cond (bytes_eq l k) (Some d) (get_member l (member m e ms))
    at rest Less c = get_first l k d (member m e ms)
    at rest Equal c =
        get_first l m d ms ∙ once (bytes_eq l m) (Some d) (Some e) (get_member l ms)
        ∙ ap (λ x. cond (bytes_eq l x) (Some d) (cond (bytes_eq l m) (Some e) (get_member l ms))) (sym (exact_bytes k m c))
        ∙ ap (cond (bytes_eq l k) (Some d)) (sym (get_first l m e ms))
    at rest Greater c =
        get_first l m e (put k d ms) ∙ ap (cond (bytes_eq l m) (Some e)) rest
        ∙ swapped (bytes_eq l m) (bytes_eq l k) (Some e) (Some d) (get_member l ms) (not_both l k m c)
        ∙ ap (cond (bytes_eq l k) (Some d)) (sym (get_first l m e ms))

and_again : (a b : Bool) → (a && b) ≡ a && (a && b)
and_again true b = refl
and_again false b = refl

and_swapped : (a b c : Bool) → a && (b && c) ≡ b && (a && c)
and_swapped true b c = refl
and_swapped false true c = refl
and_swapped false false c = refl

-- a test of all keys
pub keys_put : (p : List ℕ → Bool) (k : List ℕ) (d : Data) (ms : Members)
    → has_keys p (put k d ms) ≡ p k && has_keys p ms
keys_put p k d no_members = refl
keys_put p k d (member m e ms) = at (keys_put p k d ms) (slice_cmp nat_cmp k m) refl
  where
    at : has_keys p (put k d ms) ≡ p k && has_keys p ms
        → (o : Ordering) → slice_cmp nat_cmp k m ≡ o
        → has_keys p (match_ordering o (member k d (member m e ms)) (member m d ms) (member m e (put k d ms)))
        ≡ p k && has_keys p (member m e ms)
    at rest Less c = refl
    at rest Equal c = and_again (p m) (has_keys p ms) ∙ ap (λ x. p x && (p m && has_keys p ms)) (sym (exact_bytes k m c))
    at rest Greater c = ap (λ b. p m && b) rest ∙ and_swapped (p m) (p k) (has_keys p ms)

and_false : (a : Bool) → (a && false) ≡ false
and_false true = refl
and_false false = refl

and_grouped : (a b c : Bool) → a && (b && c) ≡ (a && b) && c
and_grouped true b c = refl
and_grouped false b c = refl

-- an object has only some keys if it has only these and one more, and lacks that one
pub keys_without : (key : List ℕ) (p : List ℕ → Bool) → p key ≡ false → (ms : Members)
    → has_keys p ms ≡ has_keys (λ k. bytes_eq k key || p k) ms && not (is_some (get_member key ms))
keys_without key p refused no_members = refl
keys_without key p refused (member m e ms) =
    at (keys_without key p refused ms) (bytes_eq m key) refl
    ∙ ap (λ o. ((bytes_eq m key || p m) && has_keys (λ k. bytes_eq k key || p k) ms) && not (is_some o))
    (sym (get_first key m e ms))
  where
    at : has_keys p ms ≡ has_keys (λ k. bytes_eq k key || p k) ms && not (is_some (get_member key ms))
        → (b : Bool) → bytes_eq m key ≡ b → p m && has_keys p ms
        ≡ ((b || p m) && has_keys (λ k. bytes_eq k key || p k) ms)
        && not (is_some (cond (bytes_eq key m) (Some e) (get_member key ms)))
    at rest true same =
        let is : m ≡ key = (bytes_eq-Decides m key).0 same in
        let refused_too : p m ≡ false = ap p is ∙ refused in
        let found : bytes_eq key m ≡ true = (bytes_eq-Decides key m).1 (sym is) in
        rw (refused_too, found) (sym (and_false (has_keys (λ k. bytes_eq k key || p k) ms)))
    at rest false other =
        let apart : bytes_eq key m ≡ false =
        not_key key m (λ is. let same : bytes_eq m key ≡ true = (bytes_eq-Decides m key).1 (sym is) in absurd (cc)) in
        rw apart (ap (λ b. p m && b) rest ∙ and_grouped (p m) (has_keys (λ k. bytes_eq k key || p k) ms)
        (not (is_some (get_member key ms))))
