-- Objects whose members are put in one after another, as `serde_json` reads them.
use Rattle.std.proofs.Common.{◌≡◌, ℕ, List, Bool, true, false, ◌&&◌, cond, Some, Ordering, Less, Equal}
use Rattle.std.proofs.Common.{Greater, nat_cmp, is_eq, bytes_eq, refl, sym, ap, ◌∙◌}
use Rattle.std.specs.Cmp.Lexicographic.{slice_cmp}
use Rattle.std.specs.Ordering.{match_ordering}
use Rattle.std.proofs.lemmas.Map.Lookups.{exact_bytes}
use Rattle.std.proofs.lemmas.Map.Text.{is_eq-slice_cmp}
use Rattle.std.proofs.lemmas.Slice.Eq.{bytes_eq-Decides}
use Rattle.serde_json.specs.Data.{Data, Members, no_members, member, put}
use Rattle.serde_json.specs.Find.{get_member}
use Rattle.casebook_snapshot_read.specs.Members.{are_keys, is_key}

by_equality : {A : Type 0} (o : Ordering) (x rest : A) → match_ordering o rest x rest ≡ cond (is_eq o) x rest
by_equality Less x rest = refl
by_equality Equal x rest = refl
by_equality Greater x rest = refl

get_first : (l m : List ℕ) (e : Data) (ms : Members)
    → get_member l (member m e ms) ≡ cond (bytes_eq l m) (Some e) (get_member l ms)
get_first l m e ms =
    by_equality (slice_cmp nat_cmp l m) (Some e) (get_member l ms)
    ∙ ap (λ b. cond b (Some e) (get_member l ms)) (is_eq-slice_cmp l m)

once : {A : Type 0} (b : Bool) (x y z : A) → cond b x z ≡ cond b x (cond b y z)
once true x y z = refl
once false x y z = refl

-- two tests that don't hold together
swapped : {A : Type 0} (a b : Bool) (x y z : A) → (a ≡ true → b ≡ true → ⊥) → cond a x (cond b y z) ≡ cond b y (cond a x z)
swapped true true x y z h = absurd (h refl refl)
swapped true false x y z h = refl
swapped false true x y z h = refl
swapped false false x y z h = refl

not_both : (l k m : List ℕ) → slice_cmp nat_cmp k m ≡ Greater → bytes_eq l m ≡ true → bytes_eq l k ≡ true → ⊥
not_both l k m e a b =
    let is_m : l ≡ m = (bytes_eq-Decides l m).0 a in
    let is_k : l ≡ k = (bytes_eq-Decides l k).0 b in
    let same : bytes_eq k m ≡ true = (bytes_eq-Decides k m).1 (sym is_k ∙ is_m) in
    let other : bytes_eq k m ≡ false = sym (is_eq-slice_cmp k m) ∙ ap is_eq e in
    absurd (cc)

-- the last value that was put at a key
pub get_put : (l k : List ℕ) (d : Data) (ms : Members)
    → get_member l (put k d ms) ≡ cond (bytes_eq l k) (Some d) (get_member l ms)
get_put l k d no_members = get_first l k d no_members
get_put l k d (member m e ms) = at (get_put l k d ms) (slice_cmp nat_cmp k m) refl
  where
    at : get_member l (put k d ms) ≡ cond (bytes_eq l k) (Some d) (get_member l ms)
        → (o : Ordering) → slice_cmp nat_cmp k m ≡ o
        → get_member l (match_ordering o (member k d (member m e ms)) (member m d ms) (member m e (put k d ms)))
        ≡ cond (bytes_eq l k) (Some d) (get_member l (member m e ms))
    at rest Less c = get_first l k d (member m e ms)
    at rest Equal c =
        get_first l m d ms ∙ once (bytes_eq l m) (Some d) (Some e) (get_member l ms)
        ∙ ap (λ x. cond (bytes_eq l x) (Some d) (cond (bytes_eq l m) (Some e) (get_member l ms))) (sym (exact_bytes k m c))
        ∙ ap (cond (bytes_eq l k) (Some d)) (sym (get_first l m e ms))
    at rest Greater c =
        get_first l m e (put k d ms) ∙ ap (cond (bytes_eq l m) (Some e)) rest
        ∙ swapped (bytes_eq l m) (bytes_eq l k) (Some e) (Some d) (get_member l ms) (not_both l k m c)
        ∙ ap (cond (bytes_eq l k) (Some d)) (sym (get_first l m e ms))

and_again : (a b : Bool) → (a && b) ≡ a && (a && b)
and_again true b = refl
and_again false b = refl

and_swapped : (a b c : Bool) → a && (b && c) ≡ b && (a && c)
and_swapped true b c = refl
and_swapped false true c = refl
and_swapped false false c = refl

-- a test of all keys
pub keys_put : (k : List ℕ) (d : Data) (ms : Members) → are_keys (put k d ms) ≡ is_key k && are_keys ms
keys_put k d no_members = refl
keys_put k d (member m e ms) = at (keys_put k d ms) (slice_cmp nat_cmp k m) refl
  where
    at : are_keys (put k d ms) ≡ is_key k && are_keys ms
        → (o : Ordering) → slice_cmp nat_cmp k m ≡ o
        → are_keys (match_ordering o (member k d (member m e ms)) (member m d ms) (member m e (put k d ms)))
        ≡ is_key k && are_keys (member m e ms)
    at rest Less c = refl
    at rest Equal c =
        and_again (is_key m) (are_keys ms) ∙ ap (λ x. is_key x && (is_key m && are_keys ms)) (sym (exact_bytes k m c))
    at rest Greater c = ap (λ b. is_key m && b) rest ∙ and_swapped (is_key m) (is_key k) (are_keys ms)
