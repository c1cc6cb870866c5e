-- A map that a loop makes of entries, one by one.
use Rattle.std.proofs.Common.{◌≡◌, ℕ, Bool, true, false, not, ◌&&◌, ◌||◌, List, [], ◌∷◌, ◌++◌, Option, Some, None, refl}
use Rattle.std.proofs.Common.{sym, ap, ap₂, ◌∙◌, append_assoc, append-nil, cond}
use Rattle.std.specs.Prelude.{is_some}
use Rattle.std.specs.List.{list_any}
use Rattle.std.proofs.lemmas.Bool.{and_parts, false≢true}
use Rattle.std.proofs.lemmas.List.Folds.{list_any-append}
use Rattle.std.proofs.lemmas.List.{map-append}
use Rattle.std.specs.declared.cmp.Ordering.{Ordering}
use Rattle.std.specs.BTreeSet.{BTreeSet, contains}
use Rattle.std.specs.Ordering.{eq_by_cmp, is_eq, nat_cmp}
use Rattle.std.specs.Cmp.{IsTotalOrder, eq_by_cmp_equiv, nat_cmp_total}
use Rattle.std.specs.FinMap.{FinMap, IsAntisymmetric, find, contains_key, insert, from_entries, get-from_entries}
use Rattle.std.specs.FinMap.{from_entries_push}
use Rattle.std.specs.FinMap.Entries.{is_some-find}
use Rattle.retro_json.specs.Keyed.{are_distinct, keys_of, map_of}

off : (b : Bool) → not b ≡ true → b ≡ false
off true h = absurd (false≢true h)
off false h = refl

or_off : (a b : Bool) → a ≡ false → b ≡ false → a || b ≡ false
or_off a b h g = rw (h, g) refl

pub none_of : {X : Type 0} (o : Option X) → is_some o ≡ false → o ≡ None
none_of None h = refl
none_of (Some x) h = absurd (false≢true (sym h))

module _ {K : Type 0} {R : K → K → Ordering} (o : IsTotalOrder R) where
  pub differ_push : (ks : List K) (k : K) → are_distinct R ks ≡ true → list_any (eq_by_cmp R k) ks ≡ false
      → are_distinct R (ks ++ k ∷ []) ≡ true
  differ_push [] k h new = refl
  differ_push (x ∷ ks) k h new =
      let parts = and_parts (not (list_any (eq_by_cmp R x) ks)) (are_distinct R ks) h in
      let apart = split (eq_by_cmp R k x) (list_any (eq_by_cmp R k) ks) new in
      let alone : list_any (eq_by_cmp R x) (ks ++ k ∷ []) ≡ false =
      list_any-append (eq_by_cmp R x) ks (k ∷ [])
      ∙ or_off _ _ (off _ parts.0) (or_off _ _ ((eq_by_cmp_equiv o).symm x k ∙ apart.0) refl) in
      rw (alone, differ_push ks k parts.1 apart.1) refl
    where
      split : (a b : Bool) → a || b ≡ false → (a ≡ false) × (b ≡ false)
      split true b h = absurd (false≢true (sym h))
      split false b h = (refl, h)

  pub differ_twice : (ks : List K) (k : K) (rest : List K) → list_any (eq_by_cmp R k) ks ≡ true
      → are_distinct R (ks ++ k ∷ rest) ≡ false
  differ_twice [] k rest h = absurd (false≢true h)
  differ_twice (x ∷ ks) k rest h = at_first (eq_by_cmp R k x) refl (differ_twice ks k rest)
    where
      on : (a b c : Bool) → b ≡ true → a || (b || c) ≡ true
      on true b c e = refl
      on false b c e = rw e refl

      and_off : (a b : Bool) → b ≡ false → a && b ≡ false
      and_off true b e = e
      and_off false b e = refl

      at_first : (b : Bool) → eq_by_cmp R k x ≡ b
          → (list_any (eq_by_cmp R k) ks ≡ true → are_distinct R (ks ++ k ∷ rest) ≡ false)
          → are_distinct R ((x ∷ ks) ++ k ∷ rest) ≡ false
      at_first true e later =
          let here : list_any (eq_by_cmp R x) (ks ++ k ∷ rest) ≡ true =
          list_any-append (eq_by_cmp R x) ks (k ∷ rest) ∙ on _ _ _ ((eq_by_cmp_equiv o).symm x k ∙ e) in
          rw here refl
      at_first false e later = and_off _ _ (later (rw e at h))

-- the entries so far have different keys, and the map is theirs
pub record IsMade {K X : Type 0} {R : K → K → Ordering} (all rest : List (K × X)) (m : FinMap R X) : Type 0 where
  pub done : List (K × X)
  pub parts : done ++ rest ≡ all
  pub is : m ≡ from_entries done
  pub differ : are_distinct R (keys_of done) ≡ true

module _ {K X : Type 0} {R : K → K → Ordering} (o : IsTotalOrder R) (same : IsAntisymmetric R) where
  -- whether a key is among the entries so far
  among : (all rest : List (K × X)) (m : FinMap R X) (made : IsMade all rest m) (k : K)
      → contains_key m k ≡ list_any (eq_by_cmp R k) (keys_of made.done)
  among all rest m made k =
      ap (λ n. contains_key n k) made.is ∙ ap is_some (get-from_entries o made.done k) ∙ is_some-find R k made.done

  pub made_goes_on : (all rest later : List (K × X)) (m new : FinMap R X) (k : K) (v : X) → rest ≡ (k, v) ∷ later
      → contains_key m k ≡ false → new ≡ insert m k v
      → IsMade all rest m → IsMade all later new
  made_goes_on all rest later m new k v is absent inserted made =
      let apart : list_any (eq_by_cmp R k) (keys_of made.done) ≡ false = sym (among all rest m made k) ∙ absent in
      let none : find R k made.done ≡ None = none_of (find R k made.done) (is_some-find R k made.done ∙ apart) in
      record {
        done = made.done ++ (k, v) ∷ [];
        parts = append_assoc made.done ((k, v) ∷ []) later ∙ ap (λ es. made.done ++ es) (sym is) ∙ made.parts;
        is = inserted ∙ ap (λ n. insert n k v) made.is ∙ sym (from_entries_push o same made.done k v none);
        differ =
            rw (map-append (λ (e : K × X). e.0) made.done ((k, v) ∷ [])) (differ_push o (keys_of made.done) k
            made.differ apart);
      }

  pub made_twice : (all rest later : List (K × X)) (m : FinMap R X) (k : K) (v : X) → rest ≡ (k, v) ∷ later
      → contains_key m k ≡ true
      → IsMade all rest m → None ≡ map_of R all
  unfolding map_of
  made_twice all rest later m k v is there made =
      let twice : are_distinct R (keys_of all) ≡ false =
      ap (λ es. are_distinct R (keys_of es)) (sym made.parts ∙ ap (λ es. made.done ++ es) is)
      ∙ ap (are_distinct R) (map-append (λ (e : K × X). e.0) made.done ((k, v) ∷ later))
      ∙ differ_twice o (keys_of made.done) k (keys_of later) (sym (among all rest m made k) ∙ there) in
      rw twice refl

  pub made_whole : (all rest : List (K × X)) (m : FinMap R X) → rest ≡ [] → IsMade all rest m → Some m ≡ map_of R all
  unfolding map_of
  made_whole all rest m is made =
      let whole : made.done ≡ all = sym (append-nil made.done) ∙ ap (λ es. made.done ++ es) (sym is) ∙ made.parts in
      let differ : are_distinct R (keys_of all) ≡ true = ap (λ es. are_distinct R (keys_of es)) (sym whole)
      ∙ made.differ in
      rw (differ, made.is, whole) refl

-- ---- a set that a loop makes of numbers, one by one

-- the numbers so far differ, and the set has them
pub record IsGathered (all rest : List ℕ) (set : BTreeSet ℕ) : Type 0 where
  pub done : List ℕ
  pub parts : done ++ rest ≡ all
  pub has : (n : ℕ) → contains nat_cmp set n ≡ list_any (eq_by_cmp nat_cmp n) done
  pub differ : are_distinct nat_cmp done ≡ true

pub gathering_starts : (all : List ℕ) (set : BTreeSet ℕ) → set.keys ≡ [] → IsGathered all all set
gathering_starts all set none = record {
  done = [];
  parts = refl;
  has = λ n. ap (list_any (λ k. is_eq (nat_cmp n k))) none;
  differ = refl;
}

or_last : (a b : Bool) → cond a true b ≡ b || (a || false)
or_last true true = refl
or_last true false = refl
or_last false true = refl
or_last false false = refl

pub gathering_goes_on : (all rest later : List ℕ) (set new : BTreeSet ℕ) (n : ℕ) → rest ≡ n ∷ later
    → contains nat_cmp set n ≡ false
    → ((q : ℕ) → contains nat_cmp new q ≡ cond (is_eq (nat_cmp n q)) true (contains nat_cmp set q))
    → IsGathered all rest set → IsGathered all later new
gathering_goes_on all rest later set new n is absent added so_far =
    let apart : list_any (eq_by_cmp nat_cmp n) so_far.done ≡ false = sym (so_far.has n) ∙ absent in
    record {
      done = so_far.done ++ n ∷ [];
      parts = append_assoc so_far.done (n ∷ []) later ∙ ap (λ ns. so_far.done ++ ns) (sym is) ∙ so_far.parts;
      has = λ q.
          added q ∙ ap₂ (λ a b. cond a true b) ((eq_by_cmp_equiv nat_cmp_total).symm n q) (so_far.has q)
          ∙ or_last (eq_by_cmp nat_cmp q n) (list_any (eq_by_cmp nat_cmp q) so_far.done)
          ∙ sym (list_any-append (eq_by_cmp nat_cmp q) so_far.done (n ∷ []));
      differ = differ_push nat_cmp_total so_far.done n so_far.differ apart;
    }

pub gathered_twice : (all rest later : List ℕ) (set : BTreeSet ℕ) (n : ℕ) → rest ≡ n ∷ later
    → contains nat_cmp set n ≡ true → IsGathered all rest set → false ≡ are_distinct nat_cmp all
gathered_twice all rest later set n is there so_far =
    sym (ap (are_distinct nat_cmp) (sym so_far.parts ∙ ap (λ ns. so_far.done ++ ns) is)
    ∙ differ_twice nat_cmp_total so_far.done n later (sym (so_far.has n) ∙ there))

pub gathered_all : (all rest : List ℕ) (set : BTreeSet ℕ) → rest ≡ [] → IsGathered all rest set
    → true ≡ are_distinct nat_cmp all
gathered_all all rest set is so_far =
    let whole : so_far.done ≡ all =
    sym (append-nil so_far.done) ∙ ap (λ ns. so_far.done ++ ns) (sym is) ∙ so_far.parts in
    sym so_far.differ ∙ ap (are_distinct nat_cmp) whole
