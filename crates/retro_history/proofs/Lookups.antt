-- A search by halves finds the last version below a number.
use Rattle.std.proofs.Common.{◌≡◌, ℕ, Bool, true, false, ◌-◌, ◌<◌, ◌≤◌, List, [], ◌∷◌, ◌++◌, map, Option, Some, None}
use Rattle.std.proofs.Common.{nat_lt, refl, ap, ◌∙◌, if◌then◌else◌, arith, length, get_or, zero, suc}
use Rattle.std.specs.List.Sorted.{IsPartitionedBy, IsPartitionPoint}
use Rattle.std.proofs.lemmas.Bool.Decides.{nat_tests}
use Rattle.retro_history.specs.inner.Tracks.{VersionValue, TrackValue, RiseFrom, last_below}
use Rattle.retro_history.specs.inner.Tracks.{version_below}
use Rattle.retro_history.specs.inner.Version.{version_value}
use Rattle.retro_history.specs.declared.version.Version.{Version}

pub below_append : (n : ℕ) (found : Option VersionValue) (vs : List VersionValue) (v : VersionValue)
    → last_below n found (vs ++ v ∷ []) ≡ (if nat_lt v.number n then Some v else last_below n found vs)
below_append n found [] v = refl
below_append n found (w ∷ vs) v = below_append n (if nat_lt w.number n then Some w else found) vs v

module _ (buffer : List ℕ) (n : ℕ) where
  abbrev pub is_below : Version → Bool
  is_below v = nat_lt v.number n

  at_least : (low : ℕ) (vs : List Version) (last : VersionValue)
      → RiseFrom low (map (version_value buffer) vs ++ last ∷ []) → (i : ℕ) (d : Version) → i < length vs
      → low ≤ (get_or vs i d).number
  at_least low [] last rise i d lt = absurd (omega (arith, lt))
  at_least low (v ∷ vs) last rise zero d lt = rise.0
  at_least low (v ∷ vs) last rise (suc i) d lt =
      let rest = at_least v.number vs last rise.1 i d (omega (arith, lt)) in
      omega (arith, rest, rise.0)

  ordered : (low : ℕ) (vs : List Version) (last : VersionValue)
      → RiseFrom low (map (version_value buffer) vs ++ last ∷ []) → (i j : ℕ) (d : Version) → i ≤ j → j < length vs
      → (get_or vs i d).number ≤ (get_or vs j d).number
  ordered low [] last rise i j d le lt = absurd (omega (arith, lt))
  ordered low (v ∷ vs) last rise zero zero d le lt = omega arith
  ordered low (v ∷ vs) last rise zero (suc j) d le lt = at_least v.number vs last rise.1 j d (omega (arith, lt))
  ordered low (v ∷ vs) last rise (suc i) zero d le lt = absurd (omega (arith, le))
  ordered low (v ∷ vs) last rise (suc i) (suc j) d le lt =
      ordered v.number vs last rise.1 i j d (omega (arith, le)) (omega (arith, lt))

  -- the versions below n come first
  pub partitioned : (low : ℕ) (vs : List Version) (last : VersionValue)
      → RiseFrom low (map (version_value buffer) vs ++ last ∷ []) → IsPartitionedBy is_below vs
  partitioned low vs last rise i j d le lt is =
      let rise = ordered low vs last rise i j d le lt in
      grind (arith, nat_tests)

  abbrev pub found_at : Option VersionValue → List Version → ℕ → Version → Option VersionValue
  found_at found vs zero d = found
  found_at found vs (suc i) d = Some (version_value buffer (get_or vs i d))

  -- the last one below n is the one before the point
  pub found_before : (found : Option VersionValue) (vs : List Version) (i : ℕ) (d : Version) → i ≤ length vs
      → IsPartitionPoint (λ v. is_below v ≡ true) (λ v. is_below v ≡ false) vs i
      → last_below n found (map (version_value buffer) vs) ≡ found_at found vs i d
  found_before found [] zero d le point = refl
  found_before found [] (suc i) d le point = absurd (omega (arith, le))
  found_before found (v ∷ vs) zero d le point =
      ap (λ (b : Bool). last_below n (if b then Some (version_value buffer v) else found)
      (map (version_value buffer) vs)) (point.1 0 d (omega arith) (omega arith))
      ∙ found_before found vs zero d (omega arith) (
        λ k e low high. absurd (omega (arith, high)),
        λ k e low high. point.1 (suc k) e (omega arith) (omega (arith, high)),
      )
  found_before found (v ∷ vs) (suc i) d le point =
      ap (λ (b : Bool). last_below n (if b then Some (version_value buffer v) else found)
      (map (version_value buffer) vs)) (point.0 0 d (omega arith) (omega arith))
      ∙ found_before (Some (version_value buffer v)) vs i d (omega (arith, le)) (
        λ k e low high. point.0 (suc k) e (omega arith) (omega (arith, high)),
        λ k e low high. point.1 (suc k) e (omega (arith, low)) (omega (arith, high)),
      )
      ∙ shifted i
    where
      shifted : (i : ℕ) → found_at (Some (version_value buffer v)) vs i d
          ≡ Some (version_value buffer (get_or (v ∷ vs) i d))
      shifted zero = refl
      shifted (suc i) = refl

  -- the versions of a track
  abbrev pub track_of_code : List Version → Version → TrackValue
  track_of_code earlier last =
      record { earlier = map (version_value buffer) earlier; last = version_value buffer last }

  -- the last version, if it is below n
  pub last_found : (earlier : List Version) (last : Version) → last.number < n
      → version_below n (track_of_code earlier last) ≡ Some (version_value buffer last)
  last_found earlier last lt =
      let yes : nat_lt last.number n ≡ true = grind (arith, nat_tests) in
      below_append n None (map (version_value buffer) earlier) (version_value buffer last)
      ∙ ap (λ (b : Bool). if b then Some (version_value buffer last)
      else last_below n None (map (version_value buffer) earlier)) yes

  -- else one of those before it
  pub earlier_found : (earlier : List Version) (last : Version) → n ≤ last.number → (i : ℕ) (d : Version)
      → i ≤ length earlier → IsPartitionPoint (λ v. is_below v ≡ true) (λ v. is_below v ≡ false) earlier i
      → version_below n (track_of_code earlier last) ≡ found_at None earlier i d
  earlier_found earlier last le i d bound point =
      let past : nat_lt last.number n ≡ false = grind (arith, nat_tests) in
      below_append n None (map (version_value buffer) earlier) (version_value buffer last)
      ∙ ap (λ (b : Bool). if b then Some (version_value buffer last)
      else last_below n None (map (version_value buffer) earlier)) past
      ∙ found_before None earlier i d bound point

  pub found_after : (earlier : List Version) (i : ℕ) (d : Version) → (i ≡ 0 → ⊥)
      → found_at None earlier i d ≡ Some (version_value buffer (get_or earlier (i - 1) d))
  found_after earlier zero d some = absurd (some refl)
  found_after earlier (suc i) d some =
      ap (λ k. Some (version_value buffer (get_or earlier k d))) (omega arith)
