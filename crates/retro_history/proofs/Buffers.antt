-- A buffer that gets more bytes keeps the values that are in it.
use Rattle.std.proofs.Common.{◌≡◌, ℕ, ◌+◌, ◌-◌, ◌<◌, ◌≤◌, List, [], ◌∷◌, ◌++◌, map, refl, ap, sym, ◌∙◌, arith, zero}
use Rattle.std.proofs.Common.{suc}
use Rattle.std.proofs.Common.{take, drop, length, get_or, length-take, subst}
use Rattle.std.proofs.lemmas.List.{take-take, drop-take}
use Rattle.retro_tree.specs.declared.value.Value.{Value}
use Rattle.retro_tree.specs.declared.value.Value.TheVariants as values
use Rattle.retro_tree.specs.declared.node.Node.TheVariants as nodes
use Rattle.retro_tree.specs.Change.{value_grown}
use Rattle.retro_tree.specs.declared.value_ref.ValueRef.{ValueRef}
use Rattle.retro_history.specs.inner.Tracks.{TrackValue, version_grown}
use Rattle.retro_history.specs.inner.Version.{place_value, version_value, IsWithin, EndsAt}
use Rattle.retro_history.specs.inner.Version.{AreWithin, RangesFit}
use Rattle.retro_history.specs.declared.place.ValuePlace.{ValuePlace}
use Rattle.retro_history.specs.declared.place.ValuePlace.TheVariants.{Borrowed, Buffer}
use Rattle.retro_history.specs.declared.version.Version.{Version}

pub end_within : (n : ℕ) (s : ValuePlace) → EndsAt n s → IsWithin n s
end_within n (Borrowed v) h = tt
end_within n (Buffer span) h = (h.0, omega (arith, h.1))

within_more : (n m : ℕ) (s : ValuePlace) → n ≤ m → IsWithin n s → IsWithin m s
within_more n m (Borrowed v) le h = tt
within_more n m (Buffer span) le h = (h.0, omega (arith, h.1))

pub all_within_more : (n m : ℕ) (vs : List Version) → n ≤ m → AreWithin n vs → AreWithin m vs
all_within_more n m [] le h = tt
all_within_more n m (v ∷ vs) le h = (within_more n m v.place le h.0, all_within_more n m vs le h.1)

pub within_push : (n : ℕ) (vs : List Version) (v : Version) → AreWithin n vs → IsWithin n v.place
    → AreWithin n (vs ++ v ∷ [])
within_push n [] v h k = (k, tt)
within_push n (w ∷ vs) v h k = (h.0, within_push n vs v h.1 k)

pub within_at : (n : ℕ) (vs : List Version) (i : ℕ) (d : Version) → AreWithin n vs → i < length vs
    → IsWithin n (get_or vs i d).place
within_at n [] i d h lt = absurd (omega (arith, lt))
within_at n (v ∷ vs) zero d h lt = h.0
within_at n (v ∷ vs) (suc i) d h lt = within_at n vs i d h.1 (omega (arith, lt))

-- a range within the old bytes
range_kept : (old new : List ℕ) (s e : ℕ) → take (length old) new ≡ old → s ≤ e → e ≤ length old
    → take (e - s) (drop s new) ≡ take (e - s) (drop s old)
range_kept old new s e kept le within =
    let rest : ℕ = length old - s in
    let whole : s + rest ≡ length old = omega (arith, le, within) in
    sym (take-take (e - s) rest (drop s new) (omega (arith, le, within)))
    ∙ ap (take (e - s))
    (sym (drop-take s rest new) ∙ ap (λ n. drop s (take n new)) whole ∙ ap (drop s) kept)

pub value_kept : (old new : List ℕ) (s : ValuePlace) → take (length old) new ≡ old → IsWithin (length old) s
    → place_value new s ≡ place_value old s
value_kept old new (Borrowed v) kept h = refl
value_kept old new (Buffer span) kept h =
    ap (λ bytes. values.Node (nodes.File bytes)) (range_kept old new span.start span.end kept h.0 h.1)

pub version_kept : (old new : List ℕ) (v : Version) → take (length old) new ≡ old → IsWithin (length old) v.place
    → version_value new v ≡ version_value old v
version_kept old new v kept h =
    ap (λ (x : Value). record { number = v.number; checkpoint = v.checkpoint; growths = v.growths; value = x })
    (value_kept old new v.place kept h)

pub versions_kept : (old new : List ℕ) (vs : List Version) → take (length old) new ≡ old → AreWithin (length old) vs
    → map (version_value new) vs ≡ map (version_value old) vs
versions_kept old new [] kept h = refl
versions_kept old new (v ∷ vs) kept h =
    λ i. version_kept old new v kept h.0 i ∷ versions_kept old new vs kept h.1 i

-- ---- what the code keeps
kept_longer : (old new : List ℕ) → take (length old) new ≡ old → length old ≤ length new
kept_longer old new kept = omega (arith, length-take (length old) new, ap length kept)

-- a version pushed, and another one made the last
pub pushed_fits : (es more : List Version) (last next : Version) (buffer : List ℕ) → RangesFit es last buffer
    → more ≡ es ++ last ∷ [] → EndsAt (length buffer) next.place → RangesFit more next buffer
pushed_fits es more last next buffer h is end = record {
  earlier = subst (AreWithin (length buffer)) (sym is)
      (within_push (length buffer) es last h.earlier (end_within (length buffer) last.place h.last));
  last = end;
}

-- the last version replaced, over a buffer that got more bytes
pub extended_fits : (es : List Version) (last next : Version) (old new : List ℕ) → RangesFit es last old
    → take (length old) new ≡ old → EndsAt (length new) next.place → RangesFit es next new
extended_fits es last next old new h kept end = record {
  earlier = all_within_more (length old) (length new) es (kept_longer old new kept) h.earlier;
  last = end;
}

-- a whole value as a version
abbrev pub whole_of : ℕ → ValueRef → Version
whole_of n v = record { number = n; checkpoint = n; growths = 0; place = Borrowed v }

pub whole_fits : (es : List Version) (last : Version) (buffer : List ℕ) (n : ℕ) (v : ValueRef)
    → RangesFit es last buffer → RangesFit es (whole_of n v) buffer
whole_fits es last buffer n v h = record { earlier = h.earlier; last = tt }

-- a version with its value at another place
abbrev pub with_place : ValuePlace → Version → Version
with_place s v = record { number = v.number; checkpoint = v.checkpoint; growths = v.growths; place = s }

-- the versions after the last one is extended
pub extended_track : (es : List Version) (last : Version) (s : ValuePlace) (old new more : List ℕ)
    → RangesFit es last old → take (length old) new ≡ old
    → place_value new s ≡ value_grown more (place_value old last.place)
    → ◌≡◌ {A = TrackValue}
    (record { earlier = map (version_value new) es; last = version_value new (with_place s last) })
    (record { earlier = map (version_value old) es; last = version_grown more (version_value old last) })
extended_track es last s old new more h kept is = λ i. record {
  earlier = versions_kept old new es kept h.earlier i;
  last = record {
    number = last.number;
    checkpoint = last.checkpoint;
    growths = last.growths;
    value = is i;
  };
}
