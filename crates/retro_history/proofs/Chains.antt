-- The versions of a cell are a chain, in which numbers rise.
use Rattle.std.proofs.Common.{◌≡◌, ℕ, Bool, true, false, ◌==◌, ◌+◌, ◌<◌, ◌≤◌, List, [], ◌∷◌, ◌++◌, map, Option, Some}
use Rattle.std.proofs.Common.{None}
use Rattle.std.proofs.Common.{nat_lt, refl, ap, sym, ◌∙◌, if◌then◌else◌, IsTrue, arith, append_assoc, zero, suc}
use Rattle.std.specs.Option.{unwrap_or}
use Rattle.std.proofs.lemmas.Bool.{ne_eqb, ltb-true}
use Rattle.std.proofs.lemmas.Bool.Decides.{nat_tests}
use Rattle.retro_tree.specs.Notes.{changes, effects}
use Rattle.retro_tree.specs.declared.cell.Cell.{Cell}
use Rattle.retro_tree.proofs.Small.{first_true, both_true}
use Rattle.retro_keep.specs.Script.{rises_from}
use Rattle.retro_keep.specs.Recording.{number_in}
use Rattle.retro_keep.specs.declared.noted.Noted.{Noted}
use Rattle.retro_keep.specs.Recorded.{lines_below}
use Rattle.retro_history.specs.Versions.{is_growth}
use Rattle.retro_history.specs.inner.Tracks.{TrackValue, VersionValue, whole_version, tracked}
use Rattle.retro_history.specs.inner.Tracks.{version_made}
use Rattle.retro_history.specs.inner.Tracks.{version_after, current, version_chain, all_versions}
use Rattle.retro_history.specs.inner.Tracks.{last_below}
use Rattle.retro_history.specs.inner.Tracks.{RiseFrom}
use Rattle.retro_history.proofs.LineVersions.{track_of_line, line_noted}

abbrev pub Lines : Type 0
Lines = List (ℕ × Noted)

-- the numbers of lines rise from a number on
abbrev pub Rise : ℕ → Lines → Type 0
Rise n lines = IsTrue (rises_from n (map number_in lines))

pub above : (n : ℕ) (l : ℕ × Noted) (lines : Lines) → Rise n (l ∷ lines) → n < l.0
above n l lines rise = ltb-true n l.0 (first_true (nat_lt n l.0) _ rise)

pub later : (n : ℕ) (l : ℕ × Noted) (lines : Lines) → Rise n (l ∷ lines) → Rise l.0 lines
later n l lines rise = both_true (nat_lt n l.0) _ rise

pub not_below : (k n : ℕ) → n ≤ k → nat_lt k n ≡ false
not_below k n h = grind (arith, nat_tests)

-- no line from n on is below n
pub none_below : (n low : ℕ) (lines : Lines) → n ≤ low → Rise low lines → lines_below n lines ≡ []
none_below n low [] h rise = refl
none_below n low (l ∷ lines) h rise =
    let up = above low l lines rise in
    let past : nat_lt l.0 n ≡ false = not_below l.0 n (omega (arith, up)) in
    ap (λ (b : Bool). if b then l ∷ lines_below n lines else lines_below n lines) past
    ∙ none_below n l.0 lines (omega (arith, up)) (later low l lines rise)

-- the number of a version that a line makes is the line's
pub number_made : (c : Cell) (l : ℕ × Noted) (v : VersionValue) → (version_made c l.0 l.1.notes v).number ≡ l.0
number_made c l v = go (is_growth v.growths l.1.notes c)
  where
    go : (b : Bool) → (if b then record {
      number = l.0;
      checkpoint = v.checkpoint;
      growths = v.growths + 1;
      value = effects l.1.notes c v.value;
    } else whole_version l.0 (effects l.1.notes c v.value)).number ≡ l.0
    go true = refl
    go false = refl

-- a version after a line is at most the line's
number_after : (c : Cell) (l : ℕ × Noted) (v : VersionValue) → v.number ≤ l.0 → (version_after c l v).number ≤ l.0
number_after c l v h = go (changes l.1.notes c)
  where
    go : (b : Bool) → (if b then version_made c l.0 l.1.notes v else v).number ≤ l.0
    go true = omega (arith, number_made c l v)
    go false = h

-- the versions that lines make are the chain from the last version on
module _ (c : Cell) where
  pub chained : (low : ℕ) (lines : Lines) (t : TrackValue) → t.last.number ≤ low → Rise low lines
      → all_versions (tracked c lines t) ≡ t.earlier ++ version_chain c lines t.last
  chained low [] t h rise = refl
  chained low (l ∷ lines) t h rise =
      let up = above low l lines rise in
      let apart : (t.last.number == l.0) ≡ false = ne_eqb t.last.number l.0 (λ e. omega (arith, up, e)) in
      ap (λ (u : TrackValue). all_versions (tracked c lines u)) (line_noted c l.0 t apart l.1.notes)
      ∙ go (changes l.1.notes c)
      (λ (u : TrackValue) (k : u.last.number ≤ l.0). chained l.0 lines u k (later low l lines rise))
      (omega (arith, up))
    where
      go : (b : Bool)
          → ((u : TrackValue) → u.last.number ≤ l.0
          → all_versions (tracked c lines u) ≡ u.earlier ++ version_chain c lines u.last)
          → t.last.number ≤ l.0
          → all_versions (tracked c lines (if b then track_of_line c l.0 l.1.notes t else t))
          ≡ t.earlier ++ ((if b then t.last ∷ [] else [])
          ++ version_chain c lines (if b then version_made c l.0 l.1.notes t.last else t.last))
      go true rest k = rest (track_of_line c l.0 l.1.notes t) (omega (arith, number_made c l t.last))
          ∙ append_assoc t.earlier (t.last ∷ []) (version_chain c lines (version_made c l.0 l.1.notes t.last))
      go false rest k = rest t k

  -- the numbers of the chain rise
  pub chain_rises : (from low : ℕ) (lines : Lines) (v : VersionValue) → from ≤ v.number → v.number ≤ low
      → Rise low lines → RiseFrom from (version_chain c lines v)
  chain_rises from low [] v g h rise = (g, tt)
  chain_rises from low (l ∷ lines) v g h rise =
      let up = above low l lines rise in
      go (changes l.1.notes c)
      (λ (a : ℕ) (w : VersionValue) (p : a ≤ w.number) (q : w.number ≤ l.0).
      chain_rises a l.0 lines w p q (later low l lines rise))
      (omega (arith, up))
    where
      go : (b : Bool)
          → ((a : ℕ) (w : VersionValue) → a ≤ w.number → w.number ≤ l.0 → RiseFrom a (version_chain c lines w))
          → v.number ≤ l.0
          → RiseFrom from ((if b then v ∷ [] else [])
          ++ version_chain c lines (if b then version_made c l.0 l.1.notes v else v))
      go true rest k = (
        g,
        rest v.number (version_made c l.0 l.1.notes v)
            (omega (arith, number_made c l v)) (omega (arith, number_made c l v)),
      )
      go false rest k = rest from v g k

  -- no version from n on is found below n
  late : (n low : ℕ) (found : Option VersionValue) (lines : Lines) (v : VersionValue) → n ≤ v.number
      → v.number ≤ low → Rise low lines → last_below n found (version_chain c lines v) ≡ found
  late n low found lines v g h rise =
      none_found n n found (version_chain c lines v) (omega arith) (chain_rises n low lines v g h rise)
    where
      none_found : (n from : ℕ) (found : Option VersionValue) (vs : List VersionValue) → n ≤ from → RiseFrom from vs
          → last_below n found vs ≡ found
      none_found n from found [] g h = refl
      none_found n from found (v ∷ vs) g h =
          ap (λ (b : Bool). last_below n (if b then Some v else found) vs)
          (not_below v.number n (omega (arith, h.0)))
          ∙ none_found n v.number found vs (omega (arith, h.0)) h.1

  -- the last version below n is the current one after the lines below n
  found_below : (n low : ℕ) (found : Option VersionValue) (lines : Lines) (v : VersionValue) → v.number < n
      → v.number ≤ low → Rise low lines
      → last_below n found (version_chain c lines v) ≡ Some (current c (lines_below n lines) v)
  found_below n low found [] v g h rise =
      let yes : nat_lt v.number n ≡ true = grind (arith, nat_tests) in
      ap (λ (b : Bool). if b then Some v else found) yes
  found_below n low found (l ∷ lines) v g h rise =
      let up = above low l lines rise in
      let on = later low l lines rise in
      let rest = λ (o : Option VersionValue) (w : VersionValue) (p : w.number < n) (q : w.number ≤ l.0).
      found_below n l.0 o lines w p q on in
      by_number (nat_lt l.0 n) refl rest (omega (arith, up)) on
    where
      Rest : Type 0
      Rest = (o : Option VersionValue) (w : VersionValue) → w.number < n → w.number ≤ l.0
          → last_below n o (version_chain c lines w) ≡ Some (current c (lines_below n lines) w)

      earlier_line : l.0 < n → Rest → v.number ≤ l.0 → (b : Bool)
          → last_below n found ((if b then v ∷ [] else [])
          ++ version_chain c lines (if b then version_made c l.0 l.1.notes v else v))
          ≡ Some (current c (lines_below n lines) (if b then version_made c l.0 l.1.notes v else v))
      earlier_line lt rest k true =
          rest (if nat_lt v.number n then Some v else found) (version_made c l.0 l.1.notes v)
          (omega (arith, number_made c l v)) (omega (arith, number_made c l v))
      earlier_line lt rest k false = rest found v g k

      later_line : n ≤ l.0 → Rest → v.number ≤ l.0 → Rise l.0 lines → (b : Bool)
          → last_below n found ((if b then v ∷ [] else [])
          ++ version_chain c lines (if b then version_made c l.0 l.1.notes v else v))
          ≡ Some (current c (lines_below n lines) v)
      later_line le rest k on true =
          let yes : nat_lt v.number n ≡ true = grind (arith, nat_tests) in
          ap (λ (b : Bool). last_below n (if b then Some v else found)
          (version_chain c lines (version_made c l.0 l.1.notes v))) yes
          ∙ late n l.0 (Some v) lines (version_made c l.0 l.1.notes v) (omega (arith, number_made c l v))
          (omega (arith, number_made c l v)) on
          ∙ sym (ap (λ (x : Lines). Some (current c x v)) (none_below n l.0 lines le on))
      later_line le rest k on false = rest found v g k

      by_number : (below : Bool) → nat_lt l.0 n ≡ below → Rest → v.number ≤ l.0 → Rise l.0 lines
          → last_below n found (version_chain c (l ∷ lines) v)
          ≡ Some (current c (if below then l ∷ lines_below n lines else lines_below n lines) v)
      by_number true e rest k on = earlier_line (ltb-true l.0 n e) rest k (changes l.1.notes c)
      by_number false e rest k on = later_line (grind (arith, nat_tests)) rest k on (changes l.1.notes c)

  -- the version that a look-up finds, or the first one
  pub looked_up : (n : ℕ) (lines : Lines) (v : VersionValue) → v.number ≡ 0 → Rise 0 lines
      → unwrap_or (last_below n None (version_chain c lines v)) v ≡ current c (lines_below n lines) v
  looked_up zero lines v e rise =
      ap (λ (o : Option VersionValue). unwrap_or o v) (late 0 0 None lines v (omega arith) (omega (arith, e)) rise)
      ∙ sym (ap (λ (x : Lines). current c x v) (none_below 0 0 lines (omega arith) rise))
  looked_up (suc n) lines v e rise =
      ap (λ (o : Option VersionValue). unwrap_or o v)
      (found_below (suc n) 0 None lines v (omega (arith, e)) (omega (arith, e)) rise)
