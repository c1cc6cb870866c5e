-- The checkpoints of a cell: the checkpoint of the current version is the last one.
use Rattle.std.proofs.Common.{◌≡◌, ℕ, Bool, true, false, ◌==◌, ◌+◌, ◌<◌, ◌≤◌, List, [], ◌∷◌, ◌++◌, map}
use Rattle.std.proofs.Common.{IsTrue, subst, nat_lt, refl, ap, sym, ◌∙◌, if◌then◌else◌, arith, max}
use Rattle.std.specs.List.{filter}
use Rattle.std.specs.Option.{unwrap_or}
use Rattle.std.proofs.lemmas.Bool.{ne_eqb}
use Rattle.std.proofs.lemmas.Bool.Decides.{nat_tests}
use Rattle.retro_tree.specs.Notes.{changes, effects}
use Rattle.retro_tree.specs.declared.cell.Cell.{Cell}
use Rattle.retro_tree.proofs.Small.{and_true}
use Rattle.retro_keep.specs.Script.{rises_from}
use Rattle.retro_keep.specs.declared.noted.Noted.{Noted}
use Rattle.retro_keep.specs.Recorded.{lines_below}
use Rattle.retro_history.specs.Versions.{Version, Content, whole, growth, growth_in, is_growth}
use Rattle.retro_history.specs.Versions.{content_by, is_checkpoint}
use Rattle.retro_history.specs.Versions.{greatest_below}
use Rattle.retro_history.specs.inner.Tracks.{VersionValue, whole_version, version_made, current}
use Rattle.retro_history.specs.inner.Tracks.{version_chain, is_whole_version, checkpoint_numbers}
use Rattle.retro_history.proofs.Chains.{Lines, Rise, above, later, not_below, none_below}
use Rattle.retro_history.proofs.Rule.{versions_from, versions_split}

module _ (c : Cell) where
  -- ---- checkpoints
  abbrev pub numbers_of : List Version → List ℕ
  numbers_of vs = map (λ v. v.0) (filter is_checkpoint vs)

  abbrev pub own_number : VersionValue → List ℕ
  own_number v = if v.growths == 0 then v.number ∷ [] else []

  own_first : (v : VersionValue) (vs : List VersionValue) → checkpoint_numbers (v ∷ vs)
      ≡ own_number v ++ checkpoint_numbers vs
  own_first v vs = go (v.growths == 0)
    where
      go : (b : Bool) → map (λ (w : VersionValue). w.number)
          (if b then v ∷ filter is_whole_version vs else filter is_whole_version vs)
          ≡ (if b then v.number ∷ [] else []) ++ checkpoint_numbers vs
      go true = refl
      go false = refl

  -- the version that a line makes is a checkpoint exactly if the rule says so
  made_number : (l : ℕ × Noted) (v : VersionValue) (vs : List Version)
      → own_number (version_made c l.0 l.1.notes v) ++ numbers_of vs
      ≡ numbers_of ((l.0, content_by v.growths v.value l.1.notes c) ∷ vs)
  made_number l v vs = go (is_growth v.growths l.1.notes c) (ne_eqb (v.growths + 1) 0 (λ e. omega (arith, e)))
    where
      go : (b : Bool) → (v.growths + 1 == 0) ≡ false
          → own_number (if b then record {
            number = l.0;
            checkpoint = v.checkpoint;
            growths = v.growths + 1;
            value = effects l.1.notes c v.value;
          } else whole_version l.0 (effects l.1.notes c v.value)) ++ numbers_of vs
          ≡ numbers_of ((
            l.0,
            (if b then growth (unwrap_or (growth_in l.1.notes c) [])
                else whole (effects l.1.notes c v.value)),
          ) ∷ vs)
      go true more = ap (λ (b : Bool). (if b then l.0 ∷ [] else []) ++ numbers_of vs) more
      go false more = refl

  -- the checkpoints of the chain are those of the rule
  pub chain_checkpoints : (lines : Lines) (v : VersionValue) → checkpoint_numbers (version_chain c lines v)
      ≡ own_number v ++ numbers_of (versions_from c v lines)
  chain_checkpoints [] v = own_first v []
  chain_checkpoints (l ∷ lines) v =
      go (changes l.1.notes c) (λ (w : VersionValue). chain_checkpoints lines w)
      ∙ ap (λ vs. own_number v ++ numbers_of vs) (sym (versions_split c l lines v (changes l.1.notes c) refl))
    where
      go : (b : Bool)
          → ((w : VersionValue) → checkpoint_numbers (version_chain c lines w)
          ≡ own_number w ++ numbers_of (versions_from c w lines))
          → checkpoint_numbers ((if b then v ∷ [] else [])
          ++ version_chain c lines (if b then version_made c l.0 l.1.notes v else v))
          ≡ own_number v ++ numbers_of (if b then (l.0, content_by v.growths v.value l.1.notes c)
          ∷ versions_from c (version_made c l.0 l.1.notes v) lines else versions_from c v lines)
      go true rest =
          own_first v (version_chain c lines (version_made c l.0 l.1.notes v))
          ∙ ap (λ ns. own_number v ++ ns) (rest (version_made c l.0 l.1.notes v)
          ∙ made_number l v (versions_from c (version_made c l.0 l.1.notes v) lines))
      go false rest = rest v

  -- ---- the greatest checkpoint below a number
  abbrev greatest : ℕ → Lines → VersionValue → ℕ
  greatest n lines v = greatest_below n (numbers_of (versions_from c v lines))

  -- a version that isn't below n adds nothing to the greatest checkpoint below n
  not_counted : (n k : ℕ) (content : Content) (vs : List Version) → nat_lt k n ≡ false
      → greatest_below n (numbers_of ((k, content) ∷ vs)) ≡ greatest_below n (numbers_of vs)
  not_counted n k (growth bytes) vs past = refl
  not_counted n k (whole v) vs past =
      ap (λ (b : Bool). max (if b then k else 0) (greatest_below n (numbers_of vs))) past
      ∙ omega arith

  greatest_late : (n low : ℕ) (lines : Lines) (v : VersionValue) → n ≤ low → Rise low lines → greatest n lines v ≡ 0
  greatest_late n low [] v h rise = refl
  greatest_late n low (l ∷ lines) v h rise =
      let up = above low l lines rise in
      ap (λ vs. greatest_below n (numbers_of vs)) (versions_split c l lines v (changes l.1.notes c) refl)
      ∙ go (changes l.1.notes c) (not_below l.0 n (omega (arith, up)))
      (λ (w : VersionValue). greatest_late n l.0 lines w (omega (arith, up)) (later low l lines rise))
    where
      go : (b : Bool) → nat_lt l.0 n ≡ false → ((w : VersionValue) → greatest n lines w ≡ 0)
          → greatest_below n (numbers_of (if b then (l.0, content_by v.growths v.value l.1.notes c)
          ∷ versions_from c (version_made c l.0 l.1.notes v) lines else versions_from c v lines)) ≡ 0
      go true past rest =
          not_counted n l.0 (content_by v.growths v.value l.1.notes c)
          (versions_from c (version_made c l.0 l.1.notes v) lines) past
          ∙ rest (version_made c l.0 l.1.notes v)
      go false past rest = rest v

  -- a version below n that a line makes: its checkpoint counts if it is one
  counted : (n : ℕ) (l : ℕ × Noted) (v : VersionValue) (vs : List Version) (m : ℕ) → v.checkpoint ≤ l.0
      → nat_lt l.0 n ≡ true
      → max (version_made c l.0 l.1.notes v).checkpoint (greatest_below n (numbers_of vs)) ≡ m
      → max v.checkpoint
      (greatest_below n (numbers_of ((l.0, content_by v.growths v.value l.1.notes c) ∷ vs))) ≡ m
  counted n l v vs m h f = go (is_growth v.growths l.1.notes c)
    where
      go : (b : Bool) → max (if b then record {
        number = l.0;
        checkpoint = v.checkpoint;
        growths = v.growths + 1;
        value = effects l.1.notes c v.value;
      } else whole_version l.0 (effects l.1.notes c v.value)).checkpoint (greatest_below n (numbers_of vs)) ≡ m
          → max v.checkpoint (greatest_below n (numbers_of ((
            l.0,
            (if b
                then growth (unwrap_or (growth_in l.1.notes c) []) else whole (effects l.1.notes c v.value)),
          ) ∷ vs))) ≡ m
      go true e = e
      go false e =
          ap (λ (b : Bool). max v.checkpoint (max (if b then l.0 else 0) (greatest_below n (numbers_of vs)))) f
          ∙ omega (arith, e, h)

  made_checkpoint : (l : ℕ × Noted) (v : VersionValue) → v.checkpoint ≤ l.0
      → (version_made c l.0 l.1.notes v).checkpoint ≤ l.0
  made_checkpoint l v h = go (is_growth v.growths l.1.notes c)
    where
      go : (b : Bool) → (if b then record {
        number = l.0;
        checkpoint = v.checkpoint;
        growths = v.growths + 1;
        value = effects l.1.notes c v.value;
      } else whole_version l.0 (effects l.1.notes c v.value)).checkpoint ≤ l.0
      go true = h
      go false = omega arith

  -- the checkpoint of the current version is the greatest one below the number
  pub greatest_current : (n low : ℕ) (lines : Lines) (v : VersionValue) → v.checkpoint ≤ low → Rise low lines
      → max v.checkpoint (greatest n lines v) ≡ (current c (lines_below n lines) v).checkpoint
  greatest_current n low [] v h rise = omega arith
  greatest_current n low (l ∷ lines) v h rise =
      let up = above low l lines rise in
      let on = later low l lines rise in
      ap (λ vs. max v.checkpoint (greatest_below n (numbers_of vs)))
      (versions_split c l lines v (changes l.1.notes c) refl)
      ∙ by_number (nat_lt l.0 n) refl (omega (arith, up))
      (λ (w : VersionValue) (p : w.checkpoint ≤ l.0). greatest_current n l.0 lines w p on) on
    where
      Rest : Type 0
      Rest = (w : VersionValue) → w.checkpoint ≤ l.0
          → max w.checkpoint (greatest n lines w) ≡ (current c (lines_below n lines) w).checkpoint

      earlier_line : nat_lt l.0 n ≡ true → v.checkpoint ≤ l.0 → Rest → (b : Bool)
          → max v.checkpoint
          (greatest_below n (numbers_of (if b then (l.0, content_by v.growths v.value l.1.notes c)
          ∷ versions_from c (version_made c l.0 l.1.notes v) lines else versions_from c v lines)))
          ≡ (current c (lines_below n lines) (if b then version_made c l.0 l.1.notes v else v)).checkpoint
      earlier_line f k rest true =
          counted n l v (versions_from c (version_made c l.0 l.1.notes v) lines) _ k f
          (rest (version_made c l.0 l.1.notes v) (made_checkpoint l v k))
      earlier_line f k rest false = rest v k

      later_line : nat_lt l.0 n ≡ false → v.checkpoint ≤ l.0 → Rise l.0 lines → Rest → (b : Bool)
          → max v.checkpoint
          (greatest_below n (numbers_of (if b then (l.0, content_by v.growths v.value l.1.notes c)
          ∷ versions_from c (version_made c l.0 l.1.notes v) lines else versions_from c v lines)))
          ≡ (current c (lines_below n lines) v).checkpoint
      later_line f k on rest true =
          let le : n ≤ l.0 = grind (arith, nat_tests) in
          ap (max v.checkpoint)
          (not_counted n l.0 (content_by v.growths v.value l.1.notes c)
          (versions_from c (version_made c l.0 l.1.notes v) lines) f
          ∙ greatest_late n l.0 lines (version_made c l.0 l.1.notes v) le on)
          ∙ omega arith
          ∙ sym (ap (λ (x : Lines). (current c x v).checkpoint) (none_below n l.0 lines le on))
      later_line f k on rest false = rest v k

      by_number : (below : Bool) → nat_lt l.0 n ≡ below → v.checkpoint ≤ l.0 → Rest → Rise l.0 lines
          → max v.checkpoint
          (greatest_below n (numbers_of (if changes l.1.notes c
          then (l.0, content_by v.growths v.value l.1.notes c)
          ∷ versions_from c (version_made c l.0 l.1.notes v) lines else versions_from c v lines)))
          ≡ (current c (if below then l ∷ lines_below n lines else lines_below n lines) v).checkpoint
      by_number true f k rest on = earlier_line f k rest (changes l.1.notes c)
      by_number false f k rest on = later_line f k on rest (changes l.1.notes c)

  -- ---- the checkpoints rise
  one_more : (low k : ℕ) (content : Content) (vs : List Version) → low < k
      → ((from : ℕ) → from ≤ k → IsTrue (rises_from from (numbers_of vs)))
      → IsTrue (rises_from low (numbers_of ((k, content) ∷ vs)))
  one_more low k (growth bytes) vs lt rest = rest low (omega (arith, lt))
  one_more low k (whole v) vs lt rest =
      let yes : nat_lt low k ≡ true = grind (arith, nat_tests) in
      and_true (nat_lt low k) (rises_from k (numbers_of vs)) yes (rest k (omega arith))

  pub numbers_rise : (from low : ℕ) (lines : Lines) (v : VersionValue) → from ≤ low → Rise low lines
      → IsTrue (rises_from from (numbers_of (versions_from c v lines)))
  numbers_rise from low [] v le rise = refl
  numbers_rise from low (l ∷ lines) v le rise =
      let up = above low l lines rise in
      let on = later low l lines rise in
      subst (λ vs. IsTrue (rises_from from (numbers_of vs)))
      (sym (versions_split c l lines v (changes l.1.notes c) refl))
      (go (changes l.1.notes c) (omega (arith, up, le))
      (λ (f : ℕ) (w : VersionValue) (p : f ≤ l.0). numbers_rise f l.0 lines w p on))
    where
      go : (b : Bool) → from < l.0
          → ((f : ℕ) (w : VersionValue) → f ≤ l.0 → IsTrue (rises_from f (numbers_of (versions_from c w lines))))
          → IsTrue (rises_from from (numbers_of (if b then (l.0, content_by v.growths v.value l.1.notes c)
          ∷ versions_from c (version_made c l.0 l.1.notes v) lines else versions_from c v lines)))
      go true lt rest =
          one_more from l.0 (content_by v.growths v.value l.1.notes c)
          (versions_from c (version_made c l.0 l.1.notes v) lines) lt
          (λ (f : ℕ) (p : f ≤ l.0). rest f (version_made c l.0 l.1.notes v) p)
      go false lt rest = rest from v (omega (arith, lt))
