-- Where all thieves came back and all jobs were taken, each job was taken once.
use Rattle.std.proofs.Common.{◌≡◌, ◌≢◌, ℕ, suc, ◌+◌, ◌<◌, ◌≤◌, ◌||◌, Bool, cond, true, false}
use Rattle.std.proofs.Common.{true≢false, eqb, List, [], ◌∷◌, ◌++◌, length, map, set, length-set}
use Rattle.std.proofs.Common.{sum_by, slice_index_or, sym, refl, ap, ◌∙◌, subst, ⊎_elim, arith}
use Rattle.std.proofs.Common.{length-append, append-nil}
use Rattle.std.specs.List.{IsDistinct, AllByRecursion, list_any}
use Rattle.std.proofs.lemmas.List.{length-map, get_or-set_other, get_or-set_same}
use Rattle.std.proofs.lemmas.Bool.Decides.{eqb_tells}
use Rattle.std.proofs.lemmas.Map.Steps.{length-le_from_distinct_below}
use Rattle.retro_pool.specs.declared.seat_knowledge.SeatKnowledge.{SeatKnowledge}
use Rattle.retro_pool.specs.declared.seat_knowledge.Returned.{Returned}
use Rattle.retro_pool.specs.Turns.{Turn, jobs_of, taken_by, IsShared}
use Rattle.retro_pool.specs.inner.Rule.{AreApart, Sees, ArePlaced, returned, thief, one_more_back}
use Rattle.retro_pool.specs.Seats.{OwnerValue, ThiefValue, all_taken, IsSettled}
use Rattle.std.proofs.lemmas.List.Sums.{sum_by-cons}
use Rattle.retro_pool.proofs.Counts.{all_map, all_snoc, all_last}

both : (P Q R : Returned → Type 0) (hs : List Returned) → ((h : Returned) → P h → Q h → R h)
    → AllByRecursion P hs → AllByRecursion Q hs → AllByRecursion R hs
both P Q R [] f p q = tt
both P Q R (h ∷ hs) f p q = (f h p.0 q.0, both P Q R hs f p.1 q.1)

heads : (s : ℕ) (hs : List Returned) → AllByRecursion (λ k. s ≢ k.seat) hs
    → AllByRecursion (λ y. eqb s y ≡ false) (map (λ (h : Returned). h.seat) hs)
heads s [] h = tt
heads s (k ∷ ks) h = (⊎_elim (λ x. absurd (h.0 x.1)) (λ x. x.0) (eqb_tells s k.seat), heads s ks h.1)

distinct : (hs : List Returned) → AreApart hs → IsDistinct eqb (map (λ (h : Returned). h.seat) hs)
unfolding IsDistinct
distinct [] a = tt
distinct (h ∷ hs) a = (heads h.seat hs a.0, distinct hs a.1)

-- what holds of each seat in the list holds of one that a test finds there
found : (P : ℕ → Type 0) (q : ℕ) (hs : List Returned) → AllByRecursion (λ h. P h.seat) hs
    → list_any (eqb q) (map (λ (h : Returned). h.seat) hs) ≡ true → P q
found P q [] h e = absurd (true≢false (sym e))
found P q (k ∷ ks) h e =
    ⊎_elim (λ (x : (eqb q k.seat ≡ true) × (q ≡ k.seat)). subst P (sym x.1) h.0)
    (λ (x : (eqb q k.seat ≡ false) × (q ≢ k.seat)).
    found P q ks h.1 (ap (λ b. b || list_any (eqb q) (map (λ (h : Returned). h.seat) ks)) (sym x.0)
    ∙ e)) (eqb_tells q k.seat)

none_there : (q : ℕ) (xs : List ℕ) → list_any (eqb q) xs ≡ false → AllByRecursion (λ y. eqb q y ≡ false) xs
none_there q [] e = tt
none_there q (x ∷ xs) e =
    ⊎_elim (λ (y : (eqb q x ≡ true) × (q ≡ x)). absurd
    (true≢false (sym (ap (λ b. b || list_any (eqb q) xs) y.0) ∙ e)))
    (λ (y : (eqb q x ≡ false) × (q ≢ x)). (
      y.0,
      none_there q xs (sym (ap (λ b. b || list_any (eqb q) xs) y.0) ∙ e),
    )) (eqb_tells q x)

-- a list of n numbers below n, no two of which are equal, has each number below n
covers : (n : ℕ) (xs : List ℕ) → IsDistinct eqb xs → ((q : ℕ) → list_any (eqb q) xs ≡ true → q < n)
    → n ≤ length xs → (q : ℕ) → q < n → (b : Bool) → list_any (eqb q) xs ≡ b → list_any (eqb q) xs ≡ true
unfolding IsDistinct
covers n xs d below full q lt true e = e
covers n xs d below full q lt false e =
    let more : length (q ∷ xs) ≤ n = length-le_from_distinct_below (q ∷ xs) n (none_there q xs e, d)
    (λ p t. ⊎_elim (λ (y : (eqb p q ≡ true) × (p ≡ q)). subst (λ m. m < n) (sym y.1) lt)
    (λ (y : (eqb p q ≡ false) × (p ≢ q)). below p (ap (λ b. b || list_any (eqb p) xs) (sym y.0) ∙ t))
    (eqb_tells p q)) in absurd (omega arith)

abbrev counted : List Turn → List ℕ → ℕ
counted turns [] = 0
counted turns (x ∷ xs) = length (taken_by x turns) + counted turns xs

-- how many jobs the hands have
abbrev pub held : List Returned → ℕ
held [] = 0
held (h ∷ hs) = length h.taken + held hs

same_count : (t : Turn) (ts : List Turn) (xs : List ℕ) → AllByRecursion (λ y. eqb t.0 y ≡ false) xs
    → counted (t ∷ ts) xs ≡ counted ts xs
same_count t ts [] n = refl
same_count t ts (x ∷ xs) n = let h : length (taken_by x (t ∷ ts)) ≡ length (taken_by x ts) =
    ap (λ b. length (cond b (t.1 ∷ taken_by x ts) (taken_by x ts))) n.0 in let r =
    same_count t ts xs n.1 in omega arith

one_more : (t : Turn) (ts : List Turn) (xs : List ℕ) → IsDistinct eqb xs → list_any (eqb t.0) xs ≡ true
    → counted (t ∷ ts) xs ≡ counted ts xs + 1
unfolding IsDistinct
one_more t ts [] d e = absurd (true≢false (sym e))
one_more t ts (x ∷ xs) d e = ⊎_elim
    (λ (y : (eqb t.0 x ≡ true) × (t.0 ≡ x)).
    let h : length (taken_by x (t ∷ ts)) ≡ suc (length (taken_by x ts)) =
    ap (λ b. length (cond b (t.1 ∷ taken_by x ts) (taken_by x ts))) y.0 in
    let r = same_count t ts xs (subst (λ s. AllByRecursion (λ z. eqb s z ≡ false) xs) (sym y.1) d.0) in omega arith)
    (λ (y : (eqb t.0 x ≡ false) × (t.0 ≢ x)).
    let h : length (taken_by x (t ∷ ts)) ≡ length (taken_by x ts) =
    ap (λ b. length (cond b (t.1 ∷ taken_by x ts) (taken_by x ts))) y.0 in
    let r = one_more t ts xs d.1 (ap (λ b. b || list_any (eqb t.0) xs) (sym y.0) ∙ e) in omega arith)
    (eqb_tells t.0 x)

nothing : (xs : List ℕ) → counted [] xs ≡ 0
nothing [] = refl
nothing (x ∷ xs) = let r = nothing xs in omega arith

all_counted : (turns : List Turn) (xs : List ℕ) → IsDistinct eqb xs
    → AllByRecursion (λ t. list_any (eqb t.0) xs ≡ true) turns → counted turns xs ≡ length turns
unfolding IsDistinct
all_counted [] xs d h = nothing xs
all_counted (t ∷ ts) xs d h = let a = one_more t ts xs d h.0 in let r = all_counted ts xs d h.1 in omega arith

of_hands : (turns : List Turn) (hs : List Returned)
    → AllByRecursion (λ h. h.taken ≡ taken_by h.seat turns) hs
    → held hs ≡ counted turns (map (λ (h : Returned). h.seat) hs)
of_hands turns [] h = refl
of_hands turns (k ∷ ks) h = let a = ap length h.0 in let r = of_hands turns ks h.1 in omega arith

no_items : (turns items dealt : ℕ) → dealt ≡ turns + items → turns ≡ dealt → items ≡ 0
no_items turns items dealt a b = omega arith

empty : (items : List ℕ) → length items ≡ 0 → items ≡ []
empty [] e = refl
empty (x ∷ xs) e = absurd (omega arith)

pub whole : (v : SeatKnowledge) (items : List ℕ) (lists : List (List ℕ)) → Sees v items → ArePlaced v lists
    → length v.back + 1 ≡ v.seats → length v.taken + held v.back ≡ length v.dealt
    → IsShared v.seats v.dealt (λ s. slice_index_or lists s [])
unfolding IsDistinct
whole v items lists sees placed came total =
    let seats : List ℕ = 0 ∷ map (λ (h : Returned). h.seat) v.back in
    let apart : IsDistinct eqb seats = (
      heads 0 v.back
          (all_map (λ (h : Returned). (0 < h.seat) × (h.seat < v.seats)
          × (h.taken ≡ taken_by h.seat sees.turns)) (λ (h : Returned). 0 ≢ h.seat) v.back
          (λ h k z. absurd (omega (arith, k.0))) sees.back_is),
      distinct v.back sees.apart,
    ) in
    let below : (q : ℕ) → list_any (eqb q) seats ≡ true
    → q < v.seats = λ q e. ⊎_elim (λ (y : (eqb q 0 ≡ true) × (q ≡ 0)). omega arith)
    (λ (y : (eqb q 0 ≡ false) × (q ≢ 0)). found (λ s. s < v.seats) q v.back
    (all_map (λ (h : Returned). (0 < h.seat) × (h.seat < v.seats)
    × (h.taken ≡ taken_by h.seat sees.turns)) (λ (h : Returned). h.seat < v.seats) v.back (λ h k. k.1)
    sees.back_is) (ap (λ b. b || list_any (eqb q) (map (λ (h : Returned). h.seat) v.back)) (sym y.0) ∙ e))
    (eqb_tells q 0) in
    let many : length seats ≡ v.seats = omega (arith, length-map v.back (λ (h : Returned). h.seat)) in
    let cover : (q : ℕ) → q < v.seats → list_any (eqb q) seats ≡ true =
    λ q lt. covers v.seats seats apart below (omega arith) q lt (list_any (eqb q) seats) refl in
    let all : counted sees.turns seats ≡ length sees.turns =
    all_counted sees.turns seats apart (all_map (λ (t : Turn). t.0 < v.seats)
    (λ (t : Turn). list_any (eqb t.0) seats ≡ true) sees.turns (λ t lt. cover t.0 lt) sees.theirs) in
    let hands = of_hands sees.turns v.back (all_map (λ (h : Returned). (0 < h.seat) × (h.seat < v.seats)
    × (h.taken ≡ taken_by h.seat sees.turns)) (λ (h : Returned). h.taken ≡ taken_by h.seat sees.turns)
    v.back (λ h k. k.2) sees.back_is) in
    let mine = ap length sees.mine in
    let line : length v.dealt ≡ length sees.turns + length items = ap length sees.line
    ∙ (length-append (jobs_of sees.turns) items
    ∙ ap (λ n. n + length items) (length-map sees.turns (λ (t : Turn). t.1))) in
    let none_left : items ≡ [] = empty items (omega arith) in record {
      turns = sees.turns;
      jobs = sym (sees.line ∙ (ap (λ l. jobs_of sees.turns ++ l) none_left ∙ append-nil (jobs_of sees.turns)));
      within = sees.theirs;
      lists = λ s lt. ⊎_elim (λ (y : (eqb s 0 ≡ true) × (s ≡ 0)).
          subst (λ q. slice_index_or lists q [] ≡ taken_by q sees.turns) (sym y.1) (placed.mine ∙ sees.mine))
          (λ (y : (eqb s 0 ≡ false) × (s ≢ 0)). found
          (λ q. slice_index_or lists q [] ≡ taken_by q sees.turns) s v.back
          (both (λ (h : Returned). slice_index_or lists h.seat [] ≡ h.taken)
          (λ (h : Returned). (0 < h.seat) × (h.seat < v.seats)
          × (h.taken ≡ taken_by h.seat sees.turns))
          (λ (h : Returned). slice_index_or lists h.seat [] ≡ taken_by h.seat sees.turns) v.back
          (λ h a b. a ∙ b.2) placed.back_is sees.back_is)
          (ap (λ b. b || list_any (eqb s) (map (λ (h : Returned). h.seat) v.back)) (sym y.0) ∙ cover s lt))
          (eqb_tells s 0);
    }

pub held_all : (ts : List ThiefValue) → held (map (λ (t : ThiefValue). returned t.number t.taken) ts) ≡
    sum_by (λ t. length t.taken) ts
held_all [] = refl
held_all (t ∷ ts) = let r = held_all ts in let c = sum_by-cons (λ (u : ThiefValue). length u.taken) t ts in
    omega arith

pub placed_all : (P : Returned → Type 0) (ts : List ThiefValue)
    → AllByRecursion P (map (λ (t : ThiefValue). returned t.number t.taken) ts)
    → AllByRecursion (λ t. P (returned t.number t.taken)) ts
placed_all P [] h = tt
placed_all P (t ∷ ts) h = (h.0, placed_all P ts h.1)

apart_last : (hs : List Returned) (k : Returned) → AreApart (hs ++ k ∷ []) → AllByRecursion (λ h. h.seat ≢ k.seat) hs
apart_last [] k a = tt
apart_last (h ∷ hs) k a = (all_last (λ (x : Returned). h.seat ≢ x.seat) hs k a.0, apart_last hs k a.1)

-- a list that came back is put into its place
pub placed_more : (v w : SeatKnowledge) (k : Returned) (items : List ℕ) (lists : List (List ℕ)) → ArePlaced v lists
    → Sees w items → w.live ≡ true → w.owns ≡ true → w.seats ≡ v.seats → w.taken ≡ v.taken
    → w.back ≡ v.back ++ k ∷ [] → ArePlaced w (set lists k.seat k.taken)
placed_more v w k items lists p sees live owns seats taken more =
    let last = all_last (λ (h : Returned). (0 < h.seat) × (h.seat < w.seats)
    × (h.taken ≡ taken_by h.seat sees.turns)) v.back k
    (subst (λ l. AllByRecursion (λ (h : Returned). (0 < h.seat) × (h.seat < w.seats)
    × (h.taken ≡ taken_by h.seat sees.turns)) l) more sees.back_is) in
    let apart = apart_last v.back k (subst AreApart more sees.apart) in
    let inside : k.seat < length lists = omega (arith, last.1, p.count) in record {
      live = live;
      owns = owns;
      count = length-set lists k.seat k.taken ∙ (p.count ∙ sym seats);
      mine = get_or-set_other lists k.seat 0 k.taken [] (λ z. absurd (omega (arith, last.0))) ∙ (p.mine ∙ sym taken);
      back_is = subst (λ l. AllByRecursion (λ (h : Returned). slice_index_or (set lists k.seat k.taken)
          h.seat [] ≡ h.taken) l) (sym more)
          (all_snoc (λ (h : Returned). slice_index_or (set lists k.seat k.taken) h.seat [] ≡ h.taken) v.back k
          (both (λ (h : Returned). slice_index_or lists h.seat [] ≡ h.taken)
          (λ (h : Returned). h.seat ≢ k.seat) (λ (h : Returned).
          slice_index_or (set lists k.seat k.taken) h.seat [] ≡ h.taken) v.back
          (λ h e n. get_or-set_other lists k.seat h.seat k.taken [] n ∙ e) p.back_is apart)
          (get_or-set_same lists k.seat k.taken [] inside));
    }

pub within : (v w : SeatKnowledge) (k : Returned) (items : List ℕ) → Sees w items → w.back ≡ v.back ++ k ∷ []
    → k.seat < w.seats
within v w k items sees more = (all_last (λ (h : Returned). (0 < h.seat) × (h.seat < w.seats)
    × (h.taken ≡ taken_by h.seat sees.turns)) v.back k
    (subst (λ l. AllByRecursion (λ (h : Returned). (0 < h.seat) × (h.seat < w.seats)
    × (h.taken ≡ taken_by h.seat sees.turns)) l) more sees.back_is)).1

-- the same, over the steps of the code
pub comes_in : (v a l p : SeatKnowledge) (number room : ℕ) (taken items : List ℕ) (lists : List (List ℕ))
    → ArePlaced v lists → a ≡ one_more_back v p → l ≡ a → p ≡ thief number room taken → Sees a items
    → (number < length lists) × ArePlaced l (set lists number taken)
comes_in v a l p number room taken items lists placed joined same is sees =
    let k : Returned = returned number taken in
    let more : a.back ≡ v.back ++ k ∷ [] = ap (λ (x : SeatKnowledge). x.back) joined
    ∙ ap (λ (q : SeatKnowledge). v.back ++ returned q.seat q.taken ∷ []) is in
    let seats : a.seats ≡ v.seats = ap (λ (x : SeatKnowledge). x.seats) joined in
    let lt = within v a k items sees more in (
      omega (arith, lt, seats, placed.count),
      subst (λ (x : SeatKnowledge). ArePlaced x (set lists number taken)) (sym same)
          (placed_more v a k items lists placed sees (ap (λ (x : SeatKnowledge). x.live) joined
          ∙ placed.live) (ap (λ (x : SeatKnowledge). x.owns) joined ∙ placed.owns) seats
          (ap (λ (x : SeatKnowledge). x.taken) joined) more),
    )

pub settled : (o : OwnerValue) (ts : List ThiefValue) (v : SeatKnowledge) (items : List ℕ) (lists : List (List ℕ))
    → ArePlaced v lists → Sees v items → v.dealt ≡ o.dealt → v.taken ≡ o.taken → v.seats ≡ o.thieves + 1
    → v.back ≡ map (λ (t : ThiefValue). returned t.number t.taken) ts → length ts ≡ o.thieves
    → all_taken o ts ≡ length o.dealt → IsSettled o ts lists
settled o ts v items lists placed sees dealt taken seats back came total =
    let n : length v.back ≡ length ts = ap length back
    ∙ length-map ts (λ (t : ThiefValue). returned t.number t.taken) in
    let h : held v.back ≡ sum_by (λ t. length t.taken) ts = ap held back ∙ held_all ts in record {
      count = placed.count ∙ seats;
      mine = placed.mine ∙ taken;
      theirs = placed_all (λ (k : Returned). slice_index_or lists k.seat [] ≡ k.taken) ts
          (subst (λ l. AllByRecursion (λ (k : Returned). slice_index_or lists k.seat [] ≡ k.taken) l) back
          placed.back_is);
      shared = subst (λ (p : ℕ × List ℕ). IsShared p.0 p.1 (λ s. slice_index_or lists s [])) (λ i. (seats i, dealt i))
          (whole v items lists sees placed (omega arith) (omega (arith, ap length taken, ap length dealt)));
    }
