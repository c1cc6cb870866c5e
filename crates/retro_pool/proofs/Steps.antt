-- Each step keeps the rule of the board.
use Rattle.std.proofs.Common.{◌≡◌, ◌≢◌, ℕ, zero, suc, ◌+◌, ◌<◌, ◌≤◌, ◌==◌, cond, true, true≢false}
use Rattle.std.proofs.Common.{List, [], ◌∷◌, ◌++◌, length, set, sym, refl, ap, ◌∙◌, subst, ⊎_elim}
use Rattle.std.proofs.Common.{append_assoc, arith, length-append, eq-eqb, append-nil}
use mathlib.Core.Option.{Option, some, none, some-injective, some-ne-none}
use lib.ListN.{get_elem?}
use Rattle.crossbeam_deque.specs.Tasks.{Pushes, Takes, Finds, Forks, Merges, Learns}
use Rattle.crossbeam_deque.proofs.Lists.{at_set}
use Rattle.std.proofs.lemmas.List.{length-map}
use Rattle.std.proofs.lemmas.Bool.{ne_eqb}
use Rattle.retro_pool.specs.declared.seat_knowledge.SeatKnowledge.{SeatKnowledge}
use Rattle.retro_pool.specs.declared.seat_knowledge.Returned.{Returned}
use Rattle.std.specs.List.{AllByRecursion}
use Rattle.retro_pool.specs.Turns.{Turn, jobs_of, taken_by}
use Rattle.retro_pool.specs.inner.Rule.{FollowsRule, IsSeated, IsOwner, HasReturned, AreApart, Sees}
use Rattle.retro_pool.specs.inner.Rule.{owner, thief, nobody, returned, dealt_more, taken_more}
use Rattle.retro_pool.specs.inner.Rule.{one_seat_more, one_more_back}
use Rattle.retro_pool.proofs.Counts.{all_map, all_snoc, jobs_of_snoc, taken_by_same, taken_by_other}
use Rattle.retro_pool.proofs.Counts.{taken_by_short, taken_by_none, taken_by_alone}

abbrev Views : Type 0
Views = List SeatKnowledge

-- two passes of one seat are one pass
one_port : (port_of : ℕ → Option ℕ) (a b i j : ℕ) → port_of a ≡ some i → port_of b ≡ some j → a ≡ b → i ≡ j
one_port port_of a b i j p q e = some-injective i j (sym p ∙ ap port_of e ∙ q)

-- what holds of the view put in, and of the others, holds of all
each_set : (F : ℕ → SeatKnowledge → Type 0) (views : Views) (port : ℕ) (w : SeatKnowledge) → F port w
    → ((j : ℕ) (u : SeatKnowledge) → j ≢ port → get_elem? views j ≡ some u → F j u)
    → (j : ℕ) (u : SeatKnowledge) → get_elem? (set views port w) j ≡ some u → F j u
each_set F views port w mine others j u e = ⊎_elim
    (λ (x : (j ≡ port) × (w ≡ u)). subst (λ (y : ℕ × SeatKnowledge). F y.0 y.1) (λ i. (sym x.0 i, x.1 i)) mine)
    (λ (x : (j ≢ port) × (get_elem? views j ≡ some u)). others j u x.0 x.1) (at_set views port j w u e)

-- the one view there is
only : (F : ℕ → SeatKnowledge → Type 0) (a : SeatKnowledge) → F 0 a → (j : ℕ) (u : SeatKnowledge) → get_elem? (a ∷ []) j ≡ some u → F j u
only F a f zero u e = subst (F 0) (some-injective a u e) f
only F a f (suc j) u e = absurd (some-ne-none u (sym e))

-- what holds of each view, and of one more at the end, holds of all
each_snoc : (F : ℕ → SeatKnowledge → Type 0) (views : Views) (w : SeatKnowledge)
    → ((j : ℕ) (u : SeatKnowledge) → get_elem? views j ≡ some u → F j u) → F (length views) w → (j : ℕ) (u : SeatKnowledge)
    → get_elem? (views ++ w ∷ []) j ≡ some u → F j u
each_snoc F [] w old new j u e = only F w new j u e
each_snoc F (v ∷ vs) w old new zero u e = old zero u e
each_snoc F (v ∷ vs) w old new (suc j) u e = each_snoc (λ i x. F (suc i) x) vs w (λ i x. old (suc i) x)
    (subst (λ n. F n w) (omega arith) new) j u e

pub begins : FollowsRule [] (owner 1 0 [] [] [] ∷ [])
begins = record {
  turns = [];
  dealt = [];
  seats = 1;
  room = 0;
  port_of = λ _. some 0;
  line = refl;
  fits = omega arith;
  theirs = tt;
  sits = only (λ j u. u.live ≡ true → IsSeated [] 1 0 (λ _. some 0) j u) (owner 1 0 [] [] [])
      (λ _. record { at = refl; within = omega arith; room_is = refl; taken_is = refl });
  owns = only (λ j u. u.owns ≡ true → IsOwner [] [] 1 (λ _. some 0) u) (owner 1 0 [] [] [])
      (λ _. record { live = refl; first = refl; seats_is = refl; dealt_is = refl; back_is = tt; apart = tt });
}

pub deals : (port : ℕ) (v : SeatKnowledge) (x : ℕ) → v.live ≡ true → v.owns ≡ true → length v.dealt < v.room
    → Pushes FollowsRule port v (x ∷ []) (λ w. w ≡ dealt_more v (x ∷ []))
deals port v x live own free items views h at =
    let w : SeatKnowledge = dealt_more v (x ∷ []) in let me = h.sits port v at live in let mine = h.owns port v at own in (
      w,
      record {
        turns = h.turns;
        dealt = h.dealt ++ x ∷ [];
        seats = h.seats;
        room = h.room;
        port_of = h.port_of;
        line = ap (λ l. l ++ x ∷ []) h.line ∙ append_assoc (jobs_of h.turns) items (x ∷ []);
        fits = omega (arith, length-append h.dealt (x ∷ []), ap length mine.dealt_is, me.room_is);
        theirs = h.theirs;
        sits = each_set (λ j u. u.live ≡ true → IsSeated h.turns h.seats h.room h.port_of j u) views port w
            (λ _. record { at = me.at; within = me.within; room_is = me.room_is; taken_is = me.taken_is })
            (λ j u other e l. h.sits j u e l);
        owns = each_set (λ j u. u.owns ≡ true → IsOwner h.turns (h.dealt ++ x ∷ []) h.seats h.port_of u) views port w
            (λ _. record {
              live = mine.live;
              first = mine.first;
              seats_is = mine.seats_is;
              dealt_is =
                  ap (λ l. l ++ x ∷ []) mine.dealt_is;
              back_is = mine.back_is;
              apart = mine.apart;
            })
            (λ j u other e o. let theirs = h.owns j u e o in
            absurd (other (one_port h.port_of u.seat v.seat j port (h.sits j u e theirs.live).at me.at
            (theirs.first ∙ sym mine.first))));
      },
      refl,
    )

-- a job that any seat takes
pub takes : (port : ℕ) (v : SeatKnowledge) → v.live ≡ true
    → Takes FollowsRule port v 1 (λ xs w. (w ≡ taken_more v xs) × (length w.taken ≤ v.room))
takes port v live [] items views some_left few h at = absurd (omega arith)
takes port v live (x ∷ y ∷ ys) items views some_left few h at = absurd (omega arith)
takes port v live (x ∷ []) items views some_left few h at =
    let w : SeatKnowledge = taken_more v (x ∷ []) in
    let me = h.sits port v at live in
    let turns : List Turn = h.turns ++ (v.seat, x) ∷ [] in
    let line : h.dealt ≡ jobs_of turns ++ items = h.line
    ∙ (sym (append_assoc (jobs_of h.turns) (x ∷ []) items)
    ∙ ap (λ l. l ++ items) (sym (jobs_of_snoc h.turns (v.seat, x)))) in
    let mine : w.taken ≡ taken_by v.seat turns = ap (λ l. l ++ x ∷ []) me.taken_is
    ∙ sym (taken_by_same v.seat h.turns x) in
    let else : (s : ℕ) → s ≢ v.seat → taken_by s turns ≡ taken_by s h.turns =
    λ s n. taken_by_other s h.turns v.seat x (λ e. n (sym e)) in
    let apart : (j : ℕ) (u : SeatKnowledge) → j ≢ port → get_elem? views j ≡ some u → u.live ≡ true
    → u.seat ≢ v.seat = λ j u other e l same. other
    (one_port h.port_of u.seat v.seat j port (h.sits j u e l).at me.at same) in
    let owned : (u : SeatKnowledge) → IsOwner h.turns h.dealt h.seats h.port_of u
    → IsOwner turns h.dealt h.seats h.port_of u = λ u o. record {
      live = o.live;
      first = o.first;
      seats_is = o.seats_is;
      dealt_is = o.dealt_is;
      back_is = all_map (HasReturned h.turns h.seats h.port_of) (HasReturned turns h.seats h.port_of) u.back
          (λ b l. record {
            gone = l.gone;
            within = l.within;
            taken_is = l.taken_is
                ∙ sym (else b.seat (λ same. some-ne-none port (sym me.at
                ∙ (ap h.port_of (sym same) ∙ l.gone))));
          }) o.back_is;
      apart = o.apart;
    } in (
      w,
      record {
        turns = turns;
        dealt = h.dealt;
        seats = h.seats;
        room = h.room;
        port_of = h.port_of;
        line = line;
        fits = h.fits;
        theirs = all_snoc (λ (t : Turn). t.0 < h.seats) h.turns (v.seat, x) h.theirs me.within;
        sits = each_set (λ j u. u.live ≡ true → IsSeated turns h.seats h.room h.port_of j u) views port w
            (λ _. record { at = me.at; within = me.within; room_is = me.room_is; taken_is = mine })
            (λ j u other e l. let s = h.sits j u e l in
            record {
              at = s.at;
              within = s.within;
              room_is = s.room_is;
              taken_is = s.taken_is
                  ∙ sym (else u.seat (apart j u other e l));
            });
        owns = each_set (λ j u. u.owns ≡ true → IsOwner turns h.dealt h.seats h.port_of u) views port w
            (λ o. let q = owned v (h.owns port v at o) in
            record {
              live = q.live;
              first = q.first;
              seats_is = q.seats_is;
              dealt_is =
                  q.dealt_is;
              back_is = q.back_is;
              apart = q.apart;
            })
            (λ j u other e o. owned u (h.owns j u e o));
      },
      (
        refl,
        (let short : length (taken_by v.seat turns) ≤ length turns = taken_by_short v.seat turns in
            let all = ap length line in
            omega (
              arith,
              ap length mine,
              length-append (jobs_of turns) items,
              length-map turns (λ (t : Turn). t.1),
              h.fits,
              me.room_is,
            )),
      ),
    )

-- the room is fixed before anything is dealt
pub opens : (room port : ℕ) (v : SeatKnowledge) → v ≡ owner 1 0 [] [] []
    → Forks FollowsRule port v (owner v.seats room v.dealt v.taken v.back) nobody
opens room port v is items views h at =
    let live : v.live ≡ true = ap (λ (u : SeatKnowledge). u.live) is in
    let own : v.owns ≡ true = ap (λ (u : SeatKnowledge). u.owns) is in
    let w : SeatKnowledge = owner v.seats room v.dealt v.taken v.back in
    let me = h.sits port v at live in
    let mine = h.owns port v at own in
    let one : h.seats ≡ 1 = sym mine.seats_is ∙ ap (λ (u : SeatKnowledge). u.seats) is in
    let none_dealt : h.dealt ≡ [] = sym mine.dealt_is ∙ ap (λ (u : SeatKnowledge). u.dealt) is in
    let alone : (j : ℕ) (u : SeatKnowledge) → get_elem? views j ≡ some u → u.live ≡ true
    → j ≡ port = λ j u e l. let s = h.sits j u e l in
    one_port h.port_of u.seat v.seat j port s.at me.at (omega (arith, s.within, me.within, one)) in record {
      turns = h.turns;
      dealt = h.dealt;
      seats = h.seats;
      room = room;
      port_of = h.port_of;
      line = h.line;
      fits = rw none_dealt (omega arith);
      theirs = h.theirs;
      sits = each_snoc (λ j u. u.live ≡ true → IsSeated h.turns h.seats room h.port_of j u) (set views port w) nobody
          (each_set (λ j u. u.live ≡ true → IsSeated h.turns h.seats room h.port_of j u) views port w
          (λ _. record {
            at = ap h.port_of (sym mine.first)
                ∙ me.at;
            within = omega (arith, me.within, mine.first);
            room_is = refl;
            taken_is =
                me.taken_is ∙ ap (λ s. taken_by s h.turns) mine.first;
          })
          (λ j u other e l. absurd (other (alone j u e l))))
          (λ l. absurd (true≢false (sym l)));
      owns = each_snoc (λ j u. u.owns ≡ true → IsOwner h.turns h.dealt h.seats h.port_of u) (set views port w) nobody
          (each_set (λ j u. u.owns ≡ true → IsOwner h.turns h.dealt h.seats h.port_of u) views port w
          (λ _. record {
            live = refl;
            first = refl;
            seats_is = mine.seats_is;
            dealt_is =
                mine.dealt_is;
            back_is = mine.back_is;
            apart = mine.apart;
          })
          (λ j u other e o. absurd (other (alone j u e (h.owns j u e o).live))))
          (λ o. absurd (true≢false (sym o)));
    }

-- a seat for one thief more
pub seats_one : (port : ℕ) (v : SeatKnowledge) → v.live ≡ true → v.owns ≡ true
    → Forks FollowsRule port v (one_seat_more v) (thief v.seats v.room [])
seats_one port v live own items views h at =
    let w : SeatKnowledge = one_seat_more v in
    let new : SeatKnowledge = thief v.seats v.room [] in
    let vs : Views = set views port w in
    let me = h.sits port v at live in
    let mine = h.owns port v at own in
    let port_of : ℕ → Option ℕ = λ s. cond (s == h.seats) (some (length vs)) (h.port_of s) in
    let below : (s : ℕ) → s < h.seats → port_of s ≡ h.port_of s =
    λ s lt. ap (λ b. cond b (some (length vs)) (h.port_of s)) (ne_eqb s h.seats (λ e. absurd (omega arith))) in
    let here : port_of v.seats ≡ some (length vs) =
    ap (λ b. cond b (some (length vs)) (h.port_of v.seats)) (eq-eqb v.seats h.seats mine.seats_is) in
    let S : ℕ → SeatKnowledge → Type 0 = λ j u. u.live ≡ true → IsSeated h.turns (h.seats + 1) h.room port_of j u in
    let O : ℕ → SeatKnowledge → Type 0 = λ j u. u.owns ≡ true → IsOwner h.turns h.dealt (h.seats + 1) port_of u in
    let back : (u : SeatKnowledge) → AllByRecursion (HasReturned h.turns h.seats h.port_of) u.back
    → AllByRecursion (HasReturned h.turns (h.seats + 1) port_of) u.back = λ u.
    all_map (HasReturned h.turns h.seats h.port_of) (HasReturned h.turns (h.seats + 1) port_of) u.back
    (λ b l. record {
      gone = below b.seat l.within
          ∙ l.gone;
      within = omega (arith, l.within);
      taken_is = l.taken_is;
    }) in record {
      turns = h.turns;
      dealt = h.dealt;
      seats = h.seats + 1;
      room = h.room;
      port_of = port_of;
      line = h.line;
      fits = h.fits;
      theirs = all_map (λ (t : Turn). t.0 < h.seats) (λ (t : Turn). t.0 < h.seats + 1) h.turns
          (λ t lt. omega arith) h.theirs;
      sits = each_snoc S vs new
          (each_set S views port w (λ _. record {
            at = below v.seat me.within
                ∙ me.at;
            within = omega (arith, me.within);
            room_is = me.room_is;
            taken_is = me.taken_is;
          })
          (λ j u other e l. let s = h.sits j u e l in
          record {
            at = below u.seat s.within ∙ s.at;
            within = omega (arith, s.within);
            room_is =
                s.room_is;
            taken_is = s.taken_is;
          }))
          (λ _. record {
            at = here;
            within = omega (arith, mine.seats_is);
            room_is = me.room_is;
            taken_is =
                sym (ap (λ s. taken_by s h.turns) mine.seats_is ∙ taken_by_none h.seats h.turns h.theirs);
          });
      owns = each_snoc O vs new
          (each_set O views port w (λ _. record {
            live = live;
            first = mine.first;
            seats_is =
                ap (λ n. n + 1) mine.seats_is;
            dealt_is = mine.dealt_is;
            back_is =
                back v mine.back_is;
            apart = mine.apart;
          })
          (λ j u other e o. let q = h.owns j u e o in
          absurd (other (one_port h.port_of u.seat v.seat j port (h.sits j u e q.live).at me.at
          (q.first ∙ sym mine.first)))))
          (λ o. absurd (true≢false (sym o)));
    }

apart_snoc : (hs : List Returned) (k : Returned) → AreApart hs → AllByRecursion (λ x. x.seat ≢ k.seat) hs
    → AreApart (hs ++ k ∷ [])
apart_snoc [] k a n = (tt, tt)
apart_snoc (x ∷ xs) k a n = (all_snoc (λ (y : Returned). x.seat ≢ y.seat) xs k a.0 n.0, apart_snoc xs k a.1 n.1)

-- a thief's list is known to the owner, and its pass is spent
pub takes_in : (port : ℕ) (v : SeatKnowledge) (other : ℕ) (w : SeatKnowledge) → v.live ≡ true → v.owns ≡ true
    → w.live ≡ true → Merges FollowsRule port v other w (one_more_back v w) nobody
takes_in port v other w live own theirs items views h at two at' =
    let both : SeatKnowledge = one_more_back v w in
    let vs : Views = set views port both in
    let me = h.sits port v at live in
    let mine = h.owns port v at own in
    let was : get_elem? views other ≡ some w = ⊎_elim (λ x. absurd (two x.0)) (λ x. x.1)
    (at_set views port other both w at') in
    let its = h.sits other w was theirs in
    let port_of : ℕ → Option ℕ = λ s. cond (s == w.seat) none (h.port_of s) in
    let else : (s : ℕ) → s ≢ w.seat → port_of s ≡ h.port_of s =
    λ s n. ap (λ b. cond b none (h.port_of s)) (ne_eqb s w.seat n) in
    let gone : port_of w.seat ≡ none = ap (λ b. cond b none (h.port_of w.seat)) (eq-eqb w.seat w.seat refl) in
    let apart : (j : ℕ) (u : SeatKnowledge) → j ≢ other → get_elem? views j ≡ some u → u.live ≡ true
    → u.seat ≢ w.seat = λ j u n e l same. n (one_port h.port_of u.seat w.seat j other
    (h.sits j u e l).at its.at same) in
    let mine_apart : v.seat ≢ w.seat = apart port v (λ e. two (sym e)) at live in
    let left : (b : Returned) → HasReturned h.turns h.seats h.port_of b
    → HasReturned h.turns h.seats port_of b = λ b l.
    record {
      gone = else b.seat (λ same. some-ne-none other (sym its.at
          ∙ (ap h.port_of (sym same) ∙ l.gone))) ∙ l.gone;
      within = l.within;
      taken_is = l.taken_is;
    } in
    let fresh : (b : Returned) → HasReturned h.turns h.seats h.port_of b
    → b.seat ≢ w.seat = λ b l same. some-ne-none other (sym its.at ∙ (ap h.port_of (sym same) ∙ l.gone)) in
    let S : ℕ → SeatKnowledge → Type 0 = λ j u. u.live ≡ true → IsSeated h.turns h.seats h.room port_of j u in
    let O : ℕ → SeatKnowledge → Type 0 = λ j u. u.owns ≡ true → IsOwner h.turns h.dealt h.seats port_of u in
    let S' : ℕ → SeatKnowledge → Type 0 = λ j u. j ≢ other → S j u in
    let sat : (j : ℕ) (u : SeatKnowledge) → get_elem? vs j ≡ some u → S' j u = each_set S' views port both
    (λ _ _. record {
      at = else v.seat mine_apart ∙ me.at;
      within = me.within;
      room_is =
          me.room_is;
      taken_is = me.taken_is;
    })
    (λ j u _ e n l. let s = h.sits j u e l in record {
      at = else u.seat (apart j u n e l)
          ∙ s.at;
      within = s.within;
      room_is = s.room_is;
      taken_is = s.taken_is;
    }) in
    let owned : (j : ℕ) (u : SeatKnowledge) → get_elem? vs j ≡ some u → O j u = each_set O views port both
    (λ _. record {
      live = live;
      first = mine.first;
      seats_is = mine.seats_is;
      dealt_is = mine.dealt_is;
      back_is = all_snoc (HasReturned h.turns h.seats port_of) v.back (returned w.seat w.taken)
          (all_map (HasReturned h.turns h.seats h.port_of) (HasReturned h.turns h.seats port_of) v.back
          left mine.back_is)
          (record { gone = gone; within = its.within; taken_is = its.taken_is });
      apart = apart_snoc v.back (returned w.seat w.taken) mine.apart
          (all_map (HasReturned h.turns h.seats h.port_of) (λ (b : Returned). b.seat ≢ w.seat) v.back fresh
          mine.back_is);
    })
    (λ j u n e o. let q = h.owns j u e o in absurd
    (n (one_port h.port_of u.seat v.seat j port (h.sits j u e q.live).at me.at (q.first
    ∙ sym mine.first)))) in record {
      turns = h.turns;
      dealt = h.dealt;
      seats = h.seats;
      room = h.room;
      port_of = port_of;
      line = h.line;
      fits = h.fits;
      theirs = h.theirs;
      sits = each_set S vs other nobody (λ l. absurd (true≢false (sym l))) (λ j u n e. sat j u e n);
      owns = each_set O vs other nobody (λ o. absurd (true≢false (sym o))) (λ j u n e. owned j u e);
    }

pub looks : (port : ℕ) (v : SeatKnowledge) → v.live ≡ true → v.owns ≡ true → Learns FollowsRule port v (Sees v)
looks port v live own items views h at =
    let me = h.sits port v at live in
    let mine = h.owns port v at own in record {
      turns = h.turns;
      line = mine.dealt_is ∙ h.line;
      theirs = rw mine.seats_is h.theirs;
      mine = me.taken_is ∙ ap (λ s. taken_by s h.turns) mine.first;
      back_is = all_map (HasReturned h.turns h.seats h.port_of) (λ (b : Returned). (0 < b.seat)
          × (b.seat < v.seats) × (b.taken ≡ taken_by b.seat h.turns)) v.back
          (λ b l. (
            (let n : b.seat ≢ 0 = λ z. some-ne-none port (sym me.at
                ∙ (ap h.port_of (mine.first ∙ sym z) ∙ l.gone)) in omega arith),
            omega (arith, l.within, mine.seats_is),
            l.taken_is,
          )) mine.back_is;
      apart = mine.apart;
    }

-- where there is one seat, it has taken all that was dealt once the deque is empty
pub finds : (port : ℕ) (v : SeatKnowledge) → v.live ≡ true → v.owns ≡ true
    → Finds FollowsRule port v (v.seats ≡ 1 → v.taken ≡ v.dealt)
finds port v live own views h at = λ one.
    let me = h.sits port v at live in
    let mine = h.owns port v at own in
    let alone : AllByRecursion (λ t. t.0 < 1) h.turns =
    subst (λ n. AllByRecursion (λ (t : Turn). t.0 < n) h.turns) (sym mine.seats_is ∙ one) h.theirs in
    me.taken_is ∙ (ap (λ s. taken_by s h.turns) mine.first
    ∙ (taken_by_alone h.turns alone ∙ (sym (append-nil (jobs_of h.turns)) ∙ (sym h.line ∙ sym mine.dealt_is))))
