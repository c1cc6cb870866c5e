-- The rule of a board: what its seats know, together with the queue, agrees with one list of turns.
use Rattle.std.specs.Prelude.{◌≡◌, ◌≢◌, ◌+◌, ◌<◌, ◌≤◌, ℕ, true, false, List, [], ◌∷◌, ◌++◌, length}
use Rattle.std.specs.Prelude.{slice_index_or}
use Rattle.std.specs.List.{AllByRecursion}
use mathlib.Core.Option.{Option, some, none}
use lib.ListN.{get_elem?}
use Rattle.retro_pool.specs.Turns.{Turn, jobs_of, taken_by}
use Rattle.retro_pool.specs.declared.seat_knowledge.SeatKnowledge.{SeatKnowledge}
use Rattle.retro_pool.specs.declared.seat_knowledge.Returned.{Returned}

-- ---- what seats know

-- what the owner of a board knows, by the number of seats, the room, the dealt jobs, its own jobs
-- and the lists that came back
abbrev pub owner : ℕ → ℕ → List ℕ → List ℕ → List Returned → SeatKnowledge
owner seats room dealt taken back = record {
  live = true;
  owns = true;
  seat = 0;
  seats = seats;
  room = room;
  dealt = dealt;
  taken = taken;
  back = back;
}

-- what a thief knows, by its number, the room and its jobs
abbrev pub thief : ℕ → ℕ → List ℕ → SeatKnowledge
thief seat room taken = record {
  live = true;
  owns = false;
  seat = seat;
  seats = 0;
  room = room;
  dealt = [];
  taken = taken;
  back = [];
}

-- what is known where no seat is: the seat came back, or there never was one
abbrev pub nobody : SeatKnowledge
nobody = record {
  live = false;
  owns = false;
  seat = 0;
  seats = 0;
  room = 0;
  dealt = [];
  taken = [];
  back = [];
}

-- the list of a thief that came back
abbrev pub returned : ℕ → List ℕ → Returned
returned seat taken = record { seat = seat; taken = taken }

-- ---- what seats know after a step

-- more jobs were dealt
abbrev pub dealt_more : SeatKnowledge → List ℕ → SeatKnowledge
dealt_more v xs = record {
  live = v.live;
  owns = v.owns;
  seat = v.seat;
  seats = v.seats;
  room = v.room;
  dealt = v.dealt ++ xs;
  taken = v.taken;
  back = v.back;
}

-- more jobs were taken
abbrev pub taken_more : SeatKnowledge → List ℕ → SeatKnowledge
taken_more v xs = record {
  live = v.live;
  owns = v.owns;
  seat = v.seat;
  seats = v.seats;
  room = v.room;
  dealt = v.dealt;
  taken = v.taken ++ xs;
  back = v.back;
}

-- one more seat was given away
abbrev pub one_seat_more : SeatKnowledge → SeatKnowledge
one_seat_more v = record {
  live = v.live;
  owns = v.owns;
  seat = v.seat;
  seats = v.seats + 1;
  room = v.room;
  dealt = v.dealt;
  taken = v.taken;
  back = v.back;
}

-- one more thief came back
abbrev pub one_more_back : SeatKnowledge → SeatKnowledge → SeatKnowledge
one_more_back v w = record {
  live = v.live;
  owns = v.owns;
  seat = v.seat;
  seats = v.seats;
  room = v.room;
  dealt = v.dealt;
  taken = v.taken;
  back = v.back ++ returned w.seat w.taken ∷ [];
}

-- ---- the rule

-- no two lists are of one seat
abbrev pub AreApart : List Returned → Type 0
AreApart [] = Unit {0}
AreApart (h ∷ hs) = AllByRecursion (λ k. h.seat ≢ k.seat) hs × AreApart hs

-- What a seat knows agrees with the turns, and the seat is at the port that `port_of` says. So
-- there is one port for each seat.
pub record IsSeated (turns : List Turn) (seats room : ℕ) (port_of : ℕ → Option ℕ) (port : ℕ)
    (v : SeatKnowledge) : Type 0 where
  pub at : port_of v.seat ≡ some port
  pub within : v.seat < seats
  pub room_is : v.room ≡ room
  pub taken_is : v.taken ≡ taken_by v.seat turns

-- The list of a thief that came back agrees with the turns, and no seat has its number now.
pub record HasReturned (turns : List Turn) (seats : ℕ) (port_of : ℕ → Option ℕ)
    (h : Returned) : Type 0 where
  pub gone : port_of h.seat ≡ none
  pub within : h.seat < seats
  pub taken_is : h.taken ≡ taken_by h.seat turns

-- What the owner knows beyond what every seat knows agrees with the turns.
pub record IsOwner (turns : List Turn) (dealt : List ℕ) (seats : ℕ) (port_of : ℕ → Option ℕ)
    (v : SeatKnowledge) : Type 0 where
  pub live : v.live ≡ true
  pub first : v.seat ≡ 0
  pub seats_is : v.seats ≡ seats
  pub dealt_is : v.dealt ≡ dealt
  pub back_is : AllByRecursion (HasReturned turns seats port_of) v.back
  pub apart : AreApart v.back

-- The rule. The dealt jobs are those that were taken, followed by those in the queue. Each turn is
-- of one of the seats, no more jobs were dealt than there is room for, and what each seat knows
-- agrees with this.
pub record FollowsRule (items : List ℕ) (views : List SeatKnowledge) : Type 0 where
  pub turns : List Turn
  pub dealt : List ℕ
  pub seats : ℕ
  pub room : ℕ
  pub port_of : ℕ → Option ℕ
  pub line : dealt ≡ jobs_of turns ++ items
  pub fits : length dealt ≤ room
  pub theirs : AllByRecursion (λ t. t.0 < seats) turns
  pub sits : (port : ℕ) (v : SeatKnowledge) → get_elem? views port ≡ some v → v.live ≡ true
      → IsSeated turns seats room port_of port v
  pub owns : (port : ℕ) (v : SeatKnowledge) → get_elem? views port ≡ some v → v.owns ≡ true
      → IsOwner turns dealt seats port_of v

-- ---- what the owner learns

-- What the owner knows agrees with some turns, and the jobs in the queue were dealt and not taken.
pub record Sees (v : SeatKnowledge) (items : List ℕ) : Type 0 where
  pub turns : List Turn
  pub line : v.dealt ≡ jobs_of turns ++ items
  pub theirs : AllByRecursion (λ t. t.0 < v.seats) turns
  pub mine : v.taken ≡ taken_by 0 turns
  pub back_is : AllByRecursion
      (λ h. (0 < h.seat) × (h.seat < v.seats) × (h.taken ≡ taken_by h.seat turns)) v.back
  pub apart : AreApart v.back

-- the owner's list and those that came back are in the places of their seats
pub record ArePlaced (v : SeatKnowledge) (lists : List (List ℕ)) : Type 0 where
  pub live : v.live ≡ true
  pub owns : v.owns ≡ true
  pub count : length lists ≡ v.seats
  pub mine : slice_index_or lists 0 [] ≡ v.taken
  pub back_is : AllByRecursion (λ h. slice_index_or lists h.seat [] ≡ h.taken) v.back
