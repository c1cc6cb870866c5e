use Rattle.std.proofs.Common.{◌≡◌, ◌∙◌, All, ap, sym}
use Rattle.retro_pool.specs.Seats.{OwnerValue, ThiefValue}
use Rattle.retro_pool_tests.proofs.boards.three_jobs_are_taken_by_three_seats.Goals as goal

pub settle-requires : goal.settle-requires
settle-requires g c =
    let same = c.next.ensures ∙ c.deal_all.ensures in
    c.steal_at.ensures.boards c.next.new.owner.board (λ k d lt. c.in_ok-owner.ensures.board k d lt ∙ sym same)

pub settle-requires-2 : goal.settle-requires-2
settle-requires-2 g c =
    let back = c.in-Err.ensures in
    let same = c.next.ensures ∙ c.deal_all.ensures in
    let now = c.next-2.ensures ∙ ap (λ (o : OwnerValue). o.board) back.1 in
    let before : All (λ (t : ThiefValue). t.board ≡ c.next-2.new.owner.board) c.steal_at.new.thieves.items =
    c.steal_at.ensures.boards c.next-2.new.owner.board
    (λ k d lt. c.in_ok-owner.ensures.board k d lt ∙ sym (now ∙ same)) in
    c.steal_at-3.ensures.boards c.next-2.new.owner.board
    (c.steal_at-2.ensures.boards c.next-2.new.owner.board (rw back.2 before))
