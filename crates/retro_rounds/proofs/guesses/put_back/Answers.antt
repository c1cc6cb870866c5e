use Rattle.std.proofs.Common.{◌≡◌, ◌∙◌, All, ap, subst, sym}
use Rattle.retro_pool.specs.declared.thief.Thief.{Thief}
use Rattle.retro_rounds.specs.inner.Workers.{board_of}
use Rattle.retro_rounds.proofs.Gathered.{all_pushed}
use Rattle.retro_rounds.proofs.guesses.put_back.Goals as goal

pub returns-in-Thief : goal.returns-in-Thief
returns-in-Thief c = λ b here before. (
  before.0,
  subst (All (λ (t : Thief). t.board ≡ b)) (sym c.push.ensures.items)
      (all_pushed (λ (t : Thief). t.board ≡ b) _ c.args.thieves.now.items c.in-Thief.seat before.1
      (sym (ap board_of c.in-Thief.is) ∙ here)),
)

pub returns-in-Owner : goal.returns-in-Owner
returns-in-Owner c = λ b here before. (sym (ap board_of c.in-Owner.is) ∙ here, before.1)
