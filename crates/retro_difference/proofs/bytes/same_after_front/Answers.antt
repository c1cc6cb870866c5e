use Rattle.std.proofs.Common.{false, ◌++◌, ap, sym, ◌∙◌}
use Rattle.std.specs.Prelude.{IsTrue}
use Rattle.retro_difference.proofs.TwoParts.{same_end}
use Rattle.retro_difference.proofs.bytes.same_after_front.Goals as goal

pub returns-then-not-is_joined : goal.returns-then-not-is_joined
returns-then-not-is_joined c = (
  λ t. absurd (clash t),
  λ e. sym c.if-not-is_joined.true
      ∙ c.is_joined.ensures.1
      (same_end c.args.front.now c.args.end.now c.args.other.now c.args.other_end.now c.requires e
      ∙ ap (λ r. r ++ c.args.other_end.now) (sym c.split_at.ensures.back)),
)
  where
    clash : IsTrue false → ⊥
    clash t = cc
