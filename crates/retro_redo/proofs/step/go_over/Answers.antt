use Rattle.std.proofs.Common.{refl}
use Rattle.retro_tree.proofs.Results.{on_ok}
use Rattle.retro_redo.proofs.NextLines.{pair_of}
use Rattle.retro_redo.proofs.step.go_over.Goals as goal

pub returns-in-Keep-clause-uses : goal.returns-in-Keep-clause-uses
returns-in-Keep-clause-uses c =
    on_ok c.advance.result _ _ (λ over k t well at exact among.
    over.uses k (pair_of c.args.line) t well at refl refl exact among) c.advance.ensures.ok

pub returns-in_ok-none-in-Cancel-clause-uses : goal.returns-in_ok-none-in-Cancel-clause-uses
returns-in_ok-none-in-Cancel-clause-uses c =
    on_ok c.advance-in-Cancel.result _ _ (λ over k t well at exact among.
    over.uses k (pair_of c.args.line) t well at refl refl exact among) c.advance-in-Cancel.ensures.ok

pub returns-in-Take-clause-uses : goal.returns-in-Take-clause-uses
returns-in-Take-clause-uses c =
    on_ok c.advance-in-Take.result _ _ (λ over k t well at exact among.
    over.uses k (pair_of c.args.line) t well at refl refl exact among) c.advance-in-Take.ensures.ok
