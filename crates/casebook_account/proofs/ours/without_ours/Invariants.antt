use Rattle.std.proofs.Common.{◌≡◌, fold}
use Rattle.retro_tree.specs.State.{put_node}
use Rattle.retro_tree.specs.declared.node.Node.TheVariants.{Missing}
use Rattle.casebook_account.specs.Ours.{without_ours}
use Rattle.casebook_account.proofs.ours.without_ours.Given as goal

abbrev pub invariant-loop-path : goal.invariant-loop-path
invariant-loop-path l =
    fold (λ t p. put_node p Missing t) l.bare l.path-iterator.rest.items ≡ without_ours l.state
