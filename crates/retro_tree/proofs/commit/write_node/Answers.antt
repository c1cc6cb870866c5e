use Rattle.retro_tree.proofs.Undoing.{node_written}
use Rattle.retro_tree.proofs.commit.write_node.Goals as goal

pub returns-clause-undo : goal.returns-clause-undo
returns-clause-undo c =
    node_written c.args.path c.in_ok-key.key c.args.node c.args.state.now c.in_ok-previous.previous
    c.exchange.new.self c.requires c.in_ok-key.ensures c.in_ok-previous.ensures.ok c.in_ok-previous.ensures.previous
