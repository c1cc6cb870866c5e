use Rattle.serde_json.specs.View.{view}
use Rattle.retro_json.proofs.ReadBack.{read_back}
use Rattle.retro_json.proofs.writing.text.push_value.Goals as goal

pub returns-clause-read_back : goal.returns-clause-read_back
returns-clause-read_back c =
    let written = c.in_ok-written.ensures in
    read_back c.in_ok-written.written.items (view c.args.value.now) c.requires.float c.requires.low written.order
    (written.reads_back c.requires.low) (written.text c.requires.float) written.utf8
