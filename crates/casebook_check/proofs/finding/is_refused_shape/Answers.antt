use Rattle.retro_value.specs.Borrowed.{value_data}
use Rattle.casebook_check.proofs.Lists.{no_lines, no_sessions, no_tree}
use Rattle.casebook_check.proofs.finding.is_refused_shape.Goals as goal

pub returns-in-Tree : goal.returns-in-Tree
returns-in-Tree c =
    λ yes kind. rw c.in-Tree.is
    (no_tree (value_data c.args.value.now) c.args.refusal (c.is_no_list.ensures yes))

pub returns-in-Sessions : goal.returns-in-Sessions
returns-in-Sessions c =
    λ yes kind. rw c.in-Sessions.is
    (no_sessions (value_data c.args.value.now) c.args.refusal (c.is_no_list-in-Sessions.ensures yes))

pub returns-in-Lines : goal.returns-in-Lines
returns-in-Lines c =
    λ yes kind. rw c.in-Lines.is
    (no_lines kind (value_data c.args.value.now) c.args.refusal (c.is_no_list-in-Lines.ensures yes))
