-- The queries of all rules are those that the five calls add.
use Rattle.std.proofs.Common.{◌∙◌, ap}
use Rattle.casebook_needs.specs.Line.{line_value}
use Rattle.casebook_needs.specs.Needs.{same_query, trace_queries}
use Rattle.casebook_needs.specs.inner.Steps.{with_items}
use Rattle.casebook_needs.proofs.AllRules.{all_rules}
use Rattle.casebook_needs.proofs.rules.asked_of.Goals as goal

pub returns : goal.returns
returns g c =
    c.into_vec.ensures
    ∙ all_rules (g.V.View.state c.args.view.now) (line_value c.args.line.now)
    c.in_ok-sought.sought c.in_ok-sought-2.sought c.in_ok-sought-3.sought c.in_ok-sought-4.sought
    c.in_ok-add_session.field-0
    (c.in_ok-sought.ensures
    ∙ ap (λ t. with_items same_query t
    (trace_queries (g.V.View.state c.args.view.now) (line_value c.args.line.now))) c.new.ensures)
    c.in_ok-sought-2.ensures c.in_ok-sought-3.ensures c.in_ok-sought-4.ensures
    c.in_ok-add_session.ensures
