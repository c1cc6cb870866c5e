-- The queries of all rules, added one rule after the other.
use Rattle.std.proofs.Common.{◌≡◌, ◌∙◌, sym, ap, List, [], ◌++◌}
use Rattle.retro_tree.specs.declared.state.State.{State}
use Rattle.casebook_needs.specs.FirstOfEach.{first_of_each}
use Rattle.casebook_needs.specs.Needs.{asked_of, named_queries, same_query, script_queries}
use Rattle.casebook_needs.specs.Needs.{session_queries, trace_queries, variable_queries}
use Rattle.casebook_needs.specs.Line.{LineValue}
use Rattle.casebook_needs.specs.declared.query.Query.{Query}
use Rattle.casebook_needs.specs.declared.source.Source.{Source}
use Rattle.casebook_needs.specs.inner.Steps.{with_items}
use Rattle.casebook_needs.proofs.FirstLemmas.{all_items, in_turn}

abbrev Asked : Type 0
Asked = List (Query × Source)

-- five lists added one after the other
five : (v w x y z : Asked)
    → with_items same_query (with_items same_query (with_items same_query
    (with_items same_query (with_items same_query [] v) w) x) y) z
    ≡ first_of_each same_query (v ++ w ++ x ++ y ++ z)
five v w x y z =
    ap (λ t. with_items same_query (with_items same_query (with_items same_query t x) y) z) (sym
    (in_turn [] v w))
    ∙ ap (λ t. with_items same_query (with_items same_query t y) z) (sym (in_turn [] (v ++ w) x))
    ∙ ap (λ t. with_items same_query t z) (sym (in_turn [] (v ++ w ++ x) y))
    ∙ sym (in_turn [] (v ++ w ++ x ++ y) z)
    ∙ all_items (v ++ w ++ x ++ y ++ z)

pub all_rules : (s : State) (line : LineValue) (a b c d e : Asked)
    → a ≡ with_items same_query [] (trace_queries s line)
    → b ≡ with_items same_query a (named_queries s line)
    → c ≡ with_items same_query b (script_queries s line)
    → d ≡ with_items same_query c (variable_queries line.text)
    → e ≡ with_items same_query d (session_queries line)
    → e ≡ first_of_each same_query (asked_of s line)
unfolding asked_of
all_rules s line a b c d e is_a is_b is_c is_d is_e =
    is_e
    ∙ ap (λ t. with_items same_query t (session_queries line)) (is_d
    ∙ ap (λ t. with_items same_query t (variable_queries line.text)) (is_c
    ∙ ap (λ t. with_items same_query t (script_queries s line)) (is_b
    ∙ ap (λ t. with_items same_query t (named_queries s line)) is_a)))
    ∙ five (trace_queries s line) (named_queries s line) (script_queries s line)
    (variable_queries line.text) (session_queries line)
