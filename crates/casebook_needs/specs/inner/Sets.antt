-- Sets of paths and of queries.
use Rattle.std.specs.Prelude.{◌≡◌, List}
use Rattle.std.specs.BTreeSet.{BTreeSet, contains}
use Rattle.std.specs.List.{list_any}
use Rattle.retro_path.specs.Order.{path_cmp, path_eq}
use Rattle.retro_path.specs.Path.{PathValue}
use Rattle.casebook_needs.specs.Query.{query_cmp, query_eq}
use Rattle.casebook_needs.specs.declared.query.Query.{Query}
use Rattle.casebook_needs.specs.declared.source.Source.{Source}

-- a set has the paths of a list
abbrev pub HasPaths : BTreeSet PathValue → List PathValue → Type 0
HasPaths set paths = (q : PathValue) → contains path_cmp set q ≡ list_any (λ p. path_eq p q) paths

-- a set has the queries of a list
abbrev pub HasQueries : BTreeSet Query → List (Query × Source) → Type 0
HasQueries set asked = (q : Query) → contains query_cmp set q ≡ list_any (λ a. query_eq a.0 q) asked
