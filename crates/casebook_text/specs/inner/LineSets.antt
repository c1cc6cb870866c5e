-- Sets of lines, as the code has them: twice, in order of numbers and in order of sessions.
use Rattle.std.specs.Prelude.{◌≡◌, ◌&&◌, ◌||◌, Bool, List}
use Rattle.std.specs.BTreeMap.{is_at}
use Rattle.std.specs.List.{list_any}
use Rattle.std.specs.Ordering.{nat_cmp, ordering_then}
use Rattle.std.specs.declared.cmp.Ordering.{Ordering}
use Rattle.casebook_text.specs.Item.{Line}
use Rattle.casebook_text.specs.declared.line_set.LineSet.{LineSet}

-- the order of pairs of numbers
abbrev pub pair_cmp : Line → Line → Ordering
pair_cmp x y = ordering_then (nat_cmp x.0 y.0) (nat_cmp x.1 y.1)

-- whether two lines are the same
abbrev pub same_line : Line → Line → Bool
same_line x y = is_at (pair_cmp x) y

-- whether a pair is one of these
abbrev pub has_pair : Line → List Line → Bool
has_pair pair pairs = list_any (same_line pair) pairs

-- whether a set has a line
abbrev pub has_line : Line → LineSet → Bool
has_line line set = has_pair line set.by_number.keys

-- a pair the other way round
abbrev pub turned : Line → Line
turned line = (line.1, line.0)

-- both orders have the same lines
abbrev pub IsBoth : LineSet → Type 0
IsBoth set = (line : Line) → has_pair (turned line) set.by_session.keys ≡ has_line line set

-- a set has exactly these lines
pub record AreAll (lines : List Line) (set : LineSet) : Type 0 where
  pub both : IsBoth set
  pub same : (line : Line) → has_line line set ≡ has_pair line lines

-- whether a line is in the set that items choose, if these lines are chosen already and the rest is
-- decided by earlier items, which say `before`
abbrev pub in_set : Bool → LineSet → List Line → Line → Bool
in_set before rest chosen line = has_pair line chosen || (has_line line rest && before)
