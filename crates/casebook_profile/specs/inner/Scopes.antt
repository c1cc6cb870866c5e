-- What the code knows of variables, as a scope.
use Rattle.std.specs.Prelude.{ℕ, Bool, false, ◌||◌, List, map}
use Rattle.std.specs.BTreeMap.{get}
use Rattle.std.specs.BTreeSet as set
use Rattle.std.specs.FinMap as finmap
use Rattle.std.specs.Option.{option_map_or}
use Rattle.std.specs.Ordering.{nat_cmp}
use Rattle.retro_tree.specs.Order.{text_cmp}
use Rattle.retro_tree.specs.Session.{session_in}
use Rattle.casebook_profile.specs.Scope.{Scope as ScopeValue}
use Rattle.casebook_profile.specs.declared.knowledge.Knowledge.{Knowledge}
use Rattle.casebook_profile.specs.declared.scope.Scope.{Scope}

-- whether a variable of a session was added
abbrev pub is_added : Knowledge → ℕ → List ℕ → Bool
is_added k sid name = option_map_or (λ names. set.contains text_cmp names name) (get nat_cmp k.added sid) false

-- whether a variable of a session is set, in the first state or since
abbrev pub knows : Knowledge → ℕ → List ℕ → Bool
knows k sid name =
    finmap.contains_key (session_in sid k.first.now.sessions).vars name || is_added k sid name

abbrev pub scope_view : Scope → ScopeValue
scope_view s = record {
  before = knows s.knowledge.now s.session;
  set = map (λ n. n.now) s.set.items;
  loops = map (λ n. n.now) s.loops.items;
}
