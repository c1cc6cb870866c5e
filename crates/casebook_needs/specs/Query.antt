-- Queries about the state in which a line begins, and their order, which is derived: by kind, and
-- then by their fields.
use Rattle.std.specs.Prelude.{ℕ, Bool, refl}
use Rattle.std.proofs.Common.{ap}
use Rattle.std.specs.Ordering.{eq_by_cmp}
use Rattle.std.specs.Cmp.{IsTotalOrder}
use Rattle.std.specs.FinMap.{IsAntisymmetric}
use Rattle.std.specs.declared.cmp.Ordering.{Ordering}
use Rattle.retro_path.specs.Order.{path_exact, text_exact}
use Rattle.retro_tree.specs.declared.ask.Ask.{Ask}
use Rattle.retro_tree.specs.declared.ask.Ask.TheVariants as asks
use Rattle.casebook_needs.specs.declared.query.Query.{Query}
use Rattle.casebook_needs.specs.declared.query.Query.TheVariants as queries
use Rattle.casebook_needs.specs.contracts.query.QueryOrd.TheImpl as query_ord
use Rattle.casebook_needs.specs.contracts.query.QueryOrd.TheImpl.Laws as query_laws

-- a query about a session
abbrev pub ask_of : ℕ → Query → Ask
ask_of session (queries.Bytes p) = asks.Bytes p
ask_of session (queries.Names p) = asks.Names p
ask_of session (queries.Var name) = asks.VarOf session name
ask_of session queries.Status = asks.StatusOf session
ask_of session queries.Cwd = asks.CwdOf session

abbrev pub query_cmp : Query → Query → Ordering
query_cmp = (query_ord.ghosts).cmp

-- whether two queries are equal
abbrev pub query_eq : Query → Query → Bool
query_eq = eq_by_cmp query_cmp

pub query_total : IsTotalOrder query_cmp
query_total = query_laws.total-law

-- queries that compare equal are equal
pub query_exact : IsAntisymmetric query_cmp
query_exact (queries.Bytes p) (queries.Bytes q) e = ap queries.Bytes (path_exact p q e)
query_exact (queries.Bytes p) (queries.Names q) e = cc
query_exact (queries.Bytes p) (queries.Var y) e = cc
query_exact (queries.Bytes p) queries.Status e = cc
query_exact (queries.Bytes p) queries.Cwd e = cc
query_exact (queries.Names p) (queries.Bytes q) e = cc
query_exact (queries.Names p) (queries.Names q) e = ap queries.Names (path_exact p q e)
query_exact (queries.Names p) (queries.Var y) e = cc
query_exact (queries.Names p) queries.Status e = cc
query_exact (queries.Names p) queries.Cwd e = cc
query_exact (queries.Var x) (queries.Bytes q) e = cc
query_exact (queries.Var x) (queries.Names q) e = cc
query_exact (queries.Var x) (queries.Var y) e = ap queries.Var (text_exact x y e)
query_exact (queries.Var x) queries.Status e = cc
query_exact (queries.Var x) queries.Cwd e = cc
query_exact queries.Status (queries.Bytes q) e = cc
query_exact queries.Status (queries.Names q) e = cc
query_exact queries.Status (queries.Var y) e = cc
query_exact queries.Status queries.Status e = refl
query_exact queries.Status queries.Cwd e = cc
query_exact queries.Cwd (queries.Bytes q) e = cc
query_exact queries.Cwd (queries.Names q) e = cc
query_exact queries.Cwd (queries.Var y) e = cc
query_exact queries.Cwd queries.Status e = cc
query_exact queries.Cwd queries.Cwd e = refl
