-- How deep `if` and `for` nest in a line, and the limit.
use Rattle.std.specs.Prelude.{ℕ, suc, max, Option, Some, None}
use Rattle.retro_syntax.specs.Tree.{Commands, last, more, AndOr, end, chain, Pipeline, pipeline, Command, simples}
use Rattle.retro_syntax.specs.Tree.{conditional, loop, Arms, fi, otherwise, elif}

-- the limit
abbrev pub deepest_nesting : ℕ
deepest_nesting = 32

-- A simple command has depth 0. An `if` or a `for` is one deeper than the deepest list in it.
abbrev mutual
  pub depth : Commands → ℕ
  depth (last a closed) = and_or_depth a
  depth (more a c) = max (and_or_depth a) (depth c)

  pub and_or_depth : AndOr → ℕ
  and_or_depth (end p) = pipeline_depth p
  and_or_depth (chain p op a) = max (pipeline_depth p) (and_or_depth a)

  pub pipeline_depth : Pipeline → ℕ
  pipeline_depth (pipeline negated c) = command_depth c

  pub command_depth : Command → ℕ
  command_depth (simples ss) = 0
  command_depth (conditional a) = suc (arms_depth a)
  command_depth (loop name ws c) = suc (depth c)

  -- An `elif` adds no depth.
  pub arms_depth : Arms → ℕ
  arms_depth (fi c t) = max (depth c) (depth t)
  arms_depth (otherwise c t e) = max (depth c) (max (depth t) (depth e))
  arms_depth (elif c t a) = max (depth c) (max (depth t) (arms_depth a))

-- A blank line has depth 0.
abbrev pub line_depth : Option Commands → ℕ
line_depth None = 0
line_depth (Some c) = depth c
