-- A line as a recorder noted it, and what it touched.
use Rattle.std.specs.Prelude.{ℕ, List, ◌++◌, map, Option}
use Rattle.std.specs.Option.{option_copied}
use Rattle.retro_path.specs.Path.{PathValue}
use Rattle.casebook_needs.specs.declared.effect.Effect.{Effect}
use Rattle.casebook_needs.specs.declared.effect.Effect.TheVariants.{Append, Other}
use Rattle.casebook_needs.specs.declared.observed_line.ObservedLine.{ObservedLine}

-- what a recorder notes of a line that it observed: the text as it was typed, the session and its
-- directory, what the line read, listed and did, and the file that holds the session's functions,
-- aliases and options, if there is one
pub record LineValue : Type 0 where
  pub text : List ℕ
  pub session : ℕ
  pub directory : PathValue
  pub read : List PathValue
  pub listed : List PathValue
  pub effects : List Effect
  pub shell : Option PathValue

-- what an observed line stands for
abbrev pub line_value : ObservedLine → LineValue
line_value line = record {
  text = line.text.now;
  session = line.session;
  directory = line.directory.now;
  read = line.read.now;
  listed = line.listed.now;
  effects = line.effects.now;
  shell = option_copied line.shell;
}

abbrev pub effect_path : Effect → PathValue
effect_path (Append p) = p
effect_path (Other p) = p

-- the paths that a line read, listed or changed
abbrev pub touched : LineValue → List PathValue
touched line = line.read ++ line.listed ++ map effect_path line.effects
