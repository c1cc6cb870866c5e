-- From what `clap` promises of a parse to the command that words name.
use Rattle.std.proofs.Common.{◌≡◌, List, [], ◌∷◌, Option, Some, None, option_map, Box}
use Rattle.std.proofs.Common.{box_value, refl, sym, inl, inr}
use Rattle.clap.specs.Words.{App, Kinds, Row, Text, fault_of, kind_of}
use Rattle.clap.specs.Words.{subcommand_of, subcommand_rows, subcommand_rows_of}
use Rattle.clap.specs.Words.{subcommand_name_of, HasKind}
use Rattle.clap.specs.declared.parser.matches.ArgMatches.{ArgMatches}
use Rattle.clap.specs.declared.parser.matches.ArgMatches.TheViews.{out-ArgMatches, out-SubCommand}
use Rattle.clap.specs.declared.parser.matches.SubCommand.{SubCommand}
use Rattle.clap.specs.declared.error.Error.{Error}
use Rattle.clap.specs.declared.error.kind.ErrorKind.TheVariants as kind
use Rattle.retro_edge.specs.Calls.{Call, Named, call_of, named_in, refused, unless_fault}

abbrev Level : Type 0
Level = Text × List Row

same_pair : (n m : Text) (r s : List Row) → Some n ≡ Some m → Some r ≡ Some s
    → ◌≡◌ {A = Option Level} (Some (m, s)) (Some (n, r))
same_pair n m r s h k =
    let en : n ≡ m = cc in
    let er : r ≡ s = cc in
    rw (en, er) refl

at_level : {Z : Type 0} (o : Option (Box SubCommand Z)) (name : Text) (rows : List Row)
    → Some name ≡ option_map (λ b. (out-SubCommand (box_value b)).name.now) o
    → Some rows ≡ option_map (λ p. p.1) (subcommand_rows o) → subcommand_rows o ≡ Some (name, rows)
at_level None name rows h k = absurd (cc)
at_level (Some b) name rows h k = same_pair name _ rows _ h k

pub found_level : (m : ArgMatches) (name : Text) (rows : List Row)
    → Some name ≡ subcommand_name_of m
    → Some rows ≡ option_map (λ p. p.1) (subcommand_rows (out-ArgMatches m).subcommand)
    → subcommand_rows_of m ≡ Some (name, rows)
found_level m name rows h k = at_level (out-ArgMatches m).subcommand name rows h k

none_at : {Z : Type 0} (o : Option (Box SubCommand Z))
    → None ≡ option_map (λ b. (out-SubCommand (box_value b)).name.now) o → subcommand_rows o ≡ None
none_at None h = refl
none_at (Some b) h = absurd (cc)

pub no_level : (m : ArgMatches) → None ≡ subcommand_name_of m → subcommand_rows_of m ≡ None
no_level m h = none_at (out-ArgMatches m).subcommand h

-- a parse that ended
pub parsed_words : (program : App) (words : List Text) (o : Option Level)
    → fault_of program words ≡ [] → o ≡ subcommand_of program words → (meant : Named)
    → unless_fault [] (option_map call_of o) ≡ meant
    → named_in program words ≡ meant
unfolding named_in
parsed_words program words o none sub meant is = rw (none, sym sub) is

-- a parse that failed
refused_by : (kinds : Kinds) (e : Error) (o : Option Call) → HasKind kinds e
    → (kind_of e ≡ kind.OutOfMemory → ⊥)
    → unless_fault kinds o ≡ refused
refused_by [] e o (inl m) other = absurd (other m)
refused_by [] e o (inr h) other = absurd h
refused_by (k ∷ ks) e o h other = refl

pub refused_words : (program : App) (words : List Text) (e : Error)
    → HasKind (fault_of program words) e
    → (kind_of e ≡ kind.OutOfMemory → ⊥) → named_in program words ≡ refused
unfolding named_in
refused_words program words e h other = refused_by (fault_of program words) e _ h other
