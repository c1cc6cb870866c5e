-- The command that words name, as `clap` reads them.
use Rattle.std.specs.Prelude.{List, [], ◌∷◌, Option, Some, None, Result, option_map}
use Rattle.clap.specs.Words.{App, Kinds, Row, Text, all_of, fault_of, first_of, rows_of}
use Rattle.clap.specs.Words.{subcommand_of}
use Rattle.clap.specs.Matches.{found_of}
use Rattle.retro_path.specs.OutOfMemory.{UnlessOutOfMemory}
use Rattle.retro_edge.specs.declared.call.CallFault.{CallFault}
use Rattle.retro_edge.specs.declared.call.CallFault.TheVariants as faults
use Rattle.retro_edge.specs.declared.call.CommandCall.{CommandCall}

-- a command's name, and what it is given
pub record Call : Type 0 where
  pub name : Text
  pub rows : List Row

-- the text that a command is given for an option or a word, if there is one
abbrev pub given : Text → Call → Option Text
given name call = first_of name call.rows

-- the texts that a command is given for an option that can be given several times, if it is given
abbrev pub all_given : Text → Call → Option (List Text)
all_given name call = all_of name call.rows

abbrev pub call_of : Text × List Row → Call
call_of p = record { name = p.0; rows = p.1 }

-- what words name: a command or none; or they are refused
pub data Named : Type 0 where
  called : Call → Named
  nothing : Named
  refused : Named

abbrev pub named : Option Call → Named
named None = nothing
named (Some call) = called call

abbrev pub unless_fault : Kinds → Option Call → Named
unless_fault [] call = named call
unless_fault (k ∷ ks) call = refused

-- what words name for a program, which are refused if `clap` refuses them
unfoldable pub named_in : App → List Text → Named
named_in program words =
    unless_fault (fault_of program words) (option_map call_of (subcommand_of program words))

-- ---- values of the code

abbrev pub call_view : CommandCall → Call
call_view call = record { name = call.name.now; rows = rows_of (found_of call.given) }

abbrev pub named_view : Option CommandCall → Named
named_view None = nothing
named_view (Some call) = called (call_view call)

-- what a fault says of the words: that they are refused, or None if memory ran out
abbrev pub not_named : CallFault → Option Named
not_named faults.NoMem = None
not_named faults.Refused = Some refused

-- the result is what the words name, unless memory ran out
abbrev pub Names : Result (Option CommandCall) CallFault → Named → Type 0
Names result meant = UnlessOutOfMemory named_view not_named result meant
