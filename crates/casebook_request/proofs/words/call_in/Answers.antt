use Rattle.std.proofs.Common.{◌∙◌, ap, map, string_bytes, subst}
use Rattle.clap.specs.Words.{is_simple_and_free}
use Rattle.retro_edge.specs.Calls.{Names, named_in}
use Rattle.casebook_request.proofs.CallLemmas.{is_free_program}
use Rattle.casebook_request.proofs.words.call_in.Goals as goal

pub read_call-requires : goal.read_call-requires
read_call-requires c = ap is_simple_and_free c.in_ok-program_command.ensures ∙ is_free_program

pub returns : goal.returns
returns c =
    subst (λ a. Names c.read_call.result (named_in a (map string_bytes c.args.words.now)))
    c.in_ok-program_command.ensures c.read_call.ensures
