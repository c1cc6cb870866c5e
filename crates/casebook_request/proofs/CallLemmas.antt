-- What `clap`'s promises of a parse need of the program's command line.
use Rattle.std.proofs.Common.{◌≡◌, true, refl}
use Rattle.clap.specs.Words.{is_simple_and_free}
use Rattle.clap.proofs.OnLiterals.{clap_on_literals}
use Rattle.casebook_request.specs.Words.{program}

pub is_free_program : is_simple_and_free program ≡ true
unfolding clap_on_literals
is_free_program = refl
