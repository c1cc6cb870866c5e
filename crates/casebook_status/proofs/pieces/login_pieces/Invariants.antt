-- The logins so far, and those that are left.
use Rattle.std.proofs.Common.{◌≡◌, ◌++◌, drop, map}
use Rattle.casebook_host.specs.LoginViews.{login_value}
use Rattle.casebook_status.specs.Rows.{login_words}
use Rattle.casebook_status.proofs.pieces.login_pieces.Given as goal

abbrev pub invariant-loop-login : goal.invariant-loop-login
invariant-loop-login l =
    l.pieces.items ++ map login_words (map login_value (drop l.login-index l.logins))
    ≡ map login_words (map login_value l.logins)
