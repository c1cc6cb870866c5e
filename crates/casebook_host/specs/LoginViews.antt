-- What contracts see of a login.
use Rattle.casebook_host.specs.Logins as logins
use Rattle.casebook_host.specs.declared.login.Login.{Login}

-- a login without where its texts lie in memory
abbrev pub login_value : Login → logins.LoginValue
login_value login = record { name = login.name.now; terminal = login.terminal.now }
