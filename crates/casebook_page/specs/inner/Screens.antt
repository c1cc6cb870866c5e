-- What is known of what lines printed.
use Rattle.std.specs.Prelude.{Bool, true, false}
use Rattle.casebook_page.specs.declared.tell.Screens.{Screens}
use Rattle.casebook_page.specs.declared.tell.Screens.TheVariants.{Known, Unknown}

abbrev pub is_known : Screens → Bool
is_known Known = true
is_known Unknown = false
