-- What `status` reads.
use Rattle.std.specs.Prelude.{◌≡◌, IfSome, ℕ, List, Option, option_map}
use Rattle.casebook_case.specs.Written.{IsCaseOf}
use Rattle.casebook_recorder_cli.specs.Spools.{AllSpools}
use Rattle.casebook_cli.specs.Status.{TablesValue}
use Rattle.casebook_cli.specs.declared.status.KeptSpool.{KeptSpool}
use Rattle.casebook_cli.specs.declared.status.MachineTables.{MachineTables}
use Rattle.casebook_repairs.specs.Views.{document_view}

abbrev pub tables_view : MachineTables → TablesValue
tables_view tables = record {
  folders = tables.folders.now;
  mounts = option_map (λ bytes. bytes.items) tables.mounts;
  who = option_map document_view tables.who;
}

-- what the spool with a name has
pub record IsKeptIn (spools : Option AllSpools) (name : List ℕ) (kept : KeptSpool) : Type 0 where
  pub is_case : IfSome spools (λ all. IsCaseOf (all.held name) (all.unseen name) kept.text.items)
  pub folders : IfSome spools (λ all. kept.folders.items ≡ all.watched name)
