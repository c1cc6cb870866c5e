-- What `status` reads beside a spool.
use Rattle.std.specs.Prelude.{ℕ, List, Option, codes, option_map}
use Rattle.retro_path.specs.Path.{PathValue}
use Rattle.casebook_host.specs.Logins.{LoginValue, logins_in}
use Rattle.casebook_host.specs.Mounts.{unseen}
use Rattle.casebook_status.specs.Status.{HostValue}
use Rattle.casebook_repairs.specs.Inputs.{DocumentValue}

-- where Linux says what is mounted where, and how
unfoldable pub mounts_name : List ℕ
mounts_name = codes "/proc/self/mounts"

-- in which folders it isn't seen what lines only read, by what is mounted where
abbrev pub unseen_by : Option (List ℕ) → List PathValue → Option (List PathValue)
unseen_by table folders = option_map (λ text. unseen text folders) table

-- who is logged in, by a list of them
abbrev pub logins_by : Option DocumentValue → Option (List LoginValue)
logins_by who = option_map (λ document. logins_in document.bytes) who

-- the folders that are watched, and what a machine says of itself: what is mounted where, and who is
-- logged in
pub record TablesValue : Type 0 where
  pub folders : List PathValue
  pub mounts : Option (List ℕ)
  pub who : Option DocumentValue

abbrev pub host_of : TablesValue → HostValue
host_of tables = record {
  folders = tables.folders;
  unseen = unseen_by tables.mounts tables.folders;
  logins = logins_by tables.who;
}
