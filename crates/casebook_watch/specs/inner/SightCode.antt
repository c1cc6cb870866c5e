-- The encoding of sights, which finite maps need.
use Rattle.std.specs.Prelude.{ℕ, ℤ, Bool, true, false, refl}
use Rattle.std.specs.Coded.{Coded, code_by, coded_ℕ, coded_ℤ, coded_bool, coded×}
use Rattle.casebook_folder.specs.declared.attributes.Attributes.{Attributes}
use Rattle.casebook_watch.specs.declared.file_time.FileTime.{FileTime}
use Rattle.casebook_watch.specs.declared.kind.Kind.{Kind}
use Rattle.casebook_watch.specs.declared.kind.Kind.TheVariants.{Dir, File, Link, Other}
use Rattle.casebook_watch.specs.declared.sight.Sight.{Sight}

abbrev pub bits_of : Kind → Bool × Bool
bits_of Dir = (true, true)
bits_of File = (true, false)
bits_of Link = (false, true)
bits_of Other = (false, false)

abbrev pub kind_by : Bool → Bool → Kind
kind_by true true = Dir
kind_by true false = File
kind_by false true = Link
kind_by false false = Other

abbrev pub coded_kind : Coded Kind
coded_kind =
    code_by (Bool × Bool) (coded× coded_bool coded_bool) bits_of (λ b. kind_by b.0 b.1)
    (elim [ Dir ↦ refl | File ↦ refl | Link ↦ refl | Other ↦ refl ])

abbrev pub coded_time : Coded FileTime
coded_time =
    code_by (ℤ × ℕ) (coded× coded_ℤ coded_ℕ) (λ t. (t.second, t.nanosecond))
    (λ p. record { second = p.0; nanosecond = p.1 }) (λ _. refl)

abbrev pub coded_attributes : Coded Attributes
coded_attributes =
    code_by (ℕ × (ℕ × ℕ)) (coded× coded_ℕ (coded× coded_ℕ coded_ℕ)) (λ a. (a.mode, (a.uid, a.gid)))
    (λ p. record { mode = p.0; uid = p.1.0; gid = p.1.1 }) (λ _. refl)

abbrev pub Parts : Type 0
Parts = Kind × ((ℕ × ℕ) × (Attributes × (FileTime × (FileTime × FileTime))))

abbrev pub coded_parts : Coded Parts
coded_parts =
    coded× coded_kind (coded× (coded× coded_ℕ coded_ℕ)
    (coded× coded_attributes (coded× coded_time (coded× coded_time coded_time))))

abbrev pub parts_of : Sight → Parts
parts_of s = (s.kind, ((s.size, s.number), (s.attributes, (s.read, (s.written, s.changed)))))

abbrev pub sight_of : Parts → Sight
sight_of p = record {
  kind = p.0;
  size = p.1.0.0;
  number = p.1.0.1;
  attributes = p.1.1.0;
  read = p.1.1.1.0;
  written = p.1.1.1.1.0;
  changed = p.1.1.1.1.1;
}

abbrev pub coded_sight : Coded Sight
coded_sight = code_by Parts coded_parts parts_of sight_of (λ _. refl)
