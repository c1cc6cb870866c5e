-- The codes of the versions of a cell, which finite maps need.
use Rattle.std.specs.Prelude.{ℕ, List, refl}
use Rattle.std.specs.Coded.{Coded, code_by, coded×, coded_list, coded_ℕ}
use Rattle.retro_tree.specs.declared.value.Value.{Value}
use Rattle.retro_tree.specs.contracts.value.Value as value_type
use Rattle.retro_history.specs.inner.Tracks.{TrackValue, VersionValue}

abbrev pub coded_value : Coded Value
coded_value = (value_type.the_row).coded

-- a version is encoded as its parts
abbrev pub coded_version : Coded VersionValue
coded_version =
    code_by (ℕ × (ℕ × (ℕ × Value))) (coded× coded_ℕ (coded× coded_ℕ (coded× coded_ℕ coded_value)))
    (λ v. (v.number, (v.checkpoint, (v.growths, v.value))))
    (λ p. record { number = p.0; checkpoint = p.1.0; growths = p.1.1.0; value = p.1.1.1 }) (λ _. refl)

-- the versions of a cell are encoded as the pair of the earlier ones and the last
abbrev pub coded_track : Coded TrackValue
coded_track =
    code_by (List VersionValue × VersionValue) (coded× (coded_list coded_version) coded_version)
    (λ t. (t.earlier, t.last)) (λ p. record { earlier = p.0; last = p.1 }) (λ _. refl)
