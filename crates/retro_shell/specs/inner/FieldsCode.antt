-- The encoding of fields while words are expanded, which the model of `Fields` needs.
use Rattle.std.specs.Prelude.{List, ℕ, Option, refl}
use Rattle.std.specs.Coded.{Coded, code_by, coded×, coded_list, coded_ℕ, coded_option}
use Rattle.retro_shell.specs.Fields.{Fields}

-- as the pair of the fields that have ended and the one that is open
abbrev pub coded_fields : Coded Fields
coded_fields =
    code_by (List (List ℕ) × Option (List ℕ))
    (coded× (coded_list (coded_list coded_ℕ)) (coded_option (coded_list coded_ℕ)))
    (λ f. (f.ended, f.current)) (λ p. record { ended = p.0; current = p.1 }) (λ _. refl)
