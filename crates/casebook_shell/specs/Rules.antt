-- What in a shell may give a line another meaning, and which lines mean what they say.
use Rattle.std.specs.Prelude.{ℕ, ◌&&◌, Bool, not, List, refl}
use Rattle.std.specs.Coded.{Coded, code_by, coded_bool, coded_list, coded_ℕ, coded×}
use Rattle.std.specs.FinSet as set
use Rattle.std.specs.List.{filter_map, list_any}
use Rattle.retro_path.specs.Order.{text_cmp}
use Rattle.casebook_needs.specs.Words.{words_of}
use Rattle.casebook_shell.specs.Rows.{is_switch, name_in, rows_of}

-- the names of functions and aliases, and whether no option changes what lines mean
pub record Rules : Type 0 where
  pub names : set.FinSet text_cmp
  pub is_usual : Bool

-- rules are stored as the pair of their fields
abbrev pub rules_code : Coded Rules
rules_code =
    code_by (set.FinSet text_cmp × Bool) (coded× (set.code (coded_list coded_ℕ)) coded_bool)
    (λ rules. (rules.names, rules.is_usual))
    (λ pair. record { names = pair.0; is_usual = pair.1 }) (λ rules. refl)

-- the rules of a shell, by what bash prints of it
unfoldable pub rules_of : List ℕ → Rules
rules_of shell = record {
  names = set.from_list (filter_map name_in (rows_of shell));
  is_usual = not (list_any is_switch (rows_of shell));
}

-- rules with one more name
abbrev pub with_name : List ℕ → Rules → Rules
with_name name rules = record {
  names = set.insert rules.names name;
  is_usual = rules.is_usual;
}

-- Whether a text may mean under these rules what it means in a plain shell: no option changes it,
-- and none of its words is a name of the rules.
unfoldable pub means_itself : Rules → List ℕ → Bool
means_itself rules text =
    rules.is_usual && not (list_any (set.contains rules.names) (words_of text))
