-- Quoted values, read from left to right.
use Rattle.std.proofs.Common.{◌≡◌, ◌≢◌, append-nil, eq-eqb, ⊎_elim, get_or, length, ℕ, zero}
use Rattle.std.proofs.Common.{suc, ◌-◌, ◌<◌, ◌≤◌, arith, Bool, true, false, refl, sym, ap}
use Rattle.std.proofs.Common.{List, [], ◌∷◌, ◌++◌, drop, append_assoc}
use Rattle.std.proofs.Common.{Option, Some, None, option_map}
use Rattle.std.specs.Prelude.{◌==◌, ◌||◌}
use Rattle.std.proofs.lemmas.Bool.{cases_Bool, eqb-true}
use Rattle.casebook_declare.specs.Quoted.{Said, quote_of, said_from, with_unit}
use Rattle.casebook_declare.specs.Units.{unit_of}
use Rattle.casebook_declare.specs.declared.quoting.Quoting.{Quoting}
use Rattle.casebook_declare.specs.declared.unit.Unit.{Unit}

-- passing over bytes
pub said_drop : (quoting : Quoting) (passed : ℕ) (text : List ℕ)
    → said_from quoting passed text ≡ said_from quoting 0 (drop passed text)
unfolding said_from
said_drop quoting zero text = refl
said_drop quoting (suc passed) [] = refl
said_drop quoting (suc passed) (b ∷ rest) = said_drop quoting passed rest

-- a value after its front
abbrev pub with_front : List ℕ → Bool → Said → Said
with_front front code said = record {
  value = front ++ said.value;
  has_code = code || said.has_code;
  rest = said.rest;
}

or_assoc : (a b c : Bool) → (a || (b || c)) ≡ ((a || b) || c)
or_assoc true b c = refl
or_assoc false b c = refl

or_false : (a : Bool) → (a || false) ≡ a
or_false true = refl
or_false false = refl

moved : (front : List ℕ) (code : Bool) (unit : Unit) (said : Option Said)
    → option_map (with_front front code) (option_map (with_unit unit) said)
    ≡ option_map (with_front (front ++ unit.byte ∷ []) (code || unit.is_code)) said
moved front code unit None = refl
moved front code unit (Some said) =
    rw (
      append_assoc front (unit.byte ∷ []) said.value,
      or_assoc code unit.is_code said.has_code,
    ) refl

dropped : (width : ℕ) (b : ℕ) (rest : List ℕ) → 1 ≤ width
    → drop (width - 1) rest ≡ drop width (b ∷ rest)
dropped zero b rest h = absurd (omega (arith, h))
dropped (suc width) b rest h = ap (λ n. drop n rest) (omega arith)

at_unit : (quoting : Quoting) (front : List ℕ) (code : Bool) (b : ℕ) (rest : List ℕ) (unit : Unit)
    → (b == quote_of quoting) ≡ false → unit_of quoting (b ∷ rest) ≡ Some unit → 1 ≤ unit.width
    → option_map (with_front front code) (said_from quoting 0 (b ∷ rest))
    ≡ option_map (with_front (front ++ unit.byte ∷ []) (code || unit.is_code))
    (said_from quoting 0 (drop unit.width (b ∷ rest)))
unfolding said_from
at_unit quoting front code b rest unit other is wide =
    rw (
      other,
      is,
      moved front code unit (said_from quoting (unit.width - 1) rest),
      said_drop quoting (unit.width - 1) rest,
      dropped unit.width b rest wide,
    ) refl

whole_front : (front : List ℕ) (code : Bool) (rest : List ℕ)
    → Some (record { value = front; has_code = code; rest = rest })
    ≡ Some (with_front front code (record { value = []; has_code = false; rest = rest }))
whole_front front code rest = rw (append-nil front, or_false code) refl

at_quote : (quoting : Quoting) (front : List ℕ) (code : Bool) (b : ℕ) (rest : List ℕ)
    → (b == quote_of quoting) ≡ true
    → Some (record { value = front; has_code = code; rest = rest })
    ≡ option_map (with_front front code) (said_from quoting 0 (b ∷ rest))
unfolding said_from
at_quote quoting front code b rest closes = rw closes (whole_front front code rest)

-- the closing quote
pub said_closed : (quoting : Quoting) (front : List ℕ) (code : Bool) (text rest : List ℕ)
    → 1 ≤ length text → get_or text 0 0 ≡ quote_of quoting → rest ≡ drop 1 text
    → Some (record { value = front; has_code = code; rest = rest })
    ≡ option_map (with_front front code) (said_from quoting 0 text)
said_closed quoting front code [] rest some closes is = absurd (omega (arith, some))
said_closed quoting front code (b ∷ more) rest some closes is =
    rw is (at_quote quoting front code b more (eq-eqb b (quote_of quoting) closes))

pub differs : (a b : ℕ) → a ≢ b → (a == b) ≡ false
differs a b other = ⊎_elim (λ same. absurd (other (eqb-true a b same))) (λ no. no)
    (cases_Bool (a == b))

at_odd : (quoting : Quoting) (front : List ℕ) (code : Bool) (b : ℕ) (rest : List ℕ)
    → (b == quote_of quoting) ≡ false → unit_of quoting (b ∷ rest) ≡ None
    → None ≡ option_map (with_front front code) (said_from quoting 0 (b ∷ rest))
unfolding said_from
at_odd quoting front code b rest other odd = rw (other, odd) refl

-- bytes that bash doesn't print
pub said_odd : (quoting : Quoting) (front : List ℕ) (code : Bool) (text : List ℕ)
    → 1 ≤ length text → get_or text 0 0 ≢ quote_of quoting → unit_of quoting text ≡ None
    → None ≡ option_map (with_front front code) (said_from quoting 0 text)
said_odd quoting front code [] some other odd = absurd (omega (arith, some))
said_odd quoting front code (b ∷ more) some other odd =
    at_odd quoting front code b more (differs b (quote_of quoting) other) odd

-- one byte of the value more
pub said_more : (quoting : Quoting) (front : List ℕ) (code : Bool) (text rest : List ℕ)
    (unit : Unit)
    → 1 ≤ length text → get_or text 0 0 ≢ quote_of quoting → unit_of quoting text ≡ Some unit
    → 1 ≤ unit.width → rest ≡ drop unit.width text
    → option_map (with_front (front ++ unit.byte ∷ []) (code || unit.is_code))
    (said_from quoting 0 rest)
    ≡ option_map (with_front front code) (said_from quoting 0 text)
said_more quoting front code [] rest unit some other unit_is wide is = absurd (omega (arith, some))
said_more quoting front code (b ∷ more) rest unit some other unit_is wide is =
    rw is (sym (at_unit quoting front code b more unit
    (differs b (quote_of quoting) other) unit_is wide))

-- no closing quote
pub said_open : (quoting : Quoting) (front : List ℕ) (code : Bool) (text : List ℕ) → length text < 1
    → None ≡ option_map (with_front front code) (said_from quoting 0 text)
unfolding said_from
said_open quoting front code [] none = refl
said_open quoting front code (b ∷ more) none = absurd (omega (arith, none))
