use Rattle.std.proofs.Common.{◌≡◌, ◌∷◌, ◌-◌, ◌∙◌, Result, Ok, Err, ap, refl, sym}
use Rattle.std.specs.Prelude.{OnOk}
use Rattle.json.specs.Json.{parse_map}
use Rattle.json.specs.Reads.{token_of}
use Rattle.json.specs.Token as spec
use Rattle.json.specs.declared.token.Token.{Token}
use Rattle.serde_json.specs.Data.{Data, array, object}
use Rattle.retro_value.specs.Left.{IsOf, value_left}
use Rattle.retro_value.proofs.Left.{value_array, value_object, whole_value, wrong_token}
use Rattle.retro_value.proofs.skip.pass_rest.Goals as goal

weaker : {T E : Type 0} {P Q : Type 0} (r : Result T E) → (P → Q) → OnOk r P → OnOk r Q
weaker (Ok x) f h = f h
weaker (Err e) f h = tt

array_is_of : (t : Token) (d : Data) → token_of t ≡ spec.begin_array → IsOf spec.begin_array d → IsOf (token_of t) d
array_is_of t d e h = rw e h

object_is_of : (t : Token) (d : Data) → token_of t ≡ spec.begin_object → IsOf spec.begin_object d → IsOf (token_of t) d
object_is_of t d e h = rw e h

pub returns-in-BeginArray-clause-value : goal.returns-in-BeginArray-clause-value
returns-in-BeginArray-clause-value c =
    let r = c.args.reader.now in
    weaker c.pass_items.result
    (λ read. (
      array read.0,
      ap (λ t. value_left c.args.depth (token_of t ∷ r)) c.in-BeginArray.is ∙ value_array c.args.depth r c.requires
          ∙ ap (parse_map array) read.1,
      array_is_of c.args.token (array read.0) (ap token_of c.in-BeginArray.is) refl,
    )) c.pass_items.ensures.value

pub returns-in-BeginArray-clause-not_json : goal.returns-in-BeginArray-clause-not_json
returns-in-BeginArray-clause-not_json c refused =
    let r = c.args.reader.now in
    ap (λ t. value_left c.args.depth (token_of t ∷ r)) c.in-BeginArray.is ∙ value_array c.args.depth r c.requires
    ∙ ap (parse_map array) (c.pass_items.ensures.not_json refused)

pub returns-in-BeginObject-clause-value : goal.returns-in-BeginObject-clause-value
returns-in-BeginObject-clause-value c =
    let r = c.args.reader.now in
    weaker c.pass_members.result
    (λ read. (
      object read.0,
      ap (λ t. value_left c.args.depth (token_of t ∷ r)) c.in-BeginObject.is ∙ value_object c.args.depth r c.requires
          ∙ ap (parse_map object) read.1,
      object_is_of c.args.token (object read.0) (ap token_of c.in-BeginObject.is) refl,
    )) c.pass_members.ensures.value

pub returns-in-BeginObject-clause-not_json : goal.returns-in-BeginObject-clause-not_json
returns-in-BeginObject-clause-not_json c refused =
    let r = c.args.reader.now in
    ap (λ t. value_left c.args.depth (token_of t ∷ r)) c.in-BeginObject.is ∙ value_object c.args.depth r c.requires
    ∙ ap (parse_map object) (c.pass_members.ensures.not_json refused)

pub returns-then-is_whole-clause-value : goal.returns-then-is_whole-clause-value
returns-then-is_whole-clause-value c =
    whole_value c.args.depth (token_of c.args.token) c.args.reader.now (sym c.is_whole.ensures ∙ c.if-is_whole.true)

pub returns-else-is_whole-clause-not_json : goal.returns-else-is_whole-clause-not_json
returns-else-is_whole-clause-not_json c refused =
    wrong_token c.args.depth c.args.token c.args.reader.now c.in_default.not-BeginArray c.in_default.not-BeginObject
    (sym c.is_whole.ensures ∙ c.if-is_whole.false)
