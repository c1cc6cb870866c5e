use Rattle.std.proofs.Common.{◌≡◌, ◌∷◌, [], ◌∙◌, ap, arith}
use Rattle.json.specs.Reads.{token_of}
use Rattle.retro_value.specs.Left.{value_left}
use Rattle.retro_value.proofs.Left.{no_value, value_array}
use Rattle.retro_value.proofs.list.begins_array.Goals as goal

pub returns-in_err-token-clause-not_json : goal.returns-in_err-token-clause-not_json
returns-in_err-token-clause-not_json c refused =
    let empty : c.args.reader.now ≡ [] = grind arith in
    ap (value_left c.args.depth) empty ∙ no_value c.args.depth

pub returns-in-BeginArray-clause-value : goal.returns-in-BeginArray-clause-value
returns-in-BeginArray-clause-value c =
    let first : c.args.reader.now ≡ token_of c.in_ok-token.token ∷ c.next.new.self = grind arith in
    ap (value_left c.args.depth) (first ∙ ap (λ t. token_of t ∷ c.next.new.self) c.in-BeginArray.is)
    ∙ value_array c.args.depth c.next.new.self c.requires
