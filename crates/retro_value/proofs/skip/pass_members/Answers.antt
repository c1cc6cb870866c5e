use Rattle.std.proofs.Common.{◌≡◌, ◌∙◌, ℕ, List, Some, None, refl, arith}
use Rattle.json.specs.Json.{read_key}
use Rattle.serde_json.specs.Data.{no_members, put}
use Rattle.retro_value.proofs.Left.{key_refused, member_read, member_refused, members_over}
use Rattle.retro_value.proofs.skip.pass_members.Goals as goal

pub members-init : goal.members-init
members-init c = (no_members, refl)

pub returns-in_err-next_key-clause-not_json : goal.returns-in_err-next_key-clause-not_json
returns-in_err-next_key-clause-not_json c refused =
    c.members.invariant.1 ∙ key_refused c.args.depth c.members.invariant.0 c.members.reader c.in_err-next_key.ensures.value

pub returns-in_err-pass_value-clause-not_json : goal.returns-in_err-pass_value-clause-not_json
returns-in_err-pass_value-clause-not_json c refused =
    let named : (k : List ℕ) × (read_key c.members.reader ≡ Some (Some k, c.next_key.new.self)) = grind arith in
    c.members.invariant.1
    ∙ member_refused c.args.depth c.members.invariant.0 named.0 c.members.reader c.next_key.new.self named.1
    (c.pass_value.ensures.not_json (grind arith))

pub members-preserved : goal.members-preserved
members-preserved c =
    let named : (k : List ℕ) × (read_key c.members.reader ≡ Some (Some k, c.next_key.new.self)) = grind arith in
    let read = c.in_ok-pass_value.ensures.value in (
      put named.0 read.0 c.members.invariant.0,
      c.members.invariant.1
          ∙ member_read c.args.depth c.members.invariant.0 named.0 c.members.reader c.next_key.new.self
          c.pass_value.new.reader read.0 named.1 read.1,
    )

pub returns-clause-value : goal.returns-clause-value
returns-clause-value c =
    let over : read_key c.members.reader ≡ Some (None, c.next_key.new.self) = grind arith in (
      c.members.invariant.0,
      c.members.invariant.1 ∙ members_over c.args.depth c.members.invariant.0 c.members.reader c.next_key.new.self over,
    )
