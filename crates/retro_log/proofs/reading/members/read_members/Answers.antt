use Rattle.std.proofs.Common.{◌≡◌, ◌∙◌, Some, None, refl, ap, arith}
use Rattle.json.specs.Json.{read_key}
use Rattle.json.proofs.Grammar.{read_key-shorter}
use Rattle.serde_json.specs.Data.{no_members, put}
use Rattle.retro_value.proofs.Left.{key_refused, member_read, member_refused, members_over, value_shorter}
use Rattle.retro_log.specs.inner.PartsView.{parts_view}
use Rattle.retro_log.proofs.reading.members.read_members.Goals as goal

pub members-init : goal.members-init
members-init g c = (no_members, refl, ap parts_view c.new-parts.ensures)

pub returns-in_err-key-clause-not_json : goal.returns-in_err-key-clause-not_json
returns-in_err-key-clause-not_json g c refused =
    c.members.invariant.1 ∙ key_refused 126 c.members.invariant.0 c.members.reader c.in_err-key.ensures.value

pub returns-in_err-parts-clause-not_json : goal.returns-in_err-parts-clause-not_json
returns-in_err-parts-clause-not_json g c refused =
    let key = c.in-Some.key.now in
    let named : read_key c.members.reader ≡ Some (Some key, c.next_key.new.self) = grind arith in
    c.members.invariant.1
    ∙ member_refused 126 c.members.invariant.0 key c.members.reader c.next_key.new.self named
    (c.with_member.ensures.not_json (grind arith))

pub members-preserved : goal.members-preserved
members-preserved g c =
    let key = c.in-Some.key.now in
    let named : read_key c.members.reader ≡ Some (Some key, c.next_key.new.self) = grind arith in
    let ms = c.members.invariant.0 in
    let read = c.in_ok-parts.ensures.value in (
      put key read.0 ms,
      c.members.invariant.1
          ∙ member_read 126 ms key c.members.reader c.next_key.new.self c.with_member.new.reader read.0 named read.1,
      read.2 ms c.members.invariant.2,
    )

pub members-smaller : goal.members-smaller
members-smaller g c =
    let key = c.in-Some.key.now in
    let named : read_key c.members.reader ≡ Some (Some key, c.next_key.new.self) = grind arith in
    let read = c.in_ok-parts.ensures.value in
    let fewer = value_shorter 126 c.next_key.new.self c.with_member.new.reader read.0 read.1 in
    let less = read_key-shorter c.members.reader (Some key) c.next_key.new.self named in
    omega (arith, fewer, less)

pub returns-clause-value : goal.returns-clause-value
returns-clause-value g c =
    let over : read_key c.members.reader ≡ Some (None, c.next_key.new.self) = grind arith in (
      c.members.invariant.0,
      c.members.invariant.1 ∙ members_over 126 c.members.invariant.0 c.members.reader c.next_key.new.self over,
      c.members.invariant.2,
    )
