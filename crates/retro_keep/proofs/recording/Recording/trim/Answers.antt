use Rattle.std.proofs.Common.{◌≡◌, ◌≤◌, subst}
use Rattle.retro_keep.specs.Recording.{IsRecordingOf, RecordingValue}
use Rattle.retro_keep.specs.Script.{ScriptValue}
use Rattle.retro_keep.specs.Trim.{script_from, trimmed}
use Rattle.retro_keep.proofs.Trim.{rest_kept, trimmed_is, trimmed_recording}
use Rattle.retro_keep.proofs.recording.Recording.trim.Goals as goal

pub invariant_of-result : goal.invariant_of-result
invariant_of-result c =
    let own = c.self.inside in
    let r : RecordingValue = record { first = own.first; from = own.from; lines = own.lines.items } in
    rest_kept r c.args.number c.count_before.result c.split_off.new.self.items c.in_ok-lines.lines.items
    c.apply_lines.new.state c.in_ok-lines.ensures.items c.in_ok-lines.ensures.tail
    (rw c.deref.ensures.value at c.count_before.ensures.before)
    (rw c.deref.ensures.value at c.count_before.ensures.after)
    (rw c.deref-2.ensures.value at c.in_ok-apply_lines.ensures) own.last c.self.invariant c.if-number-self.false

pub returns-clause-trimmed : goal.returns-clause-trimmed
returns-clause-trimmed c =
    let own = c.self.inside in
    let r : RecordingValue = record { first = own.first; from = own.from; lines = own.lines.items } in
    let t : RecordingValue = record {
      first = c.apply_lines.new.state;
      from = c.args.number;
      lines = c.in_ok-lines.lines.items;
    } in
    let is = trimmed_is r c.args.number c.count_before.result c.split_off.new.self.items c.in_ok-lines.lines.items
    c.apply_lines.new.state c.in_ok-lines.ensures.items c.in_ok-lines.ensures.tail
    (rw c.deref.ensures.value at c.count_before.ensures.before)
    (rw c.deref.ensures.value at c.count_before.ensures.after)
    (rw c.deref-2.ensures.value at c.in_ok-apply_lines.ensures) in
    subst (λ (q : RecordingValue). (q.from ≤ c.args.number) × (t ≡ trimmed c.args.number q)) c.self.view_is
    (c.if-number-self.false, is)

pub returns-clause-recording : goal.returns-clause-recording
returns-clause-recording c =
    let own = c.self.inside in
    let r : RecordingValue = record { first = own.first; from = own.from; lines = own.lines.items } in
    let t : RecordingValue = record {
      first = c.apply_lines.new.state;
      from = c.args.number;
      lines = c.in_ok-lines.lines.items;
    } in
    let is = trimmed_recording r c.args.number c.count_before.result c.split_off.new.self.items
    c.in_ok-lines.lines.items c.apply_lines.new.state c.in_ok-lines.ensures.items c.in_ok-lines.ensures.tail
    (rw c.deref.ensures.value at c.count_before.ensures.before)
    (rw c.deref.ensures.value at c.count_before.ensures.after)
    (rw c.deref-2.ensures.value at c.in_ok-apply_lines.ensures) in
    subst (λ (q : RecordingValue). (script : ScriptValue) → IsRecordingOf script q
    → IsRecordingOf (script_from c.args.number script) t) c.self.view_is is
