use Rattle.std.proofs.Common.{◌≡◌, ◌∙◌, Some, bytes_eq, sym, false}
use Rattle.std.proofs.lemmas.Slice.Eq.{bytes_eq-Decides}
use Rattle.retro_log.specs.inner.Parts.{version_key}
use Rattle.retro_log.proofs.Parts.{put_from, put_lines, put_other, put_sessions, put_tree, put_version}
use Rattle.retro_log.proofs.reading.members.with_member.Goals as goal
use Rattle.retro_log.proofs.reading.members.with_member.Goals.{in-from+in_ok-read_number-in-from, in-tree+in_ok-read_tree_rows-in-tree}
use Rattle.retro_log.proofs.reading.members.with_member.Goals.{in-sessions+in_ok-read_session_rows-in-sessions, in-lines+in_ok-read_lines-in-lines}
use Rattle.retro_log.proofs.reading.members.with_member.Goals.{in_default+in_ok-read_version-in_default, in_default-2+in_ok-pass_value-in_default-2}

pub returns-clause-value : goal.returns-clause-value
returns-clause-value g c =
    let key = c.args.key.now in
    let kind = g.L.Line.kind in
    let line_of = g.L.Line.line_of in
    elim c.match-key.branch [
      | in-from+in_ok-read_number-in-from w ↦
          let read = w.in_ok-read_number-in-from.ensures.value in
          rw (w.reader-is, w.parts-is) (
            read.0,
            read.1,
            λ ms is.
                (λ i. record (is i) { from = Some (read.2 i) }) ∙ sym (put_from line_of read.0 ms kind key w.in-from.is),
          )
      | in-tree+in_ok-read_tree_rows-in-tree w ↦
          let read = w.in_ok-read_tree_rows-in-tree.ensures.value in
          rw (w.reader-is, w.parts-is) (
            read.0,
            read.1,
            λ ms is.
                (λ i. record (is i) { tree = Some (read.2 i) }) ∙ sym (put_tree line_of read.0 ms kind key w.in-tree.is),
          )
      | in-sessions+in_ok-read_session_rows-in-sessions w ↦
          let read = w.in_ok-read_session_rows-in-sessions.ensures.value in
          rw (w.reader-is, w.parts-is) (
            read.0,
            read.1,
            λ ms is.
                (λ i. record (is i) { sessions = Some (read.2 i) })
                ∙ sym (put_sessions line_of read.0 ms kind key w.in-sessions.is),
          )
      | in-lines+in_ok-read_lines-in-lines w ↦
          let read = w.in_ok-read_lines-in-lines.ensures.value in
          rw (w.reader-is, w.parts-is) (
            read.0,
            read.1,
            λ ms is.
                (λ i. record (is i) { lines = Some (read.2 i) }) ∙ sym (put_lines line_of read.0 ms kind key w.in-lines.is),
          )
      | in_default+in_ok-read_version-in_default w ↦
          let read = w.in_ok-read_version-in_default.ensures.value in
          let same = sym w.eq.ensures ∙ w.if-eq.true in
          let named = (bytes_eq-Decides key w.version_key.result.now).0 same ∙ w.version_key.ensures in
          rw (w.reader-is, w.parts-is) (
            read.0,
            read.1,
            λ ms is.
                (λ i. record (is i) { version = Some (read.2 i) })
                ∙ sym (put_version line_of read.0 ms kind key named),
          )
      | in_default-2+in_ok-pass_value-in_default-2 w ↦
          let read = w.in_ok-pass_value-in_default-2.ensures.value in
          let other : bytes_eq key w.version_key.result.now ≡ false = sym w.eq.ensures ∙ w.if-eq.false in
          let not_version : key ≡ version_key kind → ⊥ = λ is.
          let same = (bytes_eq-Decides key w.version_key.result.now).1 (is ∙ sym w.version_key.ensures) in absurd (cc) in
          rw (w.reader-is, w.parts-is) (
            read.0,
            read.1,
            λ ms is.
                (λ i. record (is i) { is_known = false })
                ∙ sym (put_other line_of read.0 ms kind key not_version w.in_default.not-from
                w.in_default.not-tree w.in_default.not-sessions w.in_default.not-lines),
          )
    ]
