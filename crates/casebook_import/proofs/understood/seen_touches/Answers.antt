use Rattle.std.proofs.Common.{◌∙◌, ap, sym, List, map}
use Rattle.casebook_typed.specs.Values.{change_value, seen_value}
use Rattle.casebook_typed.specs.declared.seen.PathChange.{PathChange}
use Rattle.casebook_import.specs.Understood.{touch_opaque}
use Rattle.casebook_import.proofs.Touching.{changes_touch, listed_touch, read_touch}
use Rattle.casebook_import.proofs.understood.seen_touches.Goals as goal

pub returns-then-read : goal.returns-then-read
returns-then-read c =
    sym (read_touch c.args.state.now (seen_value c.args.seen.now)
    (ap (touch_opaque c.args.state.now) (sym c.as_slice.ensures.value)
    ∙ sym c.in_ok-read.ensures ∙ c.if-read.true))

pub returns-then-listed : goal.returns-then-listed
returns-then-listed c =
    sym (listed_touch c.args.state.now (seen_value c.args.seen.now)
    (ap (touch_opaque c.args.state.now) (sym c.as_slice.ensures.value)
    ∙ sym c.in_ok-read.ensures ∙ c.if-read.false)
    (ap (touch_opaque c.args.state.now) (sym c.as_slice-2.ensures.value)
    ∙ sym c.in_ok-listed.ensures ∙ c.if-listed.true))

pub returns : goal.returns
returns c =
    c.in_ok-changed.ensures
    ∙ ap (λ (changes : List PathChange). touch_opaque c.args.state.now
    (map (λ change. change.path) (map change_value changes))) c.as_slice-3.ensures.value
    ∙ sym (changes_touch c.args.state.now (seen_value c.args.seen.now)
    (ap (touch_opaque c.args.state.now) (sym c.as_slice.ensures.value)
    ∙ sym c.in_ok-read.ensures ∙ c.if-read.false)
    (ap (touch_opaque c.args.state.now) (sym c.as_slice-2.ensures.value)
    ∙ sym c.in_ok-listed.ensures ∙ c.if-listed.false))
