use Rattle.std.proofs.Common.{◌∙◌, Some, None, sym}
use Rattle.std.proofs.lemmas.Bool.Decides.{Decides-eqb}
use Rattle.std.proofs.lemmas.Slice.Eq.{strip_prefix_is}
use Rattle.casebook_host.proofs.Points.{covers_front, covers_not, covers_root}
use Rattle.casebook_host.proofs.Points.{empty_at_slash, first_at_slash}
use Rattle.casebook_host.proofs.mount.Mount.covers.Goals as goal

pub returns-then-eq : goal.returns-then-eq
returns-then-eq c =
    let root = sym (rw (c.as_slice-point.ensures, c.as_slice.ensures) at c.eq.ensures)
    ∙ c.if-eq.true in
    c.if-eq.true ∙ sym (covers_root c.args.path.now c.args.self.now.point root)

pub returns-then-is_empty : goal.returns-then-is_empty
returns-then-is_empty c =
    let other = sym (rw (c.as_slice-point.ensures, c.as_slice.ensures) at c.eq.ensures)
    ∙ c.if-eq.false in
    let front = rw c.as_slice-point.ensures at
    (strip_prefix_is Decides-eqb c.as_bytes-text.result.now c.as_slice-point.result.now
    (Some c.in-Some.rest) c.in-Some.ensures.cases) in
    c.if-is_empty.true
    ∙ sym (covers_front c.args.path.now _ c.args.self.now.point c.in-Some.rest.now
    (c.as_bytes-text.ensures.value ∙ c.as_str.ensures.value) other front
    ∙ empty_at_slash c.in-Some.rest.now (sym c.is_empty.ensures ∙ c.if-is_empty.true))

pub returns-else-is_empty : goal.returns-else-is_empty
returns-else-is_empty c =
    let other = sym (rw (c.as_slice-point.ensures, c.as_slice.ensures) at c.eq.ensures)
    ∙ c.if-eq.false in
    let front = rw c.as_slice-point.ensures at
    (strip_prefix_is Decides-eqb c.as_bytes-text.result.now c.as_slice-point.result.now
    (Some c.in-Some.rest) c.in-Some.ensures.cases) in
    first_at_slash c.in-Some.rest.now (sym c.is_empty.ensures ∙ c.if-is_empty.false)
    ∙ sym (covers_front c.args.path.now _ c.args.self.now.point c.in-Some.rest.now
    (c.as_bytes-text.ensures.value ∙ c.as_str.ensures.value) other front)

pub returns-in-None : goal.returns-in-None
returns-in-None c =
    let other = sym (rw (c.as_slice-point.ensures, c.as_slice.ensures) at c.eq.ensures)
    ∙ c.if-eq.false in
    let no_front = rw c.as_slice-point.ensures at
    (strip_prefix_is Decides-eqb c.as_bytes-text.result.now c.as_slice-point.result.now None
    c.in-None.ensures.cases) in
    sym (covers_not c.args.path.now _ c.args.self.now.point
    (c.as_bytes-text.ensures.value ∙ c.as_str.ensures.value) other no_front)
