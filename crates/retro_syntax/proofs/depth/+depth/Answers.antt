use Rattle.std.proofs.Common.{◌≡◌, ◌-◌, ◌&&◌, true, false, sym, ap, ◌∙◌}
use Rattle.retro_syntax.specs.inner.Fits as X
use Rattle.retro_syntax.proofs.DepthLemmas.{pipe_fits, if_deep, if_fits, if_else_deep, if_else_fits, for_deep, for_fits}
use Rattle.retro_syntax.proofs.depth.+depth.Goals as goal

pub command_fits-returns-in-Pipe : goal.command_fits-returns-in-Pipe
command_fits-returns-in-Pipe t c = pipe_fits c.in-Pipe.field-0 c.args.command.now c.args.room c.in-Pipe.is

pub command_fits-returns-then-room-eq0 : goal.command_fits-returns-then-room-eq0
command_fits-returns-then-room-eq0 t c = if_deep c.in-If.parts c.args.command.now c.args.room c.in-If.is
    c.if-room-eq0.true

pub command_fits-returns-else-room-eq0 : goal.command_fits-returns-else-room-eq0
command_fits-returns-else-room-eq0 t c =
    c.conditional_fits.ensures ∙ ap (λ x. X.conditional_fits x (c.args.room - 1)) c.deref.ensures
    ∙ sym (if_fits c.in-If.parts c.args.command.now c.args.room c.in-If.is c.if-room-eq0.false)

pub command_fits-returns-then-room-eq0-2 : goal.command_fits-returns-then-room-eq0-2
command_fits-returns-then-room-eq0-2 t c = if_else_deep c.in-IfElse.parts c.in-IfElse.alternative c.args.command.now
    c.args.room c.in-IfElse.is c.if-room-eq0-2.true

pub command_fits-returns-then-not-conditional_fits : goal.command_fits-returns-then-not-conditional_fits
command_fits-returns-then-not-conditional_fits t c =
    let first : false ≡ X.conditional_fits c.in-IfElse.parts.value (c.args.room - 1) =
    sym c.if-not-conditional_fits.true ∙ c.conditional_fits-in-IfElse.ensures
    ∙ ap (λ x. X.conditional_fits x (c.args.room - 1)) c.deref-in-IfElse.ensures in
    ap (λ b. b && X.list_fits c.in-IfElse.alternative.value (c.args.room - 1)) first
    ∙ sym (if_else_fits c.in-IfElse.parts c.in-IfElse.alternative c.args.command.now c.args.room c.in-IfElse.is
    c.if-room-eq0-2.false)

pub command_fits-returns-else-not-conditional_fits : goal.command_fits-returns-else-not-conditional_fits
command_fits-returns-else-not-conditional_fits t c =
    let first : true ≡ X.conditional_fits c.in-IfElse.parts.value (c.args.room - 1) =
    sym c.if-not-conditional_fits.false ∙ c.conditional_fits-in-IfElse.ensures
    ∙ ap (λ x. X.conditional_fits x (c.args.room - 1)) c.deref-in-IfElse.ensures in
    c.list_fits.ensures ∙ ap (λ x. X.list_fits x (c.args.room - 1)) c.deref-in-IfElse-2.ensures
    ∙ ap (λ b. b && X.list_fits c.in-IfElse.alternative.value (c.args.room - 1)) first
    ∙ sym (if_else_fits c.in-IfElse.parts c.in-IfElse.alternative c.args.command.now c.args.room c.in-IfElse.is
    c.if-room-eq0-2.false)

pub command_fits-returns-then-room-eq0-3 : goal.command_fits-returns-then-room-eq0-3
command_fits-returns-then-room-eq0-3 t c = for_deep c.in-For.parts c.args.command.now c.args.room c.in-For.is
    c.if-room-eq0-3.true

pub command_fits-returns-else-room-eq0-3 : goal.command_fits-returns-else-room-eq0-3
command_fits-returns-else-room-eq0-3 t c =
    c.list_fits-in-For.ensures ∙ ap (λ x. X.list_fits x.body (c.args.room - 1)) c.deref-in-For.ensures
    ∙ sym (for_fits c.in-For.parts c.args.command.now c.args.room c.in-For.is c.if-room-eq0-3.false)
