use Rattle.std.proofs.Common.{rules, sym, subst}
use Rattle.casebook_stand_in.specs.Texts.{Lead}
use Rattle.casebook_explain.proofs.Needing.{sound_line}
use Rattle.casebook_explain.proofs.ToldLines.{lead_end}
use Rattle.casebook_explain.proofs.telling.tell_line.Goals as goal

-- src/telling.rt:93:1
pub returns-in-Ok-clause-sound : goal.returns-in-Ok-clause-sound
returns-in-Ok-clause-sound c =
    sound_line c.args.line _ c.args.state.now c.explain.new.state c.sid-session.ensures.value
    (subst (λ sid. Lead sid c.in-Ok.explained.runs.items c.args.state.now c.explain.new.state)
    (sym c.sid-session.ensures.value) c.in-Ok.ensures.leads)
    (search rules)

-- src/telling.rt:93:1
pub returns-in-Ok-clause-state : goal.returns-in-Ok-clause-state
returns-in-Ok-clause-state c =
    sym (lead_end c.args.line.effect.sid c.in-Ok.explained.runs.items c.args.state.now
    c.explain.new.state c.in-Ok.ensures.leads)
