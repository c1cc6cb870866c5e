use Rattle.std.proofs.Common.{sym, ap, ◌∙◌, ◌||◌}
use Rattle.retro_text.specs.Spans.{is_up_to}
use Rattle.retro_text.specs.inner.Rising.{reaches}
use Rattle.retro_text.proofs.Rising.{next_begins}
use Rattle.retro_text.proofs.sweep.Sweep.take.Goals as goal
use Rattle.retro_text.proofs.sweep.Sweep.take.Goals.{in-None, in-Some}

pub returns-clause-covers : goal.returns-clause-covers
returns-clause-covers c = λ spans index le covered.
    next_begins spans c.args.rest.now index c.args.self.now.furthest c.match-self.self c.args.span le
    (λ i. elim c.match-self.branch [
      | in-None w ↦ ap (λ o. reaches o i) w.self-is
          ∙ sym (ap (λ o. reaches o i || is_up_to c.args.span.last i) w.in-None.is)
      | in-Some w ↦ ap (λ o. reaches o i) w.self-is ∙ w.further.ensures i
          ∙ sym (ap (λ o. reaches o i || is_up_to c.args.span.last i) w.in-Some.is)
    ])
    covered
