use Rattle.std.proofs.Common.{◌≡◌, true, ap, subst, ◌∙◌}
use Rattle.std.specs.FinMap as finmap
use Rattle.retro_tree.specs.Lawful.{IsLawful}
use Rattle.retro_tree.specs.Notes.{after, Holds}
use Rattle.retro_tree.specs.Commit.{committed}
use Rattle.retro_shell.specs.Line.{line}
use Rattle.casebook_stand_in.proofs.Leading.{one_run_more}
use Rattle.casebook_stand_in.proofs.trial.Trial.run.Goals as goal

pub returns-clause-trial : goal.returns-clause-trial
returns-clause-trial c =
    let ran = c.in_ok-ran.ran in
    let means : IsLawful c.new-view.result → finmap.contains_key c.new-view.result.sessions c.args.sid ≡ true
    → line c.args.sid ran.text c.new-view.result ≡ (after ran.notes c.new-view.result, ran.output)
    = λ h has. ap (λ t. line c.args.sid t c.new-view.result) c.in_ok-ran.ensures.text
    ∙ c.in_ok-ran.ensures.means h has in
    one_run_more c.args.sid c.args.state.now c.args.self.now.runs.items c.push.new.self.items ran
    c.args.self.now.cells c.make_changes.new.cells c.requires.trial c.requires.session c.notes-notes.ensures.run
    c.in_ok-ran.ensures.sid
    (subst (Holds ran.notes) c.new-view.ensures c.in_ok-ran.ensures.holds)
    (subst (λ t. IsLawful t → finmap.contains_key t.sessions c.args.sid ≡ true
    → line c.args.sid ran.text t ≡ (after ran.notes t, ran.output)) c.new-view.ensures means)
    c.in_ok-make_changes.ensures.fits
    (c.in_ok-make_changes.ensures.after c.args.state.now
    ∙ ap (λ n. after n (committed c.args.self.now.cells c.args.state.now)) c.notes-notes.ensures.value)
    c.in_ok-push.ensures.items
