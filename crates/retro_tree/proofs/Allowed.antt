-- Which changes are lawful, by tests around them.
use Rattle.std.proofs.Common.{◌≡◌, Bool, true, false, not, nat_cmp, ℕ, refl, sym, ap, ◌∙◌}
use Rattle.std.specs.Prelude.{IsTrue, ◌↔◌}
use Rattle.std.proofs.lemmas.Bool.{true≢false, false≢true, le-leb}
use Rattle.std.specs.Cmp.{nat_cmp_total}
use Rattle.std.specs.FinMap as map
use Rattle.retro_tree.specs.Order.{text_total}
use Rattle.retro_tree.specs.Maps.{update}
use Rattle.retro_tree.specs.Node.{grown, is_dir}
use Rattle.retro_tree.specs.Tree.{node_in}
use Rattle.retro_tree.specs.Session.{default_session, session_in, with_var, with_status}
use Rattle.retro_tree.specs.Limits.{IsLawfulSession, AreLawfulSessions}
use Rattle.retro_tree.specs.Lawful.{IsLawful}
use Rattle.retro_tree.specs.Change.{apply, has_its_session, grows_dir, may_make, IsLawfulChange}
use Rattle.retro_tree.specs.declared.session.Session.{Session}
use Rattle.retro_tree.specs.declared.setting.Setting.TheVariants.{Var, Cwd, Status}
use Rattle.retro_tree.specs.declared.change.Change.{Change}
use Rattle.retro_tree.specs.declared.change.Change.TheVariants as changes
use Rattle.retro_tree.specs.declared.state.State.{State}
use Rattle.retro_tree.proofs.Small.{first_true, and_true, not_true}
use Rattle.retro_tree.proofs.Lookups.{get_inserted}
use Rattle.retro_tree.proofs.LawLemmas.{lawful_put, may_put_back, growing, law_after}
use Rattle.retro_tree.proofs.Keeping.{settings}

-- a change that passes the test keeps a lawful state lawful
pub kept : (c : Change) (s : State) → IsLawful s → may_make c s ≡ true → IsLawful (apply c s)
unfolding apply may_make
kept (changes.Put p node) s l may = record { tree = lawful_put p node s.tree l.tree may; sessions = l.sessions }
kept (changes.Grow p bytes) s l may = record { tree = growing p bytes s.tree l.tree may; sessions = l.sessions }
kept (changes.SetVar sid name text) s l may =
    record { tree = l.tree; sessions = settings s.sessions sid (Var name text) l.sessions may }
kept (changes.SetCwd sid p) s l may =
    record { tree = l.tree; sessions = settings s.sessions sid (Cwd p) l.sessions refl }
kept (changes.SetStatus sid status) s l may =
    record { tree = l.tree; sessions = settings s.sessions sid (Status status) l.sessions may }

no_growth : (c : Change) (s : State) → may_make c s ≡ true → grows_dir c s ≡ false
unfolding may_make
no_growth (changes.Put p node) s may = refl
no_growth (changes.Grow p bytes) s may = not_true _ (first_true (not (is_dir (node_in p s.tree))) _ may)
no_growth (changes.SetVar sid name text) s may = refl
no_growth (changes.SetCwd sid p) s may = refl
no_growth (changes.SetStatus sid status) s may = refl

pub sound : (c : Change) (s : State) → IsLawful s → has_its_session c s ≡ true → may_make c s ≡ true
    → IsLawfulChange c s
sound c s l there may = record { growth = no_growth c s may; session = there; after = kept c s l may }

-- the session of a change after which the sessions are lawful
changed_session : (m : map.FinMap nat_cmp Session) (sid : ℕ) (f : Session → Session)
    → AreLawfulSessions (update m sid default_session f) → IsLawfulSession (f (session_in sid m))
unfolding AreLawfulSessions
changed_session m sid f l = l sid (f (session_in sid m)) (get_inserted nat_cmp_total m sid (f (session_in sid m)))

-- a lawful change passes the test
pub whole : (c : Change) (s : State) → IsLawfulChange c s → may_make c s ≡ true
unfolding apply may_make
whole (changes.Put p node) s l = may_put_back p node s.tree l.after.tree
whole (changes.Grow p bytes) s l =
    and_true _ _ (ap not l.growth) (law_after p (grown bytes (node_in p s.tree)) s.tree l.after.tree)
whole (changes.SetVar sid name text) s l =
    let t = changed_session s.sessions sid (with_var name text) l.after.sessions in
    le-leb _ _ (t.values name text (get_inserted text_total (session_in sid s.sessions).vars name text))
whole (changes.SetCwd sid p) s l = refl
whole (changes.SetStatus sid status) s l =
    le-leb _ _ (changed_session s.sessions sid (with_status status) l.after.sessions).status

pub its_session : (c : Change) (s : State) → IsLawfulChange c s → has_its_session c s ≡ true
its_session c s l = l.session

pub state_after : (c : Change) (s : State) → IsLawfulChange c s → IsLawful (apply c s)
state_after c s l = l.after

pub ruleset lawful_changes = (sound, kept, whole, its_session, state_after)

-- ---- as the code tests
pub without_session : (c : Change) (s : State) → has_its_session c s ≡ false → IsTrue false ↔ IsLawfulChange c s
without_session c s none = (λ t. absurd (false≢true t), λ l. absurd (true≢false (sym l.session ∙ none)))

pub dir_grows : (c : Change) (s : State) → grows_dir c s ≡ true → IsTrue false ↔ IsLawfulChange c s
dir_grows c s grows = (λ t. absurd (false≢true t), λ l. absurd (true≢false (sym grows ∙ l.growth)))

pub by_test : (b : Bool) (c : Change) (s : State) → IsLawful s → has_its_session c s ≡ true → b ≡ may_make c s
    → IsTrue b ↔ IsLawfulChange c s
by_test b c s l there e = (λ t. sound c s l there (sym e ∙ t), λ l. e ∙ whole c s l)

pub by_state : (b : Bool) (c : Change) (s : State) → has_its_session c s ≡ true → grows_dir c s ≡ false
    → (IsTrue b ↔ IsLawful (apply c s)) → IsTrue b ↔ IsLawfulChange c s
by_state b c s there grows e = (λ t. record { growth = grows; session = there; after = e.0 t }, λ l. e.1 l.after)

pub ruleset allowed = (without_session, dir_grows, by_test, by_state)
