use Rattle.std.proofs.Common.{◌≡◌, ◌∙◌, ◌≤◌, ◌++◌, ◌∷◌, [], List, ℕ, ap, append_assoc, arith, codes, subst, sym}
use Rattle.serde_json.specs.Data.{depth}
use Rattle.serde_json.specs.Read.{max_depth}
use Rattle.serde_json.specs.Written.{compact_text, has_float}
use Rattle.retro_log.specs.LogText.{lines_data, log_data}
use Rattle.retro_json.specs.Values.{number_data, sessions_data, tree_data}
use Rattle.retro_json.specs.ReadBack.{IsReadBack}
use Rattle.retro_json.proofs.Floats.{sessions_float, tree_float}
use Rattle.retro_log.proofs.LogShape.{sessions_low, tree_low}
use Rattle.retro_log.proofs.ReadBack.{log_pieces, log_read_back}
use Rattle.retro_log.proofs.writing.log.push_log.Goals as goal

pub push_value-requires-clause-float : goal.push_value-requires-clause-float
push_value-requires-clause-float c = ap has_float c.number_value.ensures.value

pub push_value-requires-clause-low : goal.push_value-requires-clause-low
push_value-requires-clause-low c = subst (λ d. depth d ≤ max_depth) (sym c.number_value.ensures.value) (omega arith)

pub push_value-requires-2-clause-float : goal.push_value-requires-2-clause-float
push_value-requires-2-clause-float c = ap has_float c.in_ok-sessions_value.ensures.value ∙ sessions_float _

pub push_value-requires-2-clause-low : goal.push_value-requires-2-clause-low
push_value-requires-2-clause-low c =
    let low = sessions_low c.first.result.now.sessions in
    subst (λ d. depth d ≤ max_depth) (sym c.in_ok-sessions_value.ensures.value) (omega (arith, low))

pub push_value-requires-3-clause-float : goal.push_value-requires-3-clause-float
push_value-requires-3-clause-float c = ap has_float c.in_ok-tree_value.ensures.value ∙ tree_float _

pub push_value-requires-3-clause-low : goal.push_value-requires-3-clause-low
push_value-requires-3-clause-low c =
    let low = tree_low c.first-2.result.now.tree in
    subst (λ d. depth d ≤ max_depth) (sym c.in_ok-tree_value.ensures.value) (omega (arith, low))

-- nine pieces, appended one by one
in_pieces : (t a n b x d y e z f : List ℕ)
    → ((((((((t ++ a) ++ n) ++ b) ++ x) ++ d) ++ y) ++ e) ++ z) ++ f
    ≡ t ++ (a ++ (n ++ (b ++ (x ++ (d ++ (y ++ (e ++ (z ++ f))))))))
in_pieces t a n b x d y e z f = simp append_assoc

-- a text with a piece appended that is known by another name
appended : (t : List ℕ) {u x y : List ℕ} → u ≡ t ++ x → x ≡ y → u ≡ t ++ y
appended t e f = e ∙ ap (λ z. t ++ z) f

pub returns-clause-text : goal.returns-clause-text
unfolding log_data
returns-clause-text c =
    let r = c.args.recording.now in
    let from = compact_text (number_data r.from) in
    let lines = compact_text (lines_data r.lines) in
    let sessions = compact_text (sessions_data r.first.sessions) in
    let trees = compact_text (tree_data r.first.tree) in
    let one = c.in_ok-extend_from_slice.ensures.items in
    let two =
    appended c.extend_from_slice.new.self.items c.in_ok-push_value.ensures.text
    (ap compact_text (c.number_value.ensures.value ∙ ap number_data c.from.ensures.value)) in
    let three = c.in_ok-extend_from_slice-2.ensures.items in
    let four =
    appended c.extend_from_slice-2.new.self.items c.in_ok-push_lines.ensures.text
    (ap (λ ls. compact_text (lines_data ls)) c.lines.ensures.value) in
    let five = c.in_ok-extend_from_slice-3.ensures.items in
    let six =
    appended c.extend_from_slice-3.new.self.items c.in_ok-push_value-2.ensures.text
    (ap compact_text (c.in_ok-sessions_value.ensures.value
    ∙ ap (λ s. sessions_data s.sessions) c.first.ensures.value)) in
    let seven = c.in_ok-extend_from_slice-4.ensures.items in
    let eight =
    appended c.extend_from_slice-4.new.self.items c.in_ok-push_value-3.ensures.text
    (ap compact_text (c.in_ok-tree_value.ensures.value
    ∙ ap (λ s. tree_data s.tree) c.first-2.ensures.value)) in
    c.in_ok-push.ensures.items ∙ ap (λ t. t ++ 125 ∷ []) (eight ∙ ap (λ t. t ++ trees) (seven
    ∙ ap (λ t. t ++ codes ",\"tree\":") (six ∙ ap (λ t. t ++ sessions) (five
    ∙ ap (λ t. t ++ codes ",\"log\":2,\"sessions\":") (four ∙ ap (λ t. t ++ lines) (three
    ∙ ap (λ t. t ++ codes ",\"lines\":") (two ∙ ap (λ t. t ++ from) one)))))))
    ∙ in_pieces c.args.text.now.items (codes "{\"from\":") from (codes ",\"lines\":") lines
    (codes ",\"log\":2,\"sessions\":") sessions (codes ",\"tree\":") trees (codes "}")
    ∙ ap (λ t. c.args.text.now.items ++ t)
    (sym (log_pieces r.from (lines_data r.lines) (sessions_data r.first.sessions) (tree_data r.first.tree)))

pub returns-clause-read_back : goal.returns-clause-read_back
unfolding log_data
returns-clause-read_back c =
    let number = c.number_value.ensures.value ∙ ap number_data c.from.ensures.value in
    let sessions = c.in_ok-sessions_value.ensures.value ∙ ap (λ s. sessions_data s.sessions) c.first.ensures.value in
    let trees = c.in_ok-tree_value.ensures.value ∙ ap (λ s. tree_data s.tree) c.first-2.ensures.value in
    log_read_back _ _ _ _ (subst IsReadBack number c.in_ok-push_value.ensures.read_back)
    (subst (λ ls. IsReadBack (lines_data ls)) c.lines.ensures.value c.in_ok-push_lines.ensures.read_back)
    (subst IsReadBack sessions c.in_ok-push_value-2.ensures.read_back)
    (subst IsReadBack trees c.in_ok-push_value-3.ensures.read_back)
