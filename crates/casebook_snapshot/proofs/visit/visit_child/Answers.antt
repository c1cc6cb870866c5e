use Rattle.std.proofs.Common.{subst}
use Rattle.std.proofs.lemmas.Option.{IfSome_then}
use Rattle.casebook_snapshot.specs.Children.{IsListed}
use Rattle.casebook_snapshot.proofs.Small.{both_some, some_always}
use Rattle.casebook_snapshot.proofs.Visits.{never, by_path, by_item, keeps_file, keeps_dir}
use Rattle.casebook_snapshot.proofs.visit.visit_child.Goals as goal

pub returns-in-Never-clause-ok : goal.returns-in-Never-clause-ok
returns-in-Never-clause-ok g c =
    some_always (g.L.Listing.holds c.args.listing.now)
    (λ f. never f c.args.skip.now c.args.child.now c.in_ok-path.field-0 c.in_ok-path.ensures c.in-Never.reason c.in-Never.is)

pub returns-in-Some-clause-ok : goal.returns-in-Some-clause-ok
returns-in-Some-clause-ok g c =
    some_always (g.L.Listing.holds c.args.listing.now)
    (λ f. by_path f c.args.skip.now c.args.child.now c.in_ok-path.field-0 c.in_ok-path.ensures c.in-Is.path c.in-Is.is
    c.path_reason.result c.in-Some.reason c.path_reason.ensures c.in-Some.is)

pub returns-in-Some-reason-clause-ok : goal.returns-in-Some-reason-clause-ok
returns-in-Some-reason-clause-ok g c =
    IfSome_then (g.L.Listing.holds c.args.listing.now) c.in_ok-item.ensures.ok
    (λ f i_is. by_item f c.args.skip.now c.args.child.now c.in_ok-path.field-0 c.in_ok-path.ensures c.in-Is.path c.in-Is.is
    c.path_reason.result c.reason.result c.in_ok-item.item c.path_reason.ensures c.in_default.is i_is c.reason.ensures
    c.in-Some-reason.reason c.in-Some-reason.is)

pub returns-in-File-clause-ok : goal.returns-in-File-clause-ok
returns-in-File-clause-ok g c =
    IfSome_then (g.L.Listing.holds c.args.listing.now) c.in_ok-item.ensures.ok
    (λ f i_is. keeps_file f c.args.skip.now c.args.child.now c.in_ok-path.field-0 c.in_ok-path.ensures c.in-Is.path c.in-Is.is
    c.path_reason.result c.reason.result c.in_ok-item.item c.path_reason.ensures c.in_default.is i_is c.reason.ensures
    c.in-File.bytes c.in-File.attributes c.new.result.items c.in_default-reason.is c.in-File.is c.new.ensures.items)

pub returns-in-Some-2-clause-ok : goal.returns-in-Some-2-clause-ok
returns-in-Some-2-clause-ok g c =
    both_some (g.L.Listing.holds c.args.listing.now) c.in_ok-item.ensures.ok c.in_ok-children-in-Dir.ensures.ok
    (λ f i_is listing. keeps_dir f c.args.skip.now c.args.child.now c.in_ok-path.field-0 c.in_ok-path.ensures c.in-Is.path c.in-Is.is
    c.path_reason.result c.reason.result c.in_ok-item.item c.path_reason.ensures c.in_default.is i_is c.reason.ensures
    c.in-Dir.attributes c.in-Some-2.children.items c.in_default-reason.is c.in-Dir.is
    (subst (IsListed f c.in-Is.path) c.in-Some-2.is listing))
