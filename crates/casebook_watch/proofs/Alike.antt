-- Sights that are found equal are one, and each is found equal to itself.
use Rattle.std.proofs.Common.{◌≡◌, ℕ, true, ◌&&◌, nat_eq, refl}
use Rattle.std.proofs.lemmas.Bool.{false≢true, eqb-true, eq-eqb}
use Rattle.std.specs.Cmp.{signed_Decides}
use Rattle.std.specs.Ordering.{int_eq}
use Rattle.casebook_folder.specs.Found.{attributes_eq}
use Rattle.casebook_folder.specs.declared.attributes.Attributes.{Attributes}
use Rattle.retro_tree.proofs.Small.{and_true, both_true, first_true}
use Rattle.casebook_watch.specs.Sight.{kind_eq, sight_eq, time_eq}
use Rattle.casebook_watch.specs.declared.file_time.FileTime.{FileTime}
use Rattle.casebook_watch.specs.declared.kind.Kind.{Kind}
use Rattle.casebook_watch.specs.declared.kind.Kind.TheVariants.{Dir, File, Link, Other}
use Rattle.casebook_watch.specs.declared.sight.Sight.{Sight}

kinds_same : (a b : Kind) → kind_eq a b ≡ true → a ≡ b
kinds_same Dir Dir e = refl
kinds_same Dir File e = absurd (false≢true e)
kinds_same Dir Link e = absurd (false≢true e)
kinds_same Dir Other e = absurd (false≢true e)
kinds_same File Dir e = absurd (false≢true e)
kinds_same File File e = refl
kinds_same File Link e = absurd (false≢true e)
kinds_same File Other e = absurd (false≢true e)
kinds_same Link Dir e = absurd (false≢true e)
kinds_same Link File e = absurd (false≢true e)
kinds_same Link Link e = refl
kinds_same Link Other e = absurd (false≢true e)
kinds_same Other Dir e = absurd (false≢true e)
kinds_same Other File e = absurd (false≢true e)
kinds_same Other Link e = absurd (false≢true e)
kinds_same Other Other e = refl

times_same : (a b : FileTime) → time_eq a b ≡ true → a ≡ b
times_same a b e =
    let second = (signed_Decides a.second b.second).0
    (first_true (int_eq a.second b.second) (nat_eq a.nanosecond b.nanosecond) e) in
    let nanosecond = eqb-true a.nanosecond b.nanosecond
    (both_true (int_eq a.second b.second) (nat_eq a.nanosecond b.nanosecond) e) in
    λ i. record { second = second i; nanosecond = nanosecond i }

attributes_same : (a b : Attributes) → attributes_eq a b ≡ true → a ≡ b
attributes_same a b e =
    let two = first_true (nat_eq a.mode b.mode && nat_eq a.uid b.uid) (nat_eq a.gid b.gid) e in
    let mode = eqb-true a.mode b.mode (first_true (nat_eq a.mode b.mode)
    (nat_eq a.uid b.uid) two) in
    let uid = eqb-true a.uid b.uid (both_true (nat_eq a.mode b.mode) (nat_eq a.uid b.uid) two) in
    let gid = eqb-true a.gid b.gid (both_true (nat_eq a.mode b.mode && nat_eq a.uid b.uid)
    (nat_eq a.gid b.gid) e) in
    λ i. record { mode = mode i; uid = uid i; gid = gid i }

pub sights_same : (a b : Sight) → sight_eq a b ≡ true → a ≡ b
sights_same a b e =
    let six = first_true _ (time_eq a.changed b.changed) e in
    let five = first_true _ (time_eq a.written b.written) six in
    let four = first_true _ (time_eq a.read b.read) five in
    let three = first_true _ (attributes_eq a.attributes b.attributes) four in
    let two = first_true _ (nat_eq a.number b.number) three in
    let kind = kinds_same a.kind b.kind (first_true _ (nat_eq a.size b.size) two) in
    let size = eqb-true a.size b.size (both_true (kind_eq a.kind b.kind) _ two) in
    let number = eqb-true a.number b.number (both_true
    (kind_eq a.kind b.kind && nat_eq a.size b.size) _ three) in
    let attributes = attributes_same a.attributes b.attributes
    (both_true (kind_eq a.kind b.kind && nat_eq a.size b.size
    && nat_eq a.number b.number) _ four) in
    let read = times_same a.read b.read (both_true (kind_eq a.kind b.kind && nat_eq a.size b.size
    && nat_eq a.number b.number && attributes_eq a.attributes b.attributes) _ five) in
    let written =
    times_same a.written b.written (both_true (kind_eq a.kind b.kind && nat_eq a.size b.size
    && nat_eq a.number b.number && attributes_eq a.attributes b.attributes
    && time_eq a.read b.read) _ six) in
    let changed =
    times_same a.changed b.changed (both_true (kind_eq a.kind b.kind && nat_eq a.size b.size
    && nat_eq a.number b.number && attributes_eq a.attributes b.attributes && time_eq a.read b.read
    && time_eq a.written b.written) _ e) in
    λ i. record {
      kind = kind i;
      size = size i;
      number = number i;
      attributes = attributes i;
      read = read i;
      written = written i;
      changed = changed i;
    }

pub kind_itself : (a : Kind) → kind_eq a a ≡ true
kind_itself Dir = refl
kind_itself File = refl
kind_itself Link = refl
kind_itself Other = refl

pub number_itself : (n : ℕ) → nat_eq n n ≡ true
number_itself n = eq-eqb n n refl

pub time_itself : (a : FileTime) → time_eq a a ≡ true
time_itself a =
    and_true (int_eq a.second a.second) (nat_eq a.nanosecond a.nanosecond)
    ((signed_Decides a.second a.second).1 refl) (number_itself a.nanosecond)

pub attributes_itself : (a : Attributes) → attributes_eq a a ≡ true
attributes_itself a =
    and_true (nat_eq a.mode a.mode && nat_eq a.uid a.uid) (nat_eq a.gid a.gid)
    (and_true (nat_eq a.mode a.mode) (nat_eq a.uid a.uid) (number_itself a.mode)
    (number_itself a.uid))
    (number_itself a.gid)
