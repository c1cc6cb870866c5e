-- A document whose lists are others.
use Rattle.std.proofs.Common.{◌≡◌, codes}
use Rattle.serde_json.specs.Data.{Data, member, no_members, object}

pub same_document :
    (causes doubtful incomplete leaked lines looked observed outside overlapping restore tell unknown unseen : Data)
    (causes' doubtful' incomplete' leaked' lines' looked' observed' outside' overlapping' restore' tell' unknown' unseen' : Data)
    (counts recording show source : Data)
    → causes ≡ causes' → doubtful ≡ doubtful' → incomplete ≡ incomplete'
    → leaked ≡ leaked' → lines ≡ lines' → looked ≡ looked' → observed ≡ observed'
    → outside ≡ outside' → overlapping ≡ overlapping' → restore ≡ restore' → tell ≡ tell' → unknown ≡ unknown' → unseen ≡ unseen'
    → object
    (member (codes "causes") causes
    (member (codes "counts") counts
    (member (codes "doubtful") doubtful
    (member (codes "incomplete") incomplete
    (member (codes "leaked") leaked
    (member (codes "lines") lines
    (member (codes "looked") looked
    (member (codes "observed") observed
    (member (codes "outside") outside
    (member (codes "overlapping") overlapping
    (member (codes "recording") recording
    (member (codes "restore") restore
    (member (codes "show") show
    (member (codes "source") source
    (member (codes "tell") tell
    (member (codes "unknown") unknown
    (member (codes "unseen") unseen no_members)))))))))))))))))
    ≡ object
    (member (codes "causes") causes'
    (member (codes "counts") counts
    (member (codes "doubtful") doubtful'
    (member (codes "incomplete") incomplete'
    (member (codes "leaked") leaked'
    (member (codes "lines") lines'
    (member (codes "looked") looked'
    (member (codes "observed") observed'
    (member (codes "outside") outside'
    (member (codes "overlapping") overlapping'
    (member (codes "recording") recording
    (member (codes "restore") restore'
    (member (codes "show") show
    (member (codes "source") source
    (member (codes "tell") tell'
    (member (codes "unknown") unknown'
    (member (codes "unseen") unseen' no_members)))))))))))))))))
same_document causes doubtful incomplete leaked lines looked observed outside overlapping restore tell unknown unseen
    causes' doubtful' incomplete' leaked' lines' looked' observed' outside' overlapping' restore' tell' unknown' unseen'
    counts recording show source e0 e1 e2 e3 e4 e5 e6 e7 e8 e9 e10 e11 e12 = cc
