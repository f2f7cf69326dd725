use Rattle.std.proofs.Common.{◌≡◌, drop, fold, map}
use Rattle.std.specs.BTreeSet.{insert_key}
use Rattle.std.specs.Ordering.{nat_cmp}
use Rattle.nm_phrase.proofs.DocumentLemmas.{IsThere}
use Rattle.nm_phrase.proofs.documents.add_documents.Given as goal

-- the documents so far, with those of the hits that are left, are all
abbrev pub invariant-hits : goal.invariant-hits
invariant-hits l = (fold (insert_key nat_cmp) l.docs.keys (map (λ hit. hit.doc) (drop l.hit-index l.hits)) ≡ fold (insert_key nat_cmp) l.initial.docs.keys (map (λ hit. hit.doc) l.hits))
    × IsThere l.last l.docs.keys
