use Rattle.std.proofs.Common.{◌≡◌, ℕ, ◌+◌, ◌<◌, List, length, drop, fold, get_or, map, sym, ap, ◌∙◌}
use Rattle.std.specs.BTreeSet.{insert_key}
use Rattle.std.specs.Ordering.{nat_cmp}
use Rattle.std.proofs.lemmas.List.{drop_all, drop_more}
use Rattle.nm_blocks.specs.declared.hit.Hit.{Hit}
use Rattle.nm_cursor.specs.Sets.{union}
use Rattle.nm_phrase.proofs.DocumentLemmas.{added_there, same_there}
use Rattle.nm_phrase.proofs.documents.add_documents.Goals as goal

-- the hit at a place, and those after it
next_left : (hits : List Hit) (at : ℕ) (keys : List ℕ) → at < length hits
    → fold (insert_key nat_cmp) (insert_key nat_cmp keys (get_or hits at (record { doc = 0; list = 0; place = 0 })).doc) (map (λ hit. hit.doc) (drop (at + 1) hits)) ≡ fold (insert_key nat_cmp) keys (map (λ hit. hit.doc) (drop at hits))
next_left hits at keys less = sym (ap (λ (left : List Hit). fold (insert_key nat_cmp) keys (map (λ (hit : Hit). hit.doc) left)) (drop_more hits at (record { doc = 0; list = 0; place = 0 }) less))

pub hits-preserved : goal.hits-preserved
hits-preserved c =
    let left : List Hit = drop (c.hits.hit-index + 1) c.args.hits.now in (
      ap (λ (keys : List ℕ). fold (insert_key nat_cmp) keys (map (λ (hit : Hit). hit.doc) left)) c.in_ok-insert.ensures.keys ∙ (next_left c.args.hits.now c.hits.hit-index c.hits.docs.keys c.hits-test.true ∙ c.hits.invariant.0),
      added_there c.hits.docs.keys c.insert.new.self.keys _ c.in_ok-insert.ensures.keys,
    )

pub hits-preserved-then-is_last : goal.hits-preserved-then-is_last
hits-preserved-then-is_last c =
    let left : List Hit = drop (c.hits.hit-index + 1) c.args.hits.now in (
      sym (ap (λ (keys : List ℕ). fold (insert_key nat_cmp) keys (map (λ (hit : Hit). hit.doc) left)) (same_there c.hits.last _ c.hits.docs.keys c.if-is_last.ensures c.hits.invariant.1)) ∙ (next_left c.args.hits.now c.hits.hit-index c.hits.docs.keys c.hits-test.true ∙ c.hits.invariant.0),
      c.hits.invariant.1,
    )

pub returns : goal.returns
unfolding union
returns c = sym (ap (λ (left : List Hit). fold (insert_key nat_cmp) c.hits.docs.keys (map (λ (hit : Hit). hit.doc) left)) (drop_all c.hits.hit-index c.args.hits.now c.hits-test.false)) ∙ c.hits.invariant.0
