use Rattle.std.proofs.Common.{◌≡◌, ℕ, List, [], ◌∷◌, None, false, sym, ap, subst, ◌∙◌}
use Rattle.nm_blocks.specs.declared.hit.Hit.{Hit}
use Rattle.nm_cursor.specs.Sets.{IsRising, has}
use Rattle.nm_lookup.specs.Lookup.{distinct}
use Rattle.nm_phrase.specs.Found.{numbers_with}
use Rattle.nm_segment.specs.Docs.{hits_of}
use Rattle.nm_lookup.proofs.FieldLemmas.{ok-each}
use Rattle.nm_lookup.proofs.WalkLemmas.{distinct-rises, has-distinct}
use Rattle.nm_lookup.proofs.one_word.with_word.Goals as goal

pub returns-clause-rising : goal.returns-clause-rising
returns-clause-rising g c =
    let hits : List Hit = hits_of c.args.segment.now c.args.word.now c.args.field in
    let walked : List ℕ = distinct None c.postings-hits.result in
    let same : walked ≡ distinct None hits = ap (distinct None) c.postings-hits.ensures.hits in
    ok-each (λ docs. docs ≡ walked) IsRising c.distinct.result
    (λ docs is. subst IsRising (sym (is ∙ same)) (distinct-rises hits (c.hits_are_in_order.ensures c.args.segment.now c.args.word.now c.args.field c.documents_rise.ensures.rising))) c.distinct.ensures.docs

pub returns-clause-found : goal.returns-clause-found
returns-clause-found g c =
    let docs_are = c.args.segment.now in
    let hits : List Hit = hits_of c.args.segment.now c.args.word.now c.args.field in
    let walked : List ℕ = distinct None c.postings-hits.result in
    let same : walked ≡ distinct None hits = ap (distinct None) c.postings-hits.ensures.hits in
    ok-each (λ docs. docs ≡ walked) (λ docs. docs ≡ numbers_with false c.args.field (c.args.word.now ∷ []) docs_are) c.distinct.result (λ docs is.
    c.a_word_is_found_where_it_hits.ensures docs_are c.args.field c.args.word.now docs c.documents_rise.ensures.rising
    (subst IsRising (sym (is ∙ same)) (distinct-rises hits (c.hits_are_in_order.ensures docs_are c.args.word.now c.args.field c.documents_rise.ensures.rising)))
    (λ doc. ap (λ (l : List ℕ). has l doc) (is ∙ same) ∙ has-distinct doc hits)) c.distinct.ensures.docs
