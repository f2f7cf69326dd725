use Rattle.std.proofs.Common.{◌≡◌, ℕ, List, [], ◌∷◌, ◌++◌, append_assoc, sym, ap, subst, ◌∙◌, arith}
use Rattle.nm_segment.specs.Docs.{hits_of}
use Rattle.nm_phrase.specs.Ends.{AreEnds, narrowed}
use Rattle.nm_phrase.proofs.EndLemmas.{are_ends}
use Rattle.nm_phrase.proofs.front.front_of.Goals as goal

pub words-preserved : goal.words-preserved
words-preserved g c =
    let front : List (List ℕ) = c.words.invariant.0.0 in
    let last : List ℕ = c.words.last.now in
    let taken : c.words.rest ≡ c.in-Some-take_first.next.now ∷ c.take_first-in-words.new.self = c.in-Some-take_first.ensures in
    let words_are : c.args.words.now ≡ (front ++ last ∷ []) ++ c.in-Some-take_first.next.now ∷ c.take_first-in-words.new.self =
    c.words.invariant.0.1 ∙ (ap (λ (rest : List (List ℕ)). front ++ last ∷ rest) taken ∙ sym (append_assoc front (last ∷ []) (c.in-Some-take_first.next.now ∷ c.take_first-in-words.new.self))) in
    let hits : c.postings-hits.result ≡ hits_of c.args.place.now.segment.now last c.args.place.now.field = c.postings-hits.ensures.hits in
    let ends : c.in_ok-narrowed.field-0 ≡ narrowed c.words.ends (hits_of c.args.place.now.segment.now last c.args.place.now.field) = c.in_ok-narrowed.ensures.hits ∙ ap (narrowed c.words.ends) hits in (
      (
        front ++ last ∷ [],
        words_are,
        subst (AreEnds c.args.place.now.segment.now c.args.place.now.field (front ++ last ∷ [])) (sym ends)
            (are_ends c.args.place.now.segment.now c.args.place.now.field (λ word hit. c.hits_are_where_the_word_stands.ensures c.args.place.now.segment.now word c.args.place.now.field hit c.requires.docs.rising) front last c.words.ends
            (c.hits_are_in_order.ensures c.args.place.now.segment.now last c.args.place.now.field c.requires.docs.rising) c.words.invariant.0.2),
      ),
      omega (arith, c.postings-hits.ensures.steps, c.narrowed.ensures.steps),
    )
