use Rattle.std.proofs.Common.{◌≡◌, ℕ, List, [], ap, ◌∙◌}
use Rattle.nm_cursor.specs.Sets.{union}
use Rattle.nm_phrase.specs.Found.{numbers_of}
use Rattle.nm_phrase.proofs.FoundLemmas.{whole_found}
use Rattle.nm_phrase.proofs.phrase.Phrase.new.Goals as goal

pub returns-clause-found : goal.returns-clause-found
returns-clause-found g c =
    let empty : c.new-docs.result.keys ≡ [] = c.new-docs.ensures.empty in
    let keys : c.in_ok-cursor_of.field-0 ≡ union [] (numbers_of c.args.segment.now c.args.field c.in_ok-front.front.ends c.in_ok-front.front.last.now) =
    c.in_ok-cursor_of.ensures.list ∙ (c.in_ok-add_found.ensures.docs ∙ ap (λ (docs : List ℕ). union docs (numbers_of c.args.segment.now c.args.field c.in_ok-front.front.ends c.in_ok-front.front.last.now)) empty) in
    whole_found c.set_laws.ensures.membership c.set_laws.ensures.order c.args.segment.now c.args.field
    (λ word hit. c.hits_are_where_the_word_stands.ensures c.args.segment.now word c.args.field hit c.documents_rise.ensures.rising) c.documents_rise.ensures.rising
    c.args.words.now c.in_ok-front.front.ends c.in_ok-front.front.last.now c.in_ok-cursor_of.field-0 c.in_ok-front.ensures.front c.in_ok-cursor_of.ensures.rising keys
