use Rattle.std.proofs.Common.{◌≡◌, ℕ, List, [], ap, ◌∙◌}
use Rattle.std.specs.List.{flat_map}
use Rattle.nm_cursor.specs.Sets.{union}
use Rattle.nm_segment.specs.Docs.{words}
use Rattle.nm_segment.specs.Starts.{starting}
use Rattle.nm_phrase.specs.Found.{numbers_of}
use Rattle.nm_phrase.proofs.StartLemmas.{start_found}
use Rattle.nm_phrase.proofs.start.Start.new.Goals as goal

pub returns-clause-found : goal.returns-clause-found
returns-clause-found g c =
    let found : List ℕ = flat_map (numbers_of c.args.segment.now c.args.field c.in_ok-front.front.ends) (starting c.in_ok-front.front.last.now (words c.args.segment.now)) in
    let keys : c.in_ok-cursor_of.field-0 ≡ union [] found = c.in_ok-cursor_of.ensures.list ∙ (c.in_ok-add_started.ensures.docs ∙ ap (λ (docs : List ℕ). union docs found) c.new-docs.ensures.empty) in
    start_found c.set_laws.ensures.membership c.set_laws.ensures.order c.args.segment.now c.args.field
    (λ word hit. c.hits_are_where_the_word_stands.ensures c.args.segment.now word c.args.field hit c.documents_rise.ensures.rising) c.documents_rise.ensures.rising
    (λ word. c.words_are_those_that_stand.ensures c.args.segment.now word)
    c.args.words.now c.in_ok-front.front.ends c.in_ok-front.front.last.now c.in_ok-cursor_of.field-0 c.in_ok-front.ensures.front c.in_ok-cursor_of.ensures.rising keys
