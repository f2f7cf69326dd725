use Rattle.std.proofs.Common.{List, ℕ, [], ◌∷◌, ap, ◌∙◌}
use Rattle.std.proofs.lemmas.List.{map-append}
use Rattle.std.specs.Borrow.{Bor}
use Rattle.nm_segment.specs.Gather.{shown}
use Rattle.nm_segment.proofs.GatherLemmas.{shown-insert, word_added}
use Rattle.nm_segment.proofs.gather.Gathered.add_word.Goals as goal

pub returns-clause-words : goal.returns-clause-words
returns-clause-words c = λ found h.
    word_added c.args.self.now (record { alloc = c.args.self.now.alloc; numbers = c.insert.new.self; words = c.push.new.self; order = c.insert-2.new.self; rows = c.add_empty_rows.new.rows })
    found c.args.word.now c.len-number.result h c.requires c.in_ok-insert.ensures.updates (c.len-number.ensures ∙ c.args.self.now.words.ok.0)
    (ap shown c.in_ok-push.ensures.items ∙ map-append (λ (w : Bor (List ℕ)). w.now) c.args.self.now.words.items (c.args.word ∷ []))
    (ap shown c.in_ok-insert-2.ensures.keys ∙ shown-insert c.args.self.now.order.keys c.args.word) c.in_ok-add_empty_rows.ensures
