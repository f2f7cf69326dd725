use Rattle.std.proofs.Common.{ℕ, List, false, sym, ◌∙◌, subst}
use Rattle.nm_sync.proofs.RenameLemmas.{PutsAt, always, places-moved}
use Rattle.nm_sync.proofs.renames.keep_move.Goals as goal

pub returns-clause-places : goal.returns-clause-places
returns-clause-places c =
    let old = c.args.done.now.places in
    let there = c.has_place-there.result in
    always c.push.result
    (λ files none has. places-moved c.args.shown.now.files files old c.insert.new.self c.insert-2.new.self c.args.from c.args.to there
    (subst (λ (key : List ℕ). PutsAt old c.insert.new.self key false) c.in_ok-copy.ensures c.in_ok-insert.ensures.updates.0)
    (subst (λ (key : List ℕ). PutsAt c.insert.new.self c.insert-2.new.self key there) c.in_ok-copy-2.ensures c.in_ok-insert-2.ensures.updates.0)
    (c.has_place-there.ensures ∙ sym (has c.args.from)) none has)
