use Rattle.std.proofs.Common.{◌≡◌, ℕ, List, true, false, [], ◌∷◌, ◌++◌, ◌||◌, sym, ap, ◌∙◌}
use Rattle.nm_base.specs.Order.{has_text, same_text}
use Rattle.nm_extract.proofs.LinkLemmas.{has_text-more, links_kept, links_more}
use Rattle.nm_extract.proofs.ids.links_among.Goals as goal

pub ids-preserved : goal.ids-preserved
ids-preserved c =
    let own = c.args.own.now in
    let id = c.id-item.result in
    let links = c.ids.links in
    let seen = c.ids.seen in
    let pushed : c.push.new.self ≡ links ++ id ∷ [] = c.in_ok-push.ensures.ok ∙ ap (λ copied. links ++ copied ∷ []) c.in_ok-copy-3.ensures in
    let put : (text : List ℕ) → has_text c.insert-in-ids.new.self text ≡ (same_text text id || has_text seen text) =
    λ text. c.in_ok-insert-2.ensures.has text ∙ ap (λ copied. same_text text copied || has_text seen text) c.in_ok-copy-2.ensures in
    let fresh : has_text (own ∷ links) id ≡ false = sym (c.ids.invariant.seen id) ∙ (sym c.contains.ensures ∙ c.if-contains.false) in
    record {
      links = pushed ∙ links_more own id c.args.ids.now links c.ids.id-index c.ids-test.true c.id-item.is c.ids.invariant.links fresh;
      seen = λ text. put text ∙ (ap (λ b. same_text text id || b) (c.ids.invariant.seen text) ∙ (has_text-more (own ∷ links) id text ∙ ap (λ l. has_text (own ∷ l) text) (sym pushed)));
    }

pub ids-preserved-then-contains : goal.ids-preserved-then-contains
ids-preserved-then-contains c =
    let own = c.args.own.now in
    let id = c.id-item.result in
    let there : has_text (own ∷ c.ids.links) id ≡ true = sym (c.ids.invariant.seen id) ∙ (sym c.contains.ensures ∙ c.if-contains.true) in
    record {
      links = links_kept own id c.args.ids.now c.ids.links c.ids.id-index c.ids-test.true c.id-item.is c.ids.invariant.links there;
      seen = c.ids.invariant.seen;
    }
