use Rattle.std.proofs.Common.{◌≡◌, None, ◌∙◌}
use Rattle.nm_cursor.specs.Sets.{IsRising}
use Rattle.nm_lookup.specs.Lookup.{numbers_having}
use Rattle.nm_lookup.proofs.FieldLemmas.{any-field, ok-both}
use Rattle.nm_lookup.proofs.fields.in_any_field.Goals as goal

pub returns-clause-found : goal.returns-clause-found
returns-clause-found g c =
    let starts = c.args.asked.now.starts in
    let words = c.args.asked.now.words.now in
    let docs = c.args.segment.now in
    ok-both (λ found. found ≡ c.new-6.result) IsRising (λ found. found ≡ numbers_having None starts words docs) c.collect.result (λ found is rising.
    any-field starts words c.set_laws.ensures.membership c.set_laws.ensures.order docs c.documents_rise.ensures.rising
    c.new.result c.new-2.result c.new-3.result c.new-4.result c.new-5.result c.new-people.result c.new-heads.result c.new-texts.result c.new-6.result found
    (c.new.ensures ∙ c.in_ok-from.ensures.found) (c.new-2.ensures ∙ c.in_ok-to.ensures.found) (c.new-3.ensures ∙ c.in_ok-subject.ensures.found) (c.new-4.ensures ∙ c.in_ok-body.ensures.found)
    (c.new-5.ensures ∙ c.in_ok-attachment.ensures.found) c.new-people.ensures c.new-heads.ensures c.new-texts.ensures c.new-6.ensures is rising) c.collect.ensures.ok c.collect.ensures.rising
