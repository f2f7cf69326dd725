use Rattle.std.proofs.Common.{◌≡◌, ℕ, ℤ, List, [], map, rules, sym, ap, subst, ◌∙◌}
use Rattle.std.specs.Prelude.{IfOk}
use Rattle.serde_json.specs.Data.{string}
use Rattle.nm_base.specs.declared.asks.SearchAsk.{SearchAsk}
use Rattle.nm_model_index.specs.declared.base.Base.{Base}
use Rattle.nm_query.specs.declared.query.Query.{Query}
use Rattle.nm_model_answer.specs.Found.{found_text, search_found}
use Rattle.nm_model_answer.specs.Matches.{matches_of}
use Rattle.nm_model_answer.specs.Search.{found_in_order, part_asked, rank_of, tags_of_all, texts_printed}
use Rattle.nm_model_answer.specs.View.{tags_of}
use Rattle.nm_render.specs.ReadBack.{ReadsBack, found_data}
use Rattle.nm_render.proofs.TagLemmas.{in_any_order}
use Rattle.nm_render.proofs.search.search_reply.Goals as goal

-- the tags of the messages in order are those of the messages as they were found
tags_same : (ask : SearchAsk) (index : Base) (moment : ℤ) (query : Query) (ids : List (List ℕ)) → ids ≡ matches_of index query moment ask.exclude
    → tags_of_all index (found_in_order ask index moment query) ≡ tags_of_all index ids
tags_same ask index moment query ids are = in_any_order (rank_of index ask.oldest) (tags_of index) (matches_of index query moment ask.exclude) ∙ ap (tags_of_all index) (sym are)

pub returns-in-Tags-clause-text : goal.returns-in-Tags-clause-text
returns-in-Tags-clause-text c =
    let index = c.args.snapshot.now in
    let ask = c.args.ask.now in
    let ids = c.as_slice.result.now in
    let are : ids ≡ matches_of index c.args.query.now c.args.moment ask.exclude = search rules in
    let same : search_found ask index c.args.moment c.args.query.now ≡ texts_printed ask.json [] (part_asked ask (tags_of_all index ids)) =
    ap (λ output. found_text output ask index (found_in_order ask index c.args.moment c.args.query.now)) c.in-Tags.is
    ∙ ap (λ tags. texts_printed ask.json [] (part_asked ask tags)) (tags_same ask index c.args.moment c.args.query.now ids are) in
    subst (λ whole. IfOk c.tags_text.result (λ text. text ≡ whole)) (sym same) c.tags_text.ensures.text

pub returns-in-Tags-clause-reads_back : goal.returns-in-Tags-clause-reads_back
returns-in-Tags-clause-reads_back c = λ json.
    let index = c.args.snapshot.now in
    let ask = c.args.ask.now in
    let ids = c.as_slice.result.now in
    let are : ids ≡ matches_of index c.args.query.now c.args.moment ask.exclude = search rules in
    let same : found_data ask.output ask index (found_in_order ask index c.args.moment c.args.query.now) ≡ map string (part_asked ask (tags_of_all index ids)) =
    ap (λ output. found_data output ask index (found_in_order ask index c.args.moment c.args.query.now)) c.in-Tags.is
    ∙ ap (λ tags. map string (part_asked ask tags)) (tags_same ask index c.args.moment c.args.query.now ids are) in
    subst (λ values. IfOk c.tags_text.result (λ text. ReadsBack values text)) (sym same) (c.tags_text.ensures.reads_back json)
