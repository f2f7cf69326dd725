use Rattle.std.proofs.Common.{◌≡◌, ◌≤◌, List, [], ◌∷◌, ◌++◌, map, ap, sym, ◌∙◌, arith, rules, Some}
use Rattle.serde_json.specs.Data.{Data, array, depth}
use Rattle.serde_json.specs.Read.{max_depth, read}
use Rattle.serde_json.specs.View.{items_of, view}
use Rattle.serde_json.specs.Written.{compact_text, has_float}
use Rattle.nm_model_answer.specs.Json.{json_array}
use Rattle.nm_model_answer.specs.Search.{part_asked, threads_of}
use Rattle.nm_model_answer.specs.Summary.{members_of, summary_by, summary_of}
use Rattle.nm_model_answer.specs.SummaryJson.{summary_json}
use Rattle.nm_model_answer.specs.declared.summary.ThreadSummary.{ThreadSummary}
use Rattle.nm_render.specs.Groups.{listed}
use Rattle.nm_render.specs.SummaryData.{summary_data}
use Rattle.nm_render.proofs.GroupLemmas.{mapped_within}
use Rattle.nm_render.proofs.ObjectLemmas.{mapped_twice, no_float_within, shallow, summaries_same}
use Rattle.nm_render.proofs.summary_json.summaries_json.Goals as goal

-- the summaries that are asked for
abbrev summaries : goal.After-drop-asked-inside-2 → List ThreadSummary
summaries c = map (summary_of c.args.snapshot.now c.args.ids.now) (part_asked c.args.ask.now (threads_of c.args.snapshot.now c.args.ids.now))

-- the objects that were made are theirs
objects : (c : goal.After-drop-asked-inside-2) → map view c.in_ok-objects.objects.items ≡ map summary_data (summaries c)
objects c =
    let index = c.args.snapshot.now in
    let ids = c.args.ids.now in
    let matched = c.in_ok-matched.matched in
    let asked = c.as_slice-names.result.now in
    let names : asked ≡ part_asked c.args.ask.now (threads_of index ids) = search rules in
    c.in_ok-objects.ensures
    ∙ mapped_within (λ name. summary_data (summary_by index name (listed matched name) (members_of index name))) (λ name. summary_data (summary_of index ids name)) asked
    (λ name among. ap (λ these. summary_data (summary_by index name these (members_of index name))) (c.in_ok-matched.ensures name among))
    ∙ ap (map (λ name. summary_data (summary_of index ids name))) names
    ∙ sym (mapped_twice (summary_of index ids) summary_data (part_asked c.args.ask.now (threads_of index ids)))

-- their text
text : (c : goal.After-drop-asked-inside-2) → c.in_ok-json.json ≡ json_array (map summary_json (summaries c))
text c =
    let whole : List Data → Data = λ values. array (items_of values) in
    c.in_ok-json.ensures.text (ap (λ values. has_float (whole values)) (objects c) ∙ no_float_within (summaries c))
    ∙ ap (λ values. compact_text (whole values)) (objects c)
    ∙ summaries_same (summaries c)

-- and the whole reply
whole : (c : goal.After-drop-asked-inside-2) → c.push.new.self ≡ json_array (map summary_json (summaries c)) ++ 10 ∷ []
whole c = c.in_ok-push.ensures.ok ∙ ap (λ json. json ++ 10 ∷ []) (text c)

pub returns-clause-text : goal.returns-clause-text
returns-clause-text c =
    whole c
    ∙ ap (λ values. json_array values ++ 10 ∷ []) (mapped_twice (summary_of c.args.snapshot.now c.args.ids.now) summary_json (part_asked c.args.ask.now (threads_of c.args.snapshot.now c.args.ids.now)))

pub returns-clause-reads_back : goal.returns-clause-reads_back
returns-clause-reads_back c =
    let array_of : List Data → Data = λ values. array (items_of values) in
    let flat : depth (array_of (map view c.in_ok-objects.objects.items)) ≤ max_depth = omega (arith, ap (λ values. depth (array_of values)) (objects c), shallow (summaries c)) in
    (json_array (map summary_json (summaries c)), whole c, ap read (sym (text c)) ∙ c.in_ok-json.ensures.reads_back flat ∙ ap (λ values. Some (array_of values)) (objects c))
