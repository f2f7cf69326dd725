use Rattle.std.proofs.Common.{List, [], ◌∷◌, ◌++◌, map, ap, sym, ◌∙◌, arith, Some, ◌≤◌}
use Rattle.serde_json.specs.Data.{Data, array, depth}
use Rattle.serde_json.specs.Read.{max_depth, read}
use Rattle.serde_json.specs.View.{items_of, view}
use Rattle.serde_json.specs.Written.{compact_text, has_float}
use Rattle.nm_model_answer.specs.Json.{json_array, json_string}
use Rattle.nm_render.proofs.JsonLemmas.{no_depth, no_floats, strings_same}
use Rattle.nm_render.proofs.text_lists.strings_json.Goals as goal

pub returns-clause-text : goal.returns-clause-text
returns-clause-text c =
    let whole : List Data → Data = λ values. array (items_of values) in
    let seen = c.in_ok-strings.ensures in
    let plain = ap (λ values. has_float (whole values)) seen ∙ no_floats c.args.texts.now in
    c.in_ok-push.ensures.ok ∙ ap (λ json. json ++ 10 ∷ []) (c.in_ok-json.ensures.text plain ∙ ap (λ values. compact_text (whole values)) seen ∙ strings_same c.args.texts.now)

pub returns-clause-reads_back : goal.returns-clause-reads_back
returns-clause-reads_back c =
    let whole : List Data → Data = λ values. array (items_of values) in
    let seen = c.in_ok-strings.ensures in
    let plain = ap (λ values. has_float (whole values)) seen ∙ no_floats c.args.texts.now in
    let text = c.in_ok-json.ensures.text plain ∙ ap (λ values. compact_text (whole values)) seen ∙ strings_same c.args.texts.now in
    let flat : depth (whole (map view c.in_ok-strings.strings.items)) ≤ max_depth = omega (arith, ap (λ values. depth (whole values)) seen, no_depth c.args.texts.now) in (
      json_array (map json_string c.args.texts.now),
      c.in_ok-push.ensures.ok ∙ ap (λ json. json ++ 10 ∷ []) text,
      ap read (sym text) ∙ c.in_ok-json.ensures.reads_back flat ∙ ap (λ values. Some (whole values)) seen,
    )
