use Rattle.std.proofs.Common.{rules, ◌≡◌, ℕ, List, ap, subst, ◌∙◌, Some, w64}
use Rattle.std.proofs.lemmas.Bool.{and_parts}
use Rattle.std.proofs.lemmas.Int.{to_z-of_z}
use Rattle.std.specs.List.{filter}
use Rattle.nm_base.specs.Order.{has_text}
use Rattle.nm_model_index.specs.Index.{live_ids}
use Rattle.nm_model_answer.specs.Matches.{is_match}
use Rattle.nm_model_answer.specs.View.{view_of}
use Rattle.nm_eval.specs.NamedIds.{named_ids}
use Rattle.nm_eval.proofs.AmongLemmas.{kept_among}
use Rattle.nm_eval.proofs.matcher.matches.Goals as goal

pub returns-in_ok-found-in-Some : goal.returns-in_ok-found-in-Some
returns-in_ok-found-in-Some c =
    let named : named_ids c.args.query.now ≡ Some c.in-Some.ids = search rules in
    let live : List (List ℕ) = live_ids c.args.snapshot.now.files c.args.snapshot.now.entries in
    let told : c.as_slice-in-Some.result.now ≡ filter (has_text c.in-Some.ids) live =
    c.as_slice-in-Some.ensures ∙ c.in_ok-live-in-Some.ensures ∙ ap (λ ids. filter (has_text ids) live) c.as_slice.ensures in
    let found : c.in_ok-found-in-Some.found ≡ filter (λ id. is_match c.args.query.now c.args.moment c.args.exclude (view_of c.args.snapshot.now id)) c.as_slice-in-Some.result.now =
    subst (λ moment. c.in_ok-found-in-Some.found ≡ filter (λ id. is_match c.args.query.now moment c.args.exclude (view_of c.args.snapshot.now id)) c.as_slice-in-Some.result.now)
    (to_z-of_z w64 c.args.moment c.ranges.moment) c.in_ok-found-in-Some.ensures in
    found
    ∙ ap (filter (λ id. is_match c.args.query.now c.args.moment c.args.exclude (view_of c.args.snapshot.now id))) told
    ∙ kept_among (λ id. is_match c.args.query.now c.args.moment c.args.exclude (view_of c.args.snapshot.now id)) (has_text c.in-Some.ids) live
    (λ id passes. c.what_passes_is_named.ensures c.args.query.now c.in-Some.ids (view_of c.args.snapshot.now id) c.args.moment named (and_parts _ _ passes).0)
