use Rattle.std.proofs.Common.{rules, ◌≡◌, ◌∷◌, ◌++◌, ◌&&◌, Bool, List, ℕ, filter, not, sym, ap, subst, ◌∙◌, ℤ, w64, to_z, of_z}
use Rattle.std.specs.List.{AllByRecursion}
use Rattle.nm_base.specs.Order.{has_text}
use Rattle.nm_base.specs.declared.facts.Facts.{Facts}
use Rattle.nm_model_index.specs.Index.{live_ids}
use Rattle.nm_model_answer.specs.Matches.{is_match, matches_of}
use Rattle.nm_model_answer.specs.Test.{passes}
use Rattle.nm_model_answer.specs.View.{View, view_of}
use Rattle.nm_eval.specs.Exclusion.{exclusion_of, leaves_out}
use Rattle.nm_eval.proofs.ExclusionLemmas.{match_within}
use Rattle.nm_eval.proofs.FoundLemmas.{none_found, one_found}
use Rattle.nm_eval.proofs.LiveLemmas.{HasItsFiles, files_told, first_told, ids_in, ids_told}
use Rattle.nm_eval.proofs.matcher.all_matches.Goals as goal

pub messages-init : goal.messages-init
messages-init c =
    let moment : ℤ = to_z w64 (of_z w64 c.args.moment) in
    let files : List (List ℕ × Facts) = c.args.snapshot.now.files in
    let live : List (List ℕ) = live_ids files c.args.snapshot.now.entries in
    let matches : List ℕ → Bool = λ id. is_match c.args.query.now moment c.args.exclude (view_of c.args.snapshot.now id) in (
      ap (λ found. found ++ filter matches (ids_in c.messages-rest.result)) c.new-found.ensures
          ∙ (ap (λ rest. filter matches (ids_in rest)) c.messages-rest.ensures ∙ ap (filter matches) (ids_told files live)),
      λ message. c.in_ok-asked.ensures message,
      subst (AllByRecursion (HasItsFiles files)) (sym c.messages-rest.ensures) (files_told files live),
    )

pub with_files-message-requires : goal.with_files-message-requires
with_files-message-requires c =
    let next : c.messages.rest ≡ (c.in-Some.id.now, c.in-Some.files) ∷ c.next.new.self = search rules in
    (first_told c.args.snapshot.now.files c.messages.rest (c.in-Some.id.now, c.in-Some.files) c.next.new.self next c.messages.invariant.2).0

pub messages-preserved-in-Continue-branch-3 : goal.messages-preserved-in-Continue-branch-3
messages-preserved-in-Continue-branch-3 c =
    let moment : ℤ = to_z w64 (of_z w64 c.args.moment) in
    let view : View = view_of c.args.snapshot.now c.in-Some.id.now in
    let out : has_text c.in_ok-out.out c.in-Some.id.now ≡ leaves_out (exclusion_of c.args.query.now c.args.exclude) view =
    c.in_ok-out.ensures c.in-Some.id.now ∙ ap (λ exclusion. leaves_out exclusion view) c.find_exclusion.ensures in
    let told : c.passes_within.result ≡ (passes c.messages.asked-1 view moment && not (has_text c.in_ok-out.out c.in-Some.id.now)) = search rules in
    let next : c.messages.rest ≡ (c.in-Some.id.now, c.in-Some.files) ∷ c.next.new.self = search rules in (
      one_found (λ id. is_match c.args.query.now moment c.args.exclude (view_of c.args.snapshot.now id)) c.messages.found c.in-Some.id.now (ids_in c.messages.rest) (ids_in c.next.new.self)
          (matches_of c.args.snapshot.now c.args.query.now moment c.args.exclude) c.add.new.found c.messages.invariant.0 (ap ids_in next) (search rules)
          (sym (match_within c.args.query.now c.messages.asked-1 moment c.args.exclude view (has_text c.in_ok-out.out c.in-Some.id.now) out (c.messages.invariant.1 view)) ∙ sym told ∙ c.if-passes_within.true),
      c.messages.invariant.1,
      (first_told c.args.snapshot.now.files c.messages.rest (c.in-Some.id.now, c.in-Some.files) c.next.new.self next c.messages.invariant.2).1,
    )

pub messages-preserved : goal.messages-preserved
messages-preserved c =
    let moment : ℤ = to_z w64 (of_z w64 c.args.moment) in
    let view : View = view_of c.args.snapshot.now c.in-Some.id.now in
    let out : has_text c.in_ok-out.out c.in-Some.id.now ≡ leaves_out (exclusion_of c.args.query.now c.args.exclude) view =
    c.in_ok-out.ensures c.in-Some.id.now ∙ ap (λ exclusion. leaves_out exclusion view) c.find_exclusion.ensures in
    let told : c.passes_within.result ≡ (passes c.messages.asked-1 view moment && not (has_text c.in_ok-out.out c.in-Some.id.now)) = search rules in
    let next : c.messages.rest ≡ (c.in-Some.id.now, c.in-Some.files) ∷ c.next.new.self = search rules in (
      none_found (λ id. is_match c.args.query.now moment c.args.exclude (view_of c.args.snapshot.now id)) c.messages.found c.in-Some.id.now (ids_in c.messages.rest) (ids_in c.next.new.self)
          (matches_of c.args.snapshot.now c.args.query.now moment c.args.exclude) c.messages.invariant.0 (ap ids_in next)
          (sym (match_within c.args.query.now c.messages.asked-1 moment c.args.exclude view (has_text c.in_ok-out.out c.in-Some.id.now) out (c.messages.invariant.1 view)) ∙ sym told ∙ c.if-passes_within.false),
      c.messages.invariant.1,
      (first_told c.args.snapshot.now.files c.messages.rest (c.in-Some.id.now, c.in-Some.files) c.next.new.self next c.messages.invariant.2).1,
    )
