use Rattle.std.proofs.Common.{◌≡◌, ℕ, List, ◌++◌, sym, ap, subst, ◌∙◌}
use Rattle.nm_blocks.specs.Blocks.{IsRun}
use Rattle.nm_blocks.specs.declared.hit.Hit.{Hit}
use Rattle.nm_segment.specs.Docs.{hits_of}
use Rattle.nm_segment.specs.Merge.{docs_of_part}
use Rattle.nm_segment.proofs.HitsInLemmas.{hits_of-append}
use Rattle.nm_segment.proofs.RunsLemmas.{field_more, runs_joined}
use Rattle.nm_segment.proofs.merged_index.add_runs.Goals as goal

pub fields-preserved : goal.fields-preserved
fields-preserved c =
    let word : List ℕ = c.args.next.now.word.now in
    let first = c.in_ok-add_run.ensures word c.requires.front in
    let second = c.in_ok-add_run-2.ensures word c.requires.back in
    let front = docs_of_part c.args.front.now in
    let back = docs_of_part c.args.back.now in
    let field = c.field_at-field.result in
    let bytes : c.as_slice.result.now ≡ first.0 ++ second.0 = c.as_slice.ensures ∙ (second.1 ∙ ap (λ (x : List ℕ). x ++ second.0) (first.1 ∙ ap (λ (x : List ℕ). x ++ first.0) c.new-run.ensures)) in
    let run : IsRun (first.0 ++ second.0) (hits_of (front ++ back) word field) = subst (λ (hits : List Hit). IsRun (first.0 ++ second.0) hits) (sym (hits_of-append front back word field))
    (runs_joined first.0 second.0 (hits_of front word field) (hits_of back word field) first.2 second.2) in
    field_more c.args.runs.now c.fields.runs c.push.new.self c.fields.number (hits_of (front ++ back) word) field c.as_slice.result.now c.fields.invariant c.field_at-field.ensures
    (subst (λ (x : List ℕ). IsRun x (hits_of (front ++ back) word field)) (sym bytes) run) c.in_ok-push.ensures.ok
