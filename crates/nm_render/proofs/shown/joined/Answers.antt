use Rattle.std.proofs.Common.{◌≡◌, ◌∷◌, ◌++◌, ap, sym, ◌∙◌, rules, string_bytes}
use Rattle.nm_model_answer.specs.Json.{joined}
use Rattle.nm_render.specs.Joined.{after_first}
use Rattle.nm_render.proofs.SubjectLemmas.{joined-cons}
use Rattle.nm_render.proofs.shown.joined.Goals as goal

pub returns : goal.returns
returns c =
    let between = c.args.between.now in
    let first = c.in-Some.first.now in
    let more = c.in-Some.more.now in
    let begun : string_bytes c.in_ok-whole.whole ≡ first = search rules in
    let whole : first ∷ more ≡ c.args.texts.now = search rules in
    c.in_ok-push_more.ensures ∙ ap (λ front. front ++ after_first between more) begun ∙ sym (joined-cons between first more) ∙ ap (joined between) whole
