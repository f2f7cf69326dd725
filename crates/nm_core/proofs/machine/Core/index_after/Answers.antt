use Rattle.std.proofs.Common.{◌≡◌, ℕ, suc, ◌<◌, List, length, take, get_or, ap, ◌∙◌, arith}
use Rattle.std.proofs.lemmas.List.{length-map}
use Rattle.nm_core.specs.Core.{Kept, commits_of}
use Rattle.nm_core.specs.declared.machine.Made.{Made}
use Rattle.nm_core.proofs.IndexLemmas.{index-beside}
use Rattle.nm_model_index.specs.Index.{folded}
use Rattle.nm_model_machine.specs.Machine.{index_after}
use Rattle.nm_core.proofs.machine.Core.index_after.Goals as goal

pub returns-in-Some : goal.returns-in-Some
returns-in-Some c =
    let core = c.self.inside in
    let last = c.in-Some.last in
    let none = c.index-as_slice-last.result in
    let all : length (commits_of core.commits) ≡ length core.commits = length-map core.commits (λ (one : Made). one.commit) in
    let seen : suc last ≡ c.args.seen = omega (arith, c.in-Some.ensures.0, c.in-Some.ensures.1) in
    let within : last < length core.commits = omega (arith, c.requires, ap (λ (kept : Kept). length kept.machine.commits) c.self.view_is, all, seen) in
    ap (λ (made : List Made). (get_or made last none).index) c.as_slice.ensures
    ∙ (index-beside core.opening core.commits c.self.invariant.2.kept last none within
    ∙ (ap (λ (n : ℕ). folded core.opening (take n (commits_of core.commits))) seen
    ∙ ap (λ (kept : Kept). index_after kept.machine c.args.seen) c.self.view_is))
