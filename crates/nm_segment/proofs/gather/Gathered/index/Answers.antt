use Rattle.std.proofs.Common.{rules, ◌≡◌, ℕ, List, [], ◌∷◌, ◌++◌, sym, ap, subst, ◌∙◌, append_assoc}
use Rattle.nm_segment.specs.Docs.{hits_in, texts}
use Rattle.nm_segment.specs.Gather.{shown}
use Rattle.nm_segment.specs.Runs.{AreRuns}
use Rattle.nm_segment.proofs.GatherLemmas.{met_among}
use Rattle.nm_segment.proofs.RunsLemmas.{runs_more}
use Rattle.nm_segment.proofs.gather.Gathered.index.Goals as goal

pub add_runs-requires : goal.add_runs-requires
add_runs-requires c =
    let found = c.requires.0 in
    let left : shown c.words.word-iterator ≡ c.in-Some.word.now.now ∷ shown c.next.new.self = search rules in
    let all = ap (λ (x : List (List ℕ)). c.words.words ++ x) (sym left) ∙ (c.words.invariant.words ∙ c.requires.1.order) in
    (found, c.requires.1, met_among (texts found) c.words.words c.in-Some.word.now.now (shown c.next.new.self) all)

pub words-preserved : goal.words-preserved
words-preserved c =
    let word : List ℕ = c.in-Some.word.now.now in
    let rest = shown c.next.new.self in
    let left : shown c.words.word-iterator ≡ c.in-Some.word.now.now ∷ shown c.next.new.self = search rules in
    record {
      words = ap (λ (x : List (List ℕ)). x ++ rest) c.in_ok-push.ensures.ok ∙ (append_assoc c.words.words (word ∷ []) rest ∙ (ap (λ (x : List (List ℕ)). c.words.words ++ x) (sym left) ∙ c.words.invariant.words));
      runs = λ found h. subst (λ (list : List (List ℕ)). AreRuns c.add_runs.new.runs list (hits_in found)) (sym c.in_ok-push.ensures.ok) (runs_more c.words.runs c.add_runs.new.runs c.words.words word (hits_in found) (c.words.invariant.runs found h) (c.in_ok-add_runs.ensures found h));
    }
