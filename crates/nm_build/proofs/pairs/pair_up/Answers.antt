use Rattle.std.proofs.Common.{rules, ◌≡◌, Option, List, ◌∷◌, ◌++◌, sym, ap, ◌∙◌}
use Rattle.nm_segment.specs.declared.doc_words.DocWords.{DocWords}
use Rattle.nm_build.specs.Parts.{docs_of, joined}
use Rattle.nm_build.proofs.PartLemmas.{pair_rises}
use Rattle.nm_build.proofs.pairs.pair_up.Goals as goal

pub new-requires : goal.new-requires
new-requires c =
    let left : c.segments.segment-iterator.rest.items ≡ c.in-Some.segment ∷ c.next.new.self.rest.items = search rules in
    let parts = ap (λ (held : Option (List DocWords)). joined c.segments.pairs ++ (docs_of held ++ joined (c.in-Some.segment ∷ c.next.new.self.rest.items))) (sym c.in-Some-held.is)
    ∙ (ap (λ (rest : List (List DocWords)). joined c.segments.pairs ++ (docs_of c.segments.held ++ joined rest)) (sym left) ∙ c.segments.invariant.docs) in
    pair_rises c.segments.pairs c.in-Some-held.front c.in-Some.segment c.next.new.self.rest.items (joined c.args.segments) parts c.requires
