use Rattle.std.proofs.Common.{◌≡◌, List, ℕ, [], refl, get_or, sym, ap, ◌∙◌}
use Rattle.nm_blocks.specs.Blocks.{run_hits}
use Rattle.nm_segment.specs.declared.doc_words.DocWords.{DocWords}
use Rattle.nm_segment.specs.Docs.{hits_of}
use Rattle.nm_segment.specs.Runs.{row_at}
use Rattle.nm_segment.proofs.HitsInLemmas.{no_hits, read_again, words_sorted}
use Rattle.nm_segment.proofs.SegmentLemmas.{found_run, no_hits_of}
use Rattle.nm_segment.proofs.segment.Segment.postings.Goals as goal

pub place_of-requires : goal.place_of-requires
place_of-requires g c = rw c.self.invariant.in_order (words_sorted c.self.inside.docs)

pub run_of-requires : goal.run_of-requires
run_of-requires g c =
    (found_run c.self.inside.docs c.self.inside.words c.self.inside.runs c.args.word.now c.args.field c.in-Some.at (row_at c.in-Some.at c.args.field) c.self.invariant c.in-Some.ensures.place refl).0

pub returns-in-None-clause-hits : goal.returns-in-None-clause-hits
returns-in-None-clause-hits g c =
    c.new.ensures ∙ (no_hits ∙ (sym (no_hits_of c.self.inside.docs c.self.inside.words c.self.inside.runs c.args.word.now c.args.field c.self.invariant c.in-None.ensures.place)
    ∙ ap (λ (docs : List DocWords). hits_of docs c.args.word.now c.args.field) c.self.view_is))

pub returns-in-Some-clause-hits : goal.returns-in-Some-clause-hits
returns-in-Some-clause-hits g c =
    let run = (found_run c.self.inside.docs c.self.inside.words c.self.inside.runs c.args.word.now c.args.field c.in-Some.at (row_at c.in-Some.at c.args.field) c.self.invariant c.in-Some.ensures.place refl).1 in
    c.new-in-Some.ensures ∙ (ap run_hits c.run_of.ensures
    ∙ (read_again (get_or c.self.inside.runs (row_at c.in-Some.at c.args.field) []) (hits_of c.self.inside.docs c.args.word.now c.args.field) run
    ∙ ap (λ (docs : List DocWords). hits_of docs c.args.word.now c.args.field) c.self.view_is))
