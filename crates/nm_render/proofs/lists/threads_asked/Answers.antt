use Rattle.std.proofs.Common.{◌≡◌, ℕ, Option, List, rules, ap, ◌∙◌, nat_eq}
use Rattle.nm_model_answer.specs.Listing.{part_of}
use Rattle.nm_model_answer.specs.Search.{part_asked, threads_of}
use Rattle.nm_model_index.specs.Index.{rows_of}
use Rattle.nm_threads.specs.Name.{thread_name}
use Rattle.nm_render.proofs.OnceLemmas.{no_more}
use Rattle.nm_render.proofs.lists.threads_asked.Goals as goal

pub returns : goal.returns
returns c =
    let index = c.args.snapshot.now in
    let name : List ℕ → Option ℕ = thread_name (rows_of index) index.entries in
    let names = threads_of index c.args.ids.now in
    let asked : c.part_of.result.now ≡ part_asked c.args.ask.now names =
    c.part_of.ensures ∙ ap (part_of c.args.ask.now.offset c.args.ask.now.limit) (c.as_slice.ensures ∙ c.in_ok-names.ensures)
    ∙ c.max_threads-most.ensures names (no_more nat_eq name c.args.ids.now) in
    search (rules, asked)
