use Rattle.std.proofs.Common.{◌≡◌, Some, List, ℕ, [], get_or, refl, sym, ap, ◌∙◌, arith}
use Rattle.std.specs.Cmp.Lexicographic.{slice_cmp}
use Rattle.std.specs.Ordering.{nat_cmp}
use Rattle.std.specs.declared.cmp.Ordering.TheVariants.{Greater}
use Rattle.std.proofs.lemmas.Option.{slice_get-get_or}
use Rattle.nm_base.specs.OrderLaws.{turned}
use Rattle.nm_segment.proofs.MergeLemmas.{next_of_back}
use Rattle.nm_segment.proofs.SearchLemmas.{found_text}
use Rattle.nm_segment.proofs.merged_index.next_word.Goals as goal

pub returns-in-Equal : goal.returns-in-Equal
returns-in-Equal c = record {
  in_front = (refl, slice_get-get_or c.args.front.now c.args.at [] (omega (arith, c.if-at-len.false, c.len.ensures)) ∙ ap Some (sym c.get-word.ensures));
  in_back = (refl, found_text c.args.back.now c.get-word.result.now c.get-2.result.now c.args.other (omega (arith, c.if-other-len-2.false, c.len-2.ensures)) c.get-2.ensures c.in-Equal.ensures);
  somewhere = tt;
  rest = refl;
}

pub returns-in-Greater : goal.returns-in-Greater
returns-in-Greater c =
    let word : List ℕ = c.get-in-Greater.result.now in
    let second : c.get-2.result.now ≡ c.get-in-Greater.result.now = c.get-2.ensures ∙ sym c.get-in-Greater.ensures in
    let above : slice_cmp nat_cmp (get_or c.args.front.now c.args.at []) c.get-in-Greater.result.now ≡ Greater =
    ap (λ (x : List ℕ). slice_cmp nat_cmp x c.get-in-Greater.result.now) (sym c.get-word.ensures) ∙ (ap (slice_cmp nat_cmp c.get-word.result.now) (sym second) ∙ sym c.in-Greater.ensures) in
    let places = c.of_back-in-Greater.ensures.places in
    next_of_back c.args.front.now c.args.at c.args.back.now c.args.other c.of_back-in-Greater.result word c.of_back-in-Greater.ensures.word places.0 places.1 places.2 (λ less. turned (get_or c.args.front.now c.args.at []) word Greater above)
    (slice_get-get_or c.args.back.now c.args.other [] (omega (arith, c.if-other-len-2.false, c.len-2.ensures)) ∙ ap Some (sym c.get-in-Greater.ensures))
