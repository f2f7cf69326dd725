-- Each turn passes over a line that ends no part.
use Rattle.std.proofs.Common.{ℕ, ◌-◌, List, length, take, drop, refl, sym, ap, ◌∙◌, arith}
use Rattle.std.proofs.lemmas.List.{take_rest}
use Rattle.nm_mime.proofs.ChildLemmas.{end_same, end_size, end_within}
use Rattle.nm_mime.proofs.children.part_end.Goals as goal

pub lines-preserved : goal.lines-preserved
lines-preserved c =
    let bytes = c.args.bytes.now in
    let next = c.lines.next in
    let n = c.line_len.result in
    let rest : List ℕ = take (length bytes - next) (drop next bytes) in
    let line : List ℕ = take n rest in
    let is_rest = take_rest bytes next in
    let goes = sym c.ends_part.ensures ∙ c.if-ends_part.false in
    let within = end_within bytes rest line n next c.lines.invariant.within is_rest c.line_len.ensures.within refl in
    let less = c.content.ensures.within in
    record {
      size = end_size c.args.delimiters.now bytes rest line n next c.lines.len (length c.content.result.now) _ is_rest c.line_len.ensures.within c.line_len.ensures.first refl goes (ap length c.content.ensures.value) c.lines.invariant.size;
      same = λ end. end_same c.args.delimiters.now end bytes rest line n next is_rest c.line_len.ensures.within c.line_len.ensures.first refl goes (c.lines.invariant.same end);
      short = omega arith;
      within = within;
    }
