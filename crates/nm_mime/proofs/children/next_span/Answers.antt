-- The first line that ends a part closes the multipart, or a part begins after it.
use Rattle.std.proofs.Common.{ℕ, ◌+◌, ◌-◌, List, length, take, drop, refl, sym, ap, ◌∙◌}
use Rattle.std.proofs.lemmas.List.{take_rest}
use Rattle.nm_text.specs.Lines.{lines_of}
use Rattle.nm_mime.specs.Children.{is_line_of, spans_of, stops}
use Rattle.nm_mime.proofs.ChildLemmas.{dropped, first_within, spans_closed, spans_next, spans_none}
use Rattle.nm_mime.proofs.children.next_span.Goals as goal

pub returns-then-is_empty-clause-next : goal.returns-then-is_empty-clause-next
returns-then-is_empty-clause-next c =
    let bytes = c.args.bytes.now in
    let first = c.part_end-first.result.next in
    spans_none c.args.delimiters.now c.args.end bytes (take (length bytes - first) (drop first bytes)) (sym c.is_empty.ensures ∙ c.if-is_empty.true)
    (ap (spans_of c.args.delimiters.now c.args.end) (take_rest bytes first) ∙ c.part_end-first.ensures.same c.args.end)

pub returns-then-is_line_of-clause-next : goal.returns-then-is_line_of-clause-next
returns-then-is_line_of-clause-next c =
    let bytes = c.args.bytes.now in
    let first = c.part_end-first.result.next in
    spans_closed c.args.delimiters.now c.args.end bytes (take (length bytes - first) (drop first bytes)) c.split_at.result.0.now c.line_len.result c.line_len.ensures.first c.split_at.ensures.front
    (ap (λ x. is_line_of x c.split_at.result.0.now) (sym c.as_slice.ensures) ∙ sym c.is_line_of.ensures ∙ c.if-is_line_of.true)
    (ap (spans_of c.args.delimiters.now c.args.end) (take_rest bytes first) ∙ c.part_end-first.ensures.same c.args.end)

pub returns-clause-next : goal.returns-clause-next
returns-clause-next c =
    let delimiters = c.args.delimiters.now in
    let end = c.args.end in
    let bytes = c.args.bytes.now in
    let first = c.part_end-first.result.next in
    let rest : List ℕ = take (length bytes - first) (drop first bytes) in
    let is_rest = take_rest bytes first in
    let line = c.split_at.result.0.now in
    let after = c.split_at.result.1.now in
    let n = c.line_len.result in
    let part = c.part_end-part.result in
    spans_next delimiters end bytes rest line after n (end - length after) part.len (length bytes - length after + part.next) part.next c.line_len.ensures.first c.split_at.ensures.front c.split_at.ensures.back
    (ap (λ x. stops delimiters (lines_of x)) is_rest ∙ c.part_end-first.ensures.stops (first_within bytes rest first n is_rest c.line_len.ensures.some c.line_len.ensures.within))
    (ap (λ x. is_line_of x line) (sym c.as_slice.ensures) ∙ sym c.is_line_of.ensures ∙ c.if-is_line_of.false)
    (ap (spans_of delimiters end) is_rest ∙ c.part_end-first.ensures.same end) refl c.part_end-part.ensures.len (c.part_end-part.ensures.same end)
    (dropped bytes rest after first n part.next c.part_end-first.ensures.within c.line_len.ensures.within is_rest c.split_at.ensures.back)
