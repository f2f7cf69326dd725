use Rattle.std.proofs.Common.{◌∙◌, ℕ, List, ap, arith, length, min, sym}
use Rattle.std.specs.Cmp.Lexicographic.{slice_cmp}
use Rattle.std.specs.Ordering.{nat_cmp}
use Rattle.std.proofs.lemmas.Cmp.{nat_list_cmp_total}
use Rattle.nm_base.specs.Limits.{max_count}
use Rattle.nm_codec.specs.Encoding.{text_bytes}
use Rattle.nm_record.specs.Tags.{tags_grammar}
use Rattle.nm_tables.specs.Measures.{text_from}
use Rattle.nm_tables.proofs.MeasureLemmas.{replaced, with_new}
use Rattle.nm_tables.proofs.message_tags.MessageTags.bytes_with.Goals as goal

abbrev id_len : List ℕ → ℕ
id_len id = length (text_bytes id)

abbrev set_len : List (List ℕ) → ℕ
set_len set = length (tags_grammar.bytes set)

pub returns-in_ok-all-in-Some : goal.returns-in_ok-all-in-Some
returns-in_ok-all-in-Some c =
    replaced id_len set_len (slice_cmp nat_cmp) nat_list_cmp_total (λ a b same. ap id_len (text_from a b same)) c.args.self.now c.args.id.now c.args.tags.now c.order.ensures
    c.in-Some.old.now c.bytes-bytes.result c.tags_len.result c.saturating_sub.result c.in_ok-all-in-Some.all (sym c.in-Some.ensures) c.bytes-bytes.ensures
    (omega (arith, c.bytes-bytes.type_inv)) (c.tags_len.ensures ∙ ap (λ set. min (set_len set) max_count) c.get-in-Some.ensures) c.saturating_sub.ensures (c.in_ok-all-in-Some.ensures (set_len c.args.tags.now) c.tags_len-in-Some.ensures)

pub returns-in_ok-all-in-None : goal.returns-in_ok-all-in-None
returns-in_ok-all-in-None c =
    let id = c.in_ok-with_id-in-None.ensures (id_len c.args.id.now) c.id_len.ensures in
    let set = c.in_ok-all-in-None.ensures (set_len c.args.tags.now) c.tags_len-in-None.ensures in
    let new = with_new id_len set_len (slice_cmp nat_cmp) c.args.self.now c.args.id.now c.args.tags.now (sym c.in-None.ensures) in
    omega (arith, id, set, c.bytes-bytes.ensures, new)
