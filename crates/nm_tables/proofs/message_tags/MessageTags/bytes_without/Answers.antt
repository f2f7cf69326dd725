use Rattle.std.proofs.Common.{◌∙◌, ℕ, List, ap, arith, length, min, sym}
use Rattle.std.specs.BTreeMap.{is_at}
use Rattle.std.specs.Cmp.Lexicographic.{slice_cmp}
use Rattle.std.specs.Ordering.{nat_cmp}
use Rattle.nm_base.specs.Limits.{max_count}
use Rattle.nm_codec.specs.Encoding.{text_bytes}
use Rattle.nm_record.specs.Tags.{tags_grammar}
use Rattle.nm_tables.specs.Measures.{text_from}
use Rattle.nm_tables.proofs.MeasureLemmas.{removed, without_none}
use Rattle.nm_tables.proofs.message_tags.MessageTags.bytes_without.Goals as goal

abbrev id_len : List ℕ → ℕ
id_len id = length (text_bytes id)

abbrev set_len : List (List ℕ) → ℕ
set_len set = length (tags_grammar.bytes set)

pub returns-in-Some : goal.returns-in-Some
returns-in-Some c =
    removed id_len set_len (slice_cmp nat_cmp) (λ a b same. ap id_len (text_from a b same)) c.args.self.now c.args.id.now c.in-Some.old.now c.bytes-bytes.result c.tags_len.result c.id_len.result
    c.saturating_sub.result c.saturating_sub-in-Some.result (sym c.in-Some.ensures) c.bytes-bytes.ensures (omega (arith, c.bytes-bytes.type_inv))
    (c.tags_len.ensures ∙ ap (λ set. min (set_len set) max_count) c.get-in-Some.ensures) c.id_len.ensures c.saturating_sub.ensures c.saturating_sub-in-Some.ensures

pub returns-in-None : goal.returns-in-None
returns-in-None c = c.bytes-bytes.ensures ∙ sym (without_none id_len set_len (is_at (slice_cmp nat_cmp c.args.id.now)) c.args.self.now (sym c.in-None.ensures))
