use Rattle.std.proofs.Common.{◌∙◌, ℕ, List, ap, arith, length, sym}
use Rattle.std.proofs.lemmas.Map.Entries.{length-values_of}
use Rattle.nm_base.specs.declared.facts.Facts.{Facts}
use Rattle.nm_state.proofs.RoomLemmas.{parts_len}
use Rattle.nm_state.proofs.room.counts_of.Goals as goal

pub returns : goal.returns
returns c =
    let all = parts_len c.args.parts.now c.requires.kept c.a_base_takes_what_its_parts_take.ensures c.bytes.result c.bytes-2.result c.bytes-3.result c.bytes-4.result c.bytes.ensures c.bytes-2.ensures c.bytes-3.ensures c.bytes-4.ensures in
    record {
      files = c.len.ensures.len ∙ ap (λ (files : List (ℕ × (List ℕ × Facts))). length files) c.pairs.ensures ∙ sym (length-values_of c.args.parts.now.file_table.files);
      bytes = omega (arith, all, c.saturating_add.ensures, c.saturating_add-2.ensures, c.saturating_add-3.ensures, c.saturating_add-bytes.ensures);
      next = omega (arith, c.next.ensures.next, c.next.ensures.most);
    }
