use Rattle.std.proofs.Common.{ap, ◌∙◌, ◌+◌, ◌%◌, ◌++◌, arith, sym, refl, get_or, drop}
use Rattle.nm_decode.proofs.GroupLemmas.{after-start, symbol-turn, after, values}
use Rattle.nm_decode.specs.Base64.{bytes_of_groups}
use Rattle.nm_decode.proofs.groups.base64_bytes.Goals as goal

pub characters-init : goal.characters-init
characters-init c = record {
  made = ap (λ xs. xs ++ after 0 0 (values c.before_equals-data.result.now)) c.in_ok-out.ensures.items
      ∙ after-start 0 (values c.before_equals-data.result.now)
      ∙ ap (λ xs. bytes_of_groups (values xs)) c.before_equals-data.ensures;
  place = omega arith;
  last = omega arith;
}

pub characters-preserved : goal.characters-preserved
characters-preserved c = let chars = c.before_equals-data.result.now in record {
  made = ap (λ xs. xs ++ after ((c.characters.place + 1) % 4) c.in-Some.bits (values (drop (c.characters.byte-index + 1) chars))) c.in_ok-push_made.ensures
      ∙ symbol-turn c.characters.place c.characters.last c.characters.byte-index (get_or chars c.characters.byte-index 0) c.in-Some.bits
      c.characters.out.items chars _ (omega arith) refl (sym c.in-Some.ensures.value) c.characters.invariant.made;
  place = omega arith;
  last = omega (arith, c.in-Some.ensures.small);
}
