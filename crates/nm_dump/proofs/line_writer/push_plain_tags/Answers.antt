use Rattle.std.proofs.Common.{rules, ◌≡◌, ◌∷◌, ◌++◌, ap, ◌∙◌, sym, subst}
use Rattle.std.specs.List.{flat_map}
use Rattle.nm_dump.specs.Tags.{AreTags, IsTagOfBytes}
use Rattle.nm_dump.proofs.SupLineLemmas.{joined_start}
use Rattle.nm_dump.proofs.line_writer.push_plain_tags.Goals as goal

pub tags-init : goal.tags-init
tags-init c =
    let all : c.args.tags.now ≡ c.in-Some.first.now ∷ c.next.new.self = search rules in
    let front : c.extend_from_slice.new.self ≡ c.args.text.now ++ c.in-Some.first.now = search rules in
    let first : IsTagOfBytes c.in-Some.first.now = search rules in
    record {
      text =
          ap (λ text. text ++ flat_map (λ tag. 32 ∷ tag) c.next.new.self) front
          ∙ joined_start c.args.text.now c.in-Some.first.now c.args.tags.now c.next.new.self all;
      tags = λ others. subst AreTags (sym all) (first, others);
    }
