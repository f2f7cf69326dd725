use Rattle.std.proofs.Common.{◌≡◌, ◌∙◌, ap, subst, sym, ℕ, List}
use Rattle.std.specs.Prelude.{MatchOption, Option, None, Some}
use Rattle.nm_tables.specs.FileTable.{at_text}
use Rattle.nm_tables.proofs.SortedLemmas.{found_sorted}
use Rattle.nm_tables.proofs.message_tags.MessageTags.get_by_hint.Goals as goal

pub returns : goal.returns
returns c =
    subst (λ (told : Option (List (List ℕ))). MatchOption c.get_by_hint.result (told ≡ None) (λ found. told ≡ Some found.1.now)) (sym (found_sorted c.self.inside.map c.args.id.now) ∙ ap (at_text c.args.id.now) c.self.view_is) c.get_by_hint.ensures
