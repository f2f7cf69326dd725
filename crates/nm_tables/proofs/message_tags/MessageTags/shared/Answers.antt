use Rattle.std.proofs.Common.{◌≡◌, ◌∙◌, subst, sym}
use Rattle.std.specs.Prelude.{IfOk}
use Rattle.nm_tables.proofs.KeptLemmas.{same_links}
use Rattle.nm_tables.proofs.message_tags.MessageTags.shared.Goals as goal

pub returns-then-eq : goal.returns-then-eq
returns-then-eq c = subst (λ tags. IfOk c.copy.result (λ shared. shared ≡ tags)) (sym c.get.ensures ∙ same_links c.get.result.now c.args.tags (sym c.if-eq.ensures)) c.copy.ensures
