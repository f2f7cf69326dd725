use Rattle.std.proofs.Common.{◌∷◌, ◌++◌, [], Some, ap, sym, ◌∙◌}
use Rattle.nm_model_index.specs.Index.{committed}
use Rattle.nm_publish.specs.List.{index_at}
use Rattle.nm_publish.specs.Published.{index_of, with_commit}
use Rattle.nm_publish.specs.declared.event.Event.TheVariants as event
use Rattle.nm_publish.proofs.EventLemmas.{held_added, none_staged, published_added}
use Rattle.nm_publish.proofs.RuleLemmas.{follows_added}
use Rattle.nm_publish.proofs.publisher.Shower.show_staged.Goals as goal

pub turn-requires-clause-next : goal.turn-requires-clause-next
turn-requires-clause-next g c =
    let commit = c.args.staged.commit.value in
    let shown = c.self.invariant.1 in
    let token = c.again.ensures in
    follows_added c.self.inside.writer.desk.shown.value _ commit (index_at c.self.inside.token.log)
    (ap (λ t. t.book) token ∙ (c.add.ensures.book ∙ sym (ap (λ t. t.book) shown)))
    (ap (λ t. t.log) token ∙ (c.add.ensures.list ∙ ap (λ t. t.log ++ event.Adds commit ∷ []) (sym shown)))
    (rw (ap (λ t. t.log) shown) c.self.invariant.0.begun)
    (ap (λ t. index_at t.log) (sym shown))
    (c.requires.copy ∙ (c.requires.snap ∙ ap (λ s. committed (index_of s.shown) commit) (sym c.self.view_is)))

pub invariant_of-self : goal.invariant_of-self
invariant_of-self g c =
    let commit = c.args.staged.commit.value in
    let held = c.self.invariant.0 in
    let after = c.requires.snap ∙ (ap (λ s. committed (index_of s.shown) commit) (sym c.self.view_is) ∙ ap (λ index. committed index commit) (sym held.index)) in (
      held_added _ _ _ _ _ _ _ _ commit held c.add.ensures.book c.add.ensures.list after,
      c.turn.ensures.shown ∙ c.again.ensures,
      c.turn.ensures.known ∙ ap (λ t. Some (record { seen = t })) c.again.ensures,
      c.turn.ensures.pending,
      none_staged _ _ _ (ap (λ s. s.staged) c.self.view_is ∙ c.requires.none),
    )

pub returns : goal.returns
returns g c =
    let commit = c.args.staged.commit.value in
    let more = published_added _ _ _ _ commit c.add.ensures.book c.self.invariant.0.begun c.add.ensures.list in
    λ i. record { shown = (more ∙ ap (λ s. with_commit s.shown commit) c.self.view_is) i; staged = (ap (λ s. s.staged) c.self.view_is ∙ c.requires.none) i }
