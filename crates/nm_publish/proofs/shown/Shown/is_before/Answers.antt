use Rattle.std.proofs.Common.{◌≡◌, List, sym, ◌∙◌, ap, subst, nat_le, refl}
use mathlib.Core.List.{IsPrefix}
use Rattle.nm_publish.specs.declared.event.Event.{Event}
use Rattle.nm_publish.proofs.EventLemmas.{by_order, goes_on}
use Rattle.nm_publish.proofs.shown.Shown.is_before.Goals as goal

pub returns : goal.returns
returns c =
    let mine = c.self.inside.token in
    let theirs = c.other.inside.token in
    let all = c.learn.new.self.log in
    let law = c.the_revision_counts_the_commits.ensures in
    let this : IsPrefix mine.log all = subst (λ (l : List Event). IsPrefix l all) (ap (λ s. s.log) c.again-both.ensures) c.learn.ensures.2 in
    let that : IsPrefix theirs.log all = c.learn.ensures.3 in
    let book : theirs.book ≡ mine.book = ap (λ p. p.book) c.other.view_is ∙ (c.requires ∙ sym (ap (λ p. p.book) c.self.view_is)) in
    rw (← c.self.view_is, ← c.other.view_is)
    (by_order (nat_le c.self.inside.revision c.other.inside.revision) c.self.inside.revision c.other.inside.revision refl
    (λ le. goes_on law mine.book theirs.book book mine.log theirs.log all c.self.invariant.0 c.other.invariant.0 this that (rw (← c.self.invariant.1, ← c.other.invariant.1) le))
    (λ le. goes_on law theirs.book mine.book (sym book) theirs.log mine.log all c.other.invariant.0 c.self.invariant.0 that this (rw (← c.self.invariant.1, ← c.other.invariant.1) le)))
