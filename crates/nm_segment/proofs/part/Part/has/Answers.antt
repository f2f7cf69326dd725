use Rattle.std.proofs.Common.{◌≡◌, Some, List, ℕ, [], slice_get, sym, ap, subst, ◌∙◌}
use Rattle.std.proofs.lemmas.Option.{get_or_from_slice_get}
use Rattle.std.specs.Option.{option_map}
use Rattle.nm_base.specs.Order.{has_text}
use Rattle.nm_segment.specs.Docs.{words}
use Rattle.nm_segment.specs.Merge.{IsPlace, living}
use Rattle.nm_segment.proofs.GatherLemmas.{there}
use Rattle.nm_segment.proofs.LiveLemmas.{absent_part}
use Rattle.nm_segment.proofs.part.Part.has.Goals as goal

pub returns-in-None : goal.returns-in-None
returns-in-None c = λ word place. absent_part c.args.self.now.segment.now (option_map (λ l. l.now) c.args.self.now.live) word (subst (IsPlace (words c.args.self.now.segment.now) word) c.in-None.is place)

pub returns-in-None-live : goal.returns-in-None-live
returns-in-None-live c = λ word place.
    let here : slice_get (words c.args.self.now.segment.now) c.in-Some.at ≡ Some word = subst (IsPlace (words c.args.self.now.segment.now) word) c.in-Some.is place in
    rw c.in-None-live.is (sym (there (words c.args.self.now.segment.now) word c.in-Some.at here))

pub returns-in-Some-live : goal.returns-in-Some-live
returns-in-Some-live c = λ word place.
    let here : slice_get (words c.args.self.now.segment.now) c.in-Some.at ≡ Some word = subst (IsPlace (words c.args.self.now.segment.now) word) c.in-Some.is place in
    rw c.in-Some-live.is (c.has_live_hit.ensures ∙ ap (λ (w : List ℕ). has_text (words (living c.in-Some-live.live.now c.args.self.now.segment.now)) w) (get_or_from_slice_get (words c.args.self.now.segment.now) c.in-Some.at word [] here))
