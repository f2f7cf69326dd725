use Rattle.std.proofs.Common.{◌≡◌, false, Some, List, [], slice_get, sym, subst, append-nil}
use Rattle.std.proofs.lemmas.Result.{on_ok_weaker}
use Rattle.std.specs.Option.{option_map}
use Rattle.nm_base.specs.Order.{has_text}
use Rattle.nm_blocks.specs.Blocks.{IsRun}
use Rattle.nm_blocks.specs.declared.hit.Hit.{Hit}
use Rattle.nm_segment.specs.Docs.{words}
use Rattle.nm_segment.specs.Merge.{IsPlace}
use Rattle.nm_segment.proofs.LiveLemmas.{kept_run, living_rise, no_run, part_lacks, whole_run}
use Rattle.nm_segment.proofs.part.Part.add_run.Goals as goal

pub add_live_hits-requires : goal.add_live_hits-requires
add_live_hits-requires c = living_rise c.in-Some-live.live.now c.args.self.now.segment.now _ c.args.field c.run-run.result.now c.run-run.ensures.given c.run-run.ensures.run

pub returns-in-None : goal.returns-in-None
returns-in-None c = λ word place.
    let none : has_text (words c.args.self.now.segment.now) word ≡ false = subst (IsPlace (words c.args.self.now.segment.now) word) c.in-None.is place in
    ([], sym (append-nil c.args.bytes.now), subst (λ (hits : List Hit). IsRun [] hits) (sym (part_lacks c.args.self.now.segment.now (option_map (λ l. l.now) c.args.self.now.live) word c.args.field none)) no_run)

pub returns-in-None-live : goal.returns-in-None-live
returns-in-None-live c = on_ok_weaker c.extend_from_slice.result (λ added word place.
    let here : slice_get (words c.args.self.now.segment.now) c.in-Some.at ≡ Some word = subst (IsPlace (words c.args.self.now.segment.now) word) c.in-Some.is place in
    whole_run c.args.self.now.segment.now c.args.self.now.live word c.args.field c.in-Some.at c.args.bytes.now c.extend_from_slice.new.self c.run-run.result.now c.in-None-live.is here c.run-run.ensures.run added) c.extend_from_slice.ensures.ok

pub returns-in-Some-live : goal.returns-in-Some-live
returns-in-Some-live c = on_ok_weaker c.add_live_hits.result (λ added word place.
    let here : slice_get (words c.args.self.now.segment.now) c.in-Some.at ≡ Some word = subst (IsPlace (words c.args.self.now.segment.now) word) c.in-Some.is place in
    kept_run c.args.self.now.segment.now c.args.self.now.live _ word c.args.field c.in-Some.at c.args.bytes.now c.add_live_hits.new.bytes c.run-run.result.now added.0 c.in-Some-live.is here c.run-run.ensures.run added.1 added.2) c.add_live_hits.ensures
