use Rattle.std.proofs.Common.{◌≡◌, List, ◌++◌, false, true, fold, inr, refl, sym, ap, ◌∙◌, append-nil}
use Rattle.nm_commit.specs.Files.{changed, has_path}
use Rattle.nm_commit.specs.declared.change.Change.{Change}
use Rattle.nm_model_plan.specs.Moves.{move_if}
use Rattle.nm_sync.proofs.RenameLemmas.{kept-more, long-done, taken-done, tried-done, where-err}
use Rattle.nm_sync.proofs.renames.rename_one.Goals as goal

pub returns-in_default-clause-done : goal.returns-in_default-clause-done
returns-in_default-clause-done g c =
    (long-done (fold changed c.args.shown.now.files c.args.done.now.moves) c.args.rename c.args.given.now c.args.given.now c.in_default.is refl, c.in_ok-push.ensures.ok, sym (append-nil c.args.done.now.moves))

pub returns-then-has_place-clause-done : goal.returns-then-has_place-clause-done
returns-then-has_place-clause-done g c =
    let here = fold changed c.args.shown.now.files c.args.done.now.moves in
    let there : has_path here c.in-Some.to ≡ true = c.requires.kept c.in-Some.to ∙ (sym c.has_place.ensures ∙ c.if-has_place.true) in
    (taken-done here c.args.rename c.in-Some.to c.args.given.now c.args.given.now c.in-Some.is there refl, c.in_ok-push-2.ensures.ok, sym (append-nil c.args.done.now.moves))

pub returns-in_err-follow-in-Ok-clause-stops : goal.returns-in_err-follow-in-Ok-clause-stops
returns-in_err-follow-in-Ok-clause-stops g c =
    let here = fold changed c.args.shown.now.files c.args.done.now.moves in
    let free : has_path here c.in-Some.to ≡ false = c.requires.kept c.in-Some.to ∙ (sym c.has_place.ensures ∙ c.if-has_place.false) in
    where-err c.from_residual-in_err-follow-in-Ok.result (inr (tried-done here c.args.rename c.in-Some.to c.in-Ok.answer c.args.given.now c.try_rename.new.given c.in-Some.is free c.in-Ok.ensures.ok))

pub returns-in_ok-follow-in-Ok-clause-kept : goal.returns-in_ok-follow-in-Ok-clause-kept
returns-in_ok-follow-in-Ok-clause-kept g c =
    let here = fold changed c.args.shown.now.files c.args.done.now.moves in
    let free : has_path here c.in-Some.to ≡ false = c.requires.kept c.in-Some.to ∙ (sym c.has_place.ensures ∙ c.if-has_place.false) in
    let kept = c.in_ok-follow-in-Ok.ensures in
    kept-more c.args.shown.now.files c.args.rename.from c.in-Some.to c.in-Ok.answer c.args.done.now c.follow.new.done c.requires.kept kept.moves kept.places free

pub returns-in_ok-follow-in-Ok-clause-done : goal.returns-in_ok-follow-in-Ok-clause-done
returns-in_ok-follow-in-Ok-clause-done g c =
    let here = fold changed c.args.shown.now.files c.args.done.now.moves in
    let free : has_path here c.in-Some.to ≡ false = c.requires.kept c.in-Some.to ∙ (sym c.has_place.ensures ∙ c.if-has_place.false) in (
      tried-done here c.args.rename c.in-Some.to c.in-Ok.answer c.args.given.now c.try_rename.new.given c.in-Some.is free c.in-Ok.ensures.ok,
      c.in_ok-follow-in-Ok.ensures.unmoved,
      c.in_ok-follow-in-Ok.ensures.moves ∙ ap (λ (l : List Change). c.args.done.now.moves ++ l) (sym (append-nil (move_if c.args.rename.from c.in-Some.to c.in-Ok.answer))),
    )
