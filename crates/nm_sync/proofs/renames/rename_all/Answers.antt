use Rattle.std.proofs.Common.{rules, ◌≡◌, List, [], ◌∷◌, fold, length, arith, refl, sym, ap, ◌∙◌, subst}
use Rattle.std.proofs.lemmas.List.{nil_from_length}
use Rattle.std.specs.List.{flat_map}
use Rattle.nm_commit.specs.Files.{changed}
use Rattle.nm_flags.specs.declared.renames.Rename.{Rename}
use Rattle.nm_maildir.specs.declared.given.Given.{Given}
use Rattle.nm_model_plan.specs.Moves.{move_given}
use Rattle.nm_sync.specs.Noted.{since}
use Rattle.nm_sync.specs.Renamed.{files_given}
use Rattle.nm_sync.proofs.NotedLemmas.{since-none}
use Rattle.nm_sync.proofs.RenameLemmas.{InRenames, all-count, all-kept, asks-nothing, asks-then, done-since, moves-since, next-rename, no-rename, so-far-tried, stopped-since}
use Rattle.nm_sync.proofs.renames.rename_all.Goals as goal

pub renames-init : goal.renames-init
renames-init g c =
    let all : c.into_iter-rename-iterator.result.rest.items ≡ c.args.plan = search rules in
    let none : since c.args.given.now c.args.given.now ≡ [] = since-none c.args.given.now c.args.given.now refl in
    record {
      renames = no-rename c.args.shown.now.files c.args.plan c.into_iter-rename-iterator.result.rest.items (since c.args.given.now c.args.given.now) c.args.done.now.unmoved all none c.requires.none.0;
      whole = search rules;
      kept = c.requires.kept;
      moves = c.requires.none.1 ∙ ap (λ (l : List Given). flat_map move_given l) (sym none);
      asks = asks-nothing (g.M.Maildir.observed c.args.mail.now) (g.M.Maildir.observed c.args.mail.now) c.args.given.now c.args.given.now refl refl refl;
      mail_same = refl;
    }

pub renames-preserved : goal.renames-preserved
renames-preserved g c =
    let mail = g.M.Maildir in
    let now = c.renames.invariant in
    let old = c.args.given.now in
    let mid = c.renames.given in
    let new = c.rename_one.new.given in
    let files = c.args.shown.now.files in
    let rest = c.next.new.self.rest.items in
    let cut : c.renames.rename-iterator.rest.items ≡ c.in-Some.rename ∷ rest = search rules in
    let so_far = subst (λ (l : List Rename). InRenames files c.args.plan l (since old mid) c.renames.done.unmoved) cut now.renames in
    let step = c.in-Ok.ensures.done in
    record {
      renames = next-rename files c.args.plan c.in-Some.rename rest (since old mid) (since old new) c.renames.done.unmoved c.rename_one.new.done.unmoved so_far
          (done-since old mid new now.asks.more now.asks.given_is (fold changed files c.renames.done.moves) (files_given files (since old mid)) c.in-Some.rename (ap (fold changed files) now.moves) step.0) step.1;
      whole = omega (arith, now.whole, c.in-Some.ensures.steps.1, ap (λ (l : List Rename). length l) cut);
      kept = c.in-Ok.ensures.kept;
      moves = moves-since old mid new now.asks.more now.asks.given_is _ c.renames.done.moves c.rename_one.new.done.moves step.0.given_is now.moves step.2;
      asks = asks-then (mail.observed c.args.mail.now) (mail.observed c.renames.mail) (mail.observed c.rename_one.new.mail) old mid new now.asks c.in-Ok.ensures.asks;
      mail_same = c.in-Ok.ensures.cause ∙ now.mail_same;
    }

pub returns-in-Err-clause-tried : goal.returns-in-Err-clause-tried
returns-in-Err-clause-tried g c =
    let now = c.renames.invariant in
    let rest = c.next.new.self.rest.items in
    let cut : c.renames.rename-iterator.rest.items ≡ c.in-Some.rename ∷ rest = search rules in
    let so_far = subst (λ (l : List Rename). InRenames c.args.shown.now.files c.args.plan l (since c.args.given.now c.renames.given) c.renames.done.unmoved) cut now.renames in
    stopped-since c.args.given.now c.renames.given c.rename_one.new.given now.asks.more now.asks.given_is c.args.shown.now.files c.args.plan c.in-Some.rename rest c.renames.done.moves c.renames.done.unmoved now.moves so_far c.in-Err.ensures.stops

pub returns-in-Err-clause-asks : goal.returns-in-Err-clause-asks
returns-in-Err-clause-asks g c =
    let mail = g.M.Maildir in
    asks-then (mail.observed c.args.mail.now) (mail.observed c.renames.mail) (mail.observed c.rename_one.new.mail) c.args.given.now c.renames.given c.rename_one.new.given c.renames.invariant.asks c.in-Err.ensures.asks

pub returns-clause-tried : goal.returns-clause-tried
returns-clause-tried g c = so-far-tried c.args.shown.now.files c.args.plan c.renames.rename-iterator.rest.items (since c.args.given.now c.renames.given) c.renames.done.unmoved c.renames.invariant.renames

pub returns-clause-all : goal.returns-clause-all
returns-clause-all g c =
    let none : c.renames.rename-iterator.rest.items ≡ [] = nil_from_length c.renames.rename-iterator.rest.items (omega (arith, c.renames.invariant.whole, c.in-None.ensures.steps.0)) in
    all-count c.args.shown.now.files c.args.plan (since c.args.given.now c.renames.given) c.renames.done.unmoved
    (subst (λ (l : List Rename). InRenames c.args.shown.now.files c.args.plan l (since c.args.given.now c.renames.given) c.renames.done.unmoved) none c.renames.invariant.renames)

pub returns-clause-unmoved : goal.returns-clause-unmoved
returns-clause-unmoved g c =
    let none : c.renames.rename-iterator.rest.items ≡ [] = nil_from_length c.renames.rename-iterator.rest.items (omega (arith, c.renames.invariant.whole, c.in-None.ensures.steps.0)) in
    all-kept c.args.shown.now.files c.args.plan (since c.args.given.now c.renames.given) c.renames.done.unmoved
    (subst (λ (l : List Rename). InRenames c.args.shown.now.files c.args.plan l (since c.args.given.now c.renames.given) c.renames.done.unmoved) none c.renames.invariant.renames)
