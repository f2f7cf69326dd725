use Rattle.std.proofs.Common.{◌≡◌, ◌<◌, ◌∙◌, IfErr, IfOk, Some, ap, length, subst, sym}
use Rattle.nm_base.specs.Limits.{max_path_bytes}
use Rattle.nm_name.specs.Cuts.{cut_last}
use Rattle.nm_name.specs.Names.{letters_of}
use Rattle.nm_name.specs.FlaggedPath.{new_letters}
use Rattle.nm_name.specs.declared.flagged_path.NameError.TheVariants.{Long}
use Rattle.nm_name.proofs.PathLemmas.{renamed_is}
use Rattle.nm_name.proofs.flagged_path.with_flags.Goals as goal

pub returns-clause-ok : goal.returns-clause-ok
returns-clause-ok c =
    let found : cut_last 47 c.args.path.now ≡ Some (c.in-Some.folder.now, c.in-Some.name.now) = ap (cut_last 47) (sym c.text.ensures.same ∙ sym c.as_str-text.ensures) ∙ c.in-Some.ensures.0 in
    let same : c.as_str.result.now ≡ new_letters (letters_of c.in-Some.name.now) c.args.flags = c.as_str.ensures.value ∙ c.in_ok-letters.ensures.value ∙ ap (λ l. new_letters l c.args.flags) c.letters_of.ensures in
    subst (λ v. IfOk c.placed.result (λ target. target ≡ v)) (renamed_is c.args.path.now c.in-Some.folder.now c.in-Some.name.now c.as_str.result.now c.args.flags found (search) same) c.placed.ensures.ok

pub returns-clause-long : goal.returns-clause-long
returns-clause-long c =
    let found : cut_last 47 c.args.path.now ≡ Some (c.in-Some.folder.now, c.in-Some.name.now) = ap (cut_last 47) (sym c.text.ensures.same ∙ sym c.as_str-text.ensures) ∙ c.in-Some.ensures.0 in
    let same : c.as_str.result.now ≡ new_letters (letters_of c.in-Some.name.now) c.args.flags = c.as_str.ensures.value ∙ c.in_ok-letters.ensures.value ∙ ap (λ l. new_letters l c.args.flags) c.letters_of.ensures in
    subst (λ v. IfErr c.placed.result (λ e. e ≡ Long → max_path_bytes < length v)) (renamed_is c.args.path.now c.in-Some.folder.now c.in-Some.name.now c.as_str.result.now c.args.flags found (search) same) c.placed.ensures.long
