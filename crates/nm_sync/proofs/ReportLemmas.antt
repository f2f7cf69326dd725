-- A report where no commit is between the index before and the one after. For the proof of `messages_changed`.
use Rattle.std.proofs.Common.{◌≡◌, ℕ, ◌+◌, Bool, true, false, ◌||◌, ◌&&◌, not, List, [], ◌∷◌, length, refl, sym, ap, ◌∙◌, arith}
use Rattle.std.specs.Cmp.Lexicographic.{nat_list_eq_equiv}
use Rattle.std.proofs.lemmas.List.{nil_from_length}
use Rattle.nm_base.specs.Order.{has_text}
use Rattle.nm_base.specs.SetLaws.{has_text-filter}
use Rattle.nm_base.specs.declared.facts.Facts.{Facts}
use Rattle.nm_model_answer.specs.NewText.{ids_of, only_in}
use Rattle.nm_commit.specs.declared.change.Commit.{Commit}
use Rattle.nm_model_index.specs.Index.{committed, folded}
use Rattle.nm_model_index.specs.declared.base.Base.{Base}

both-ways : (b : Bool) → (b && not b) ≡ false
both-ways true = refl
both-ways false = refl

none-in : (texts : List (List ℕ)) → ((other : List ℕ) → has_text texts other ≡ false) → texts ≡ []
none-in [] none = refl
none-in (text ∷ texts) none = absurd (let there : true ≡ false = sym (ap (λ b. b || has_text texts text) (nat_list_eq_equiv.refl text)) ∙ none text in cc)

-- no message is in one alone of two that are the same
none_only : (files : List (List ℕ × Facts)) → only_in files files ≡ []
none_only files =
    none-in (only_in files files)
    (λ other. has_text-filter (λ text. not (has_text (ids_of files) text)) (ids_of files) other ∙ both-ways (has_text (ids_of files) other))

revision-more : (index : Base) (commits : List Commit) → (folded index commits).revision ≡ index.revision + length commits
revision-more index [] = omega arith
revision-more index (commit ∷ commits) = revision-more (committed index commit) commits ∙ omega arith

-- at one revision they are the same
pub same_index : (before after : Base) (commits : List Commit) → after ≡ folded before commits → before.revision ≡ after.revision → after ≡ before
same_index before after commits is same =
    let none : commits ≡ [] = nil_from_length commits (omega (arith, same, ap (λ (b : Base). b.revision) is ∙ revision-more before commits)) in
    is ∙ ap (folded before) none

pub none_born : (before after : Base) (commits : List Commit) → after ≡ folded before commits → before.revision ≡ after.revision → 0 ≡ length (only_in before.files after.files)
none_born before after commits is same =
    ap length (sym (none_only before.files)) ∙ ap (λ (b : Base). length (only_in before.files b.files)) (sym (same_index before after commits is same))

pub none_died : (before after : Base) (commits : List Commit) → after ≡ folded before commits → before.revision ≡ after.revision → 0 ≡ length (only_in after.files before.files)
none_died before after commits is same =
    ap length (sym (none_only before.files)) ∙ ap (λ (b : Base). length (only_in b.files before.files)) (sym (same_index before after commits is same))
