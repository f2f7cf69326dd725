use Rattle.std.proofs.Common.{ℕ, List, [], ◌∷◌, codes, drop, not, refl, take}
use Rattle.nm_flags.specs.FlagTags.{any_draft, any_flagged, any_passed, any_replied, any_seen, name_ops, op_of}
use Rattle.nm_flags.proofs.laws.each_tag_follows_its_letter.Goals as goal

pub returns-clause-draft : goal.returns-clause-draft
returns-clause-draft c = λ tags paths sorted.
    c.the_last_operation_on_a_tag_decides.ensures tags (take 0 (name_ops paths)) (drop 1 (name_ops paths)) (op_of (any_draft paths) (codes "draft")) sorted refl

pub returns-clause-flagged : goal.returns-clause-flagged
returns-clause-flagged c = λ tags paths sorted.
    c.the_last_operation_on_a_tag_decides.ensures tags (take 1 (name_ops paths)) (drop 2 (name_ops paths)) (op_of (any_flagged paths) (codes "flagged")) sorted refl

pub returns-clause-passed : goal.returns-clause-passed
returns-clause-passed c = λ tags paths sorted.
    c.the_last_operation_on_a_tag_decides.ensures tags (take 2 (name_ops paths)) (drop 3 (name_ops paths)) (op_of (any_passed paths) (codes "passed")) sorted refl

pub returns-clause-replied : goal.returns-clause-replied
returns-clause-replied c = λ tags paths sorted.
    c.the_last_operation_on_a_tag_decides.ensures tags (take 3 (name_ops paths)) (drop 4 (name_ops paths)) (op_of (any_replied paths) (codes "replied")) sorted refl

pub returns-clause-unread : goal.returns-clause-unread
returns-clause-unread c = λ tags paths sorted.
    c.the_last_operation_on_a_tag_decides.ensures tags (take 4 (name_ops paths)) (drop 5 (name_ops paths)) (op_of (not (any_seen paths)) (codes "unread")) sorted refl
