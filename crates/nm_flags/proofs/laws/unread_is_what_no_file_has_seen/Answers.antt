use Rattle.std.proofs.Common.{[], ◌∷◌, codes, not, refl}
use Rattle.nm_flags.specs.FlagTags.{any_draft, any_flagged, any_passed, any_replied, any_seen, op_of}
use Rattle.nm_flags.proofs.laws.unread_is_what_no_file_has_seen.Goals as goal

pub returns : goal.returns
returns c = λ tags paths sorted.
    c.the_last_operation_on_a_tag_decides.ensures tags
    (op_of (any_draft paths) (codes "draft") ∷ op_of (any_flagged paths) (codes "flagged") ∷ op_of (any_passed paths) (codes "passed") ∷ op_of (any_replied paths) (codes "replied") ∷ [])
    [] (op_of (not (any_seen paths)) (codes "unread")) sorted refl
