-- What the restore of a dump comes to: of each message one line sets its tags.
-- For the proofs of `a_dump_restores_its_tags` and `a_restored_dump_is_in_the_index`.
use Rattle.std.proofs.Common.{◌≡◌, ℕ, ◌+◌, ℤ, Bool, true, false, ◌||◌, cond, List, [], ◌∷◌, map, Result, Ok, Err, Option, refl, sym, ap, ◌∙◌, subst, IsTrue}
use Rattle.std.specs.Prelude.{◌≢◌, unwrap_or}
use Rattle.std.specs.BTreeMap.{is_at}
use Rattle.std.specs.Cmp.Lexicographic.{nat_list_eq_equiv, slice_cmp}
use Rattle.std.specs.List.{AllByRecursion, IsDistinct}
use Rattle.std.specs.Map.{lookup}
use Rattle.std.specs.Ordering.{nat_cmp}
use Rattle.nm_model_answer.specs.Dump.{dump_text, tagged}
use Rattle.nm_model_answer.specs.DumpLines.{read_dump}
use Rattle.nm_model_answer.specs.Restore.{restorings_by, restorings_of}
use Rattle.nm_model_answer.specs.WantedTags.{wanted_by}
use Rattle.nm_model_answer.specs.View.{tags_of}
use Rattle.nm_base.specs.Order.{IsSorted, same_text, sorted}
use Rattle.nm_base.specs.declared.forms.DumpForm.TheVariants.{BatchTag, Sup}
use Rattle.nm_base.specs.declared.forms.ReadForm.{ReadForm}
use Rattle.nm_base.specs.declared.forms.ReadForm.TheVariants as forms
use Rattle.nm_dump.specs.ReadBack.{wanted_from, AreFitForSup, AreMessages}
use Rattle.nm_dump.specs.Restored.{is_live, is_named_in, lines_naming, restored_tags, HaveTheirTags, StandOnce}
use Rattle.nm_dump.specs.Tags.{set_tag}
use Rattle.nm_base.specs.OrderLaws.{IsSorted-sorted, distinct_sorted, none_sorted}
use Rattle.nm_dump.proofs.RestoreLemmas.{restored}
use Rattle.nm_dump.proofs.RestoredLemmas.{after_lines}
use Rattle.nm_model_index.specs.Valid.{IsValid}
use Rattle.nm_model_index.specs.Index.{folded}
use Rattle.nm_model_index.specs.declared.base.Base.{Base}
use Rattle.nm_model_plan.specs.Numbering.{AreNumbered}
use Rattle.nm_model_plan.specs.TagCommit.{tag_commit}
use Rattle.nm_model_answer.specs.declared.tag_change.TagChange.{TagChange}
use Rattle.nm_tags.specs.Operations.{after_ops, begun_with}
use Rattle.nm_tags.specs.declared.line_error.LineKind.{LineKind}
use Rattle.nm_tags.specs.declared.wanted.Wanted.{Wanted}

abbrev Texts : Type 0
Texts = List (List ℕ)

abbrev Message : Type 0
Message = List ℕ × Texts

-- the lines name the message, and what they do is to set these tags
abbrev Say : List Wanted → Message → Type 0
Say lines message = (is_named_in lines message.0 ≡ true) × ((at : Texts) → after_lines (lines_naming lines message.0) at ≡ after_ops at (map set_tag message.1))

-- no line names a message that is not there
none_named : (id : List ℕ) (messages : List Message) (number : ℕ) → AllByRecursion (λ other. same_text id other ≡ false) (map (λ message. message.0) messages) → lines_naming (wanted_from number messages) id ≡ []
none_named id [] number apart = refl
none_named id (message ∷ messages) number apart =
    let line : Wanted = record { line = number; id = message.0; ops = map set_tag message.1 } in
    let lines : List Wanted = lines_naming (wanted_from (number + 1) messages) id in
    ap (λ (b : Bool). cond b (line ∷ lines) lines) apart.0 ∙ none_named id messages (number + 1) apart.1

-- a line of another message changes nothing of what is said
say_more : (line : Wanted) (lines : List Wanted) (messages : List Message) → AllByRecursion (λ other. same_text line.id other ≡ false) (map (λ message. message.0) messages)
    → AllByRecursion (Say lines) messages → AllByRecursion (Say (line ∷ lines)) messages
say_more line lines [] apart said = tt
say_more line lines (message ∷ messages) apart said =
    let other : same_text message.0 line.id ≡ false = nat_list_eq_equiv.symm message.0 line.id ∙ apart.0 in
    let naming : List Wanted = lines_naming lines message.0 in (
      (
        ap (λ (b : Bool). b || is_named_in lines message.0) other ∙ said.0.0,
        λ at. ap (λ (b : Bool). after_lines (cond b (line ∷ naming) naming) at) other ∙ said.0.1 at,
      ),
      say_more line lines messages apart.1 said.1,
    )

all_said : (messages : List Message) (number : ℕ) → IsDistinct same_text (map (λ message. message.0) messages) → AllByRecursion (Say (wanted_from number messages)) messages
unfolding IsDistinct
all_said [] number apart = tt
all_said (message ∷ messages) number apart =
    let line : Wanted = record { line = number; id = message.0; ops = map set_tag message.1 } in
    let lines : List Wanted = wanted_from (number + 1) messages in
    let own : same_text message.0 message.0 ≡ true = nat_list_eq_equiv.refl message.0 in
    let naming : List Wanted = lines_naming lines message.0 in (
      (
        ap (λ (b : Bool). b || is_named_in lines message.0) own,
        λ at. ap (λ (b : Bool). after_lines (cond b (line ∷ naming) naming) at) own
            ∙ ap (λ (l : List Wanted). after_lines (line ∷ l) at) (none_named message.0 messages (number + 1) apart.0),
      ),
      say_more line lines messages apart.0 (all_said messages (number + 1) apart.1),
    )

module _ (live : (accumulate : Bool) (moment : ℤ) (index : Base) (lines : List Wanted) (id : List ℕ) → IsTrue (is_live index id)
    → tags_of (wanted_by moment index (restorings_by accumulate lines)) id ≡ restored_tags accumulate lines id (tags_of index id)) where
  all_restored : (moment : ℤ) (index : Base) (lines : List Wanted) (messages : List Message) → AllByRecursion (Say lines) messages → AllByRecursion (λ message. IsSorted message.1) messages
      → HaveTheirTags index (wanted_by moment index (restorings_by false lines)) messages
  all_restored moment index lines [] said in_order = tt
  all_restored moment index lines (message ∷ messages) said in_order = (
    λ here. live false moment index lines message.0 here
        ∙ (ap (λ (b : Bool). after_lines (lines_naming lines message.0) (begun_with b (tags_of index message.0))) said.0.0
        ∙ (said.0.1 [] ∙ restored message.1 in_order.0)),
    all_restored moment index lines messages said.1 in_order.1,
  )

  pub messages_restored : (moment : ℤ) (index : Base) (number : ℕ) (messages : List Message) → StandOnce messages
      → HaveTheirTags index (wanted_by moment index (restorings_by false (wanted_from number messages))) messages
  messages_restored moment index number messages once = all_restored moment index (wanted_from number messages) messages (all_said messages number once.0) once.1

  text_restored : (moment : ℤ) (index : Base) (form : ReadForm) (text : List ℕ) (number : ℕ) (messages : List Message) → read_dump text form ≡ Ok (wanted_from number messages) → StandOnce messages
      → HaveTheirTags index (wanted_by moment index (restorings_of (record { form = form; accumulate = false }) text)) messages
  text_restored moment index form text number messages read once =
      subst (λ (answer : Result (List Wanted) (ℕ × LineKind)). HaveTheirTags index (wanted_by moment index (restorings_by false (elim answer [ Ok lines ↦ lines | Err fault ↦ [] ]))) messages) (sym read)
      (messages_restored moment index number messages once)

  module _ (changes : (messages : List Message) → AreMessages messages → read_dump (dump_text BatchTag messages) forms.BatchTag ≡ Ok (wanted_from 2 messages))
      (told : (messages : List Message) → AreMessages messages → read_dump (dump_text BatchTag messages) forms.Auto ≡ Ok (wanted_from 2 messages)) where
    changes_back : (form : ReadForm) (messages : List Message) → form ≢ forms.Sup → AreMessages messages → read_dump (dump_text BatchTag messages) form ≡ Ok (wanted_from 2 messages)
    changes_back forms.Auto messages other h = told messages h
    changes_back forms.BatchTag messages other h = changes messages h
    changes_back forms.Sup messages other h = absurd (other refl)

    pub changes_restored : (moment : ℤ) (index : Base) (form : ReadForm) (messages : List Message) → form ≢ forms.Sup → AreMessages messages → StandOnce messages
        → HaveTheirTags index (wanted_by moment index (restorings_of (record { form = form; accumulate = false }) (dump_text BatchTag messages))) messages
    changes_restored moment index form messages other h once = text_restored moment index form (dump_text BatchTag messages) 2 messages (changes_back form messages other h) once

  pub sup_restored : (read : (messages : List Message) → AreMessages messages → AreFitForSup messages → read_dump (dump_text Sup messages) forms.Sup ≡ Ok (wanted_from 1 messages))
      (moment : ℤ) (index : Base) (messages : List Message) → AreMessages messages → AreFitForSup messages → StandOnce messages
      → HaveTheirTags index (wanted_by moment index (restorings_of (record { form = forms.Sup; accumulate = false }) (dump_text Sup messages))) messages
  sup_restored read moment index messages h fit once = text_restored moment index forms.Sup (dump_text Sup messages) 1 messages (read messages h fit) once

-- ---- messages of an index

ids_tagged : (index : Base) (ids : Texts) → map (λ (message : Message). message.0) (tagged index ids) ≡ ids
ids_tagged index [] = refl
ids_tagged index (id ∷ ids) = ap (λ (l : Texts). id ∷ l) (ids_tagged index ids)

found_by : (b : Bool) (tags : Texts) (others : Option Texts) → IsSorted tags → IsSorted (unwrap_or others []) → IsSorted (unwrap_or (cond b (Option.Some tags) others) [])
found_by true tags others here more = here
found_by false tags others here more = more

tags_sorted : (id : List ℕ) (entries : List Message) → AllByRecursion (λ message. IsSorted message.1) entries → IsSorted (unwrap_or (lookup (is_at (slice_cmp nat_cmp id)) entries) [])
tags_sorted id [] h = none_sorted
tags_sorted id (entry ∷ entries) h = found_by (is_at (slice_cmp nat_cmp id) entry.0) entry.1 (lookup (is_at (slice_cmp nat_cmp id)) entries) h.0 (tags_sorted id entries h.1)

all_sorted : (index : Base) (ids : Texts) → AllByRecursion (λ message. IsSorted message.1) index.tags → AllByRecursion {X = Message} (λ message. IsSorted message.1) (tagged index ids)
all_sorted index [] h = tt
all_sorted index (id ∷ ids) h = (tags_sorted id index.tags h, all_sorted index ids h)

-- a dump of an index has each message once, with its tags in order
pub tagged_once : (index : Base) (ids : Texts) → IsValid index → StandOnce (tagged index (sorted ids))
tagged_once index ids valid = (
  subst (IsDistinct same_text) (sym (ids_tagged index (sorted ids))) (distinct_sorted (sorted ids) (IsSorted-sorted ids)),
  all_sorted index (sorted ids) valid.sets,
)

-- and once the commit of tags is made they have them in the index
pub all_committed : (lines : (moment : ℤ) (index : Base) (lines : List TagChange) (id : List ℕ) → AreNumbered index
    → tags_of (folded index (tag_commit index (wanted_by moment index lines))) id ≡ tags_of (wanted_by moment index lines) id)
    (moment : ℤ) (index : Base) → AreNumbered index → (asked : List TagChange) (messages : List Message) → HaveTheirTags index (wanted_by moment index asked) messages
    → HaveTheirTags index (folded index (tag_commit index (wanted_by moment index asked))) messages
all_committed lines moment index numbered asked [] have = tt
all_committed lines moment index numbered asked (message ∷ messages) have = (
  λ here. lines moment index asked message.0 numbered ∙ have.0 here,
  all_committed lines moment index numbered asked messages have.1,
)
