-- Words ask for what the grammar says, and else the word is at fault that it says.
-- For the proofs of `a_request_that_is_written_out_is_read_back`, `words_are_read_as_the_grammar_says` and `words_have_one_answer`.
use Rattle.std.proofs.Common.{◌≡◌, ◌⊎◌, inl, inr, ℕ, Bool, true, false, cond, List, [], ◌∷◌, refl, sym, ap, subst, ◌∙◌}
use Rattle.std.proofs.lemmas.Bool.{and_parts}
use Rattle.std.specs.Prelude.{Some, None, Result, Ok, Err}
use Rattle.nm_base.specs.declared.refusals.UsageKind.{UsageKind}
use Rattle.nm_base.specs.declared.refusals.UsageKind.TheVariants as kinds
use Rattle.nm_base.specs.declared.tag_op.TagOp.{TagOp}
use Rattle.nm_command.specs.Grammar.{HasChanges, HasOptions, HasTagFault, IsRefused, IsRequest, a_bad_count, a_batch_count, a_batch_tag, a_change_too_many, a_clash, a_count, a_drill, a_dump, a_fault, a_new, a_query_too_many, a_restore, a_search, a_session, a_show, a_tag, a_tag_fault, a_word_behind_the_count, a_word_too_many, needs_word, no_change, no_command, no_word, no_tag_query, nothing_left, takes_words, unknown_command}
use Rattle.nm_command.specs.Numbers.{drill_count_in}
use Rattle.nm_command.specs.Options.{read_options}
use Rattle.nm_command.specs.Requests.{after_options, batch_fault, batch_tag, changes_tags, count_ask, drill_of, drill_with, refused, request_named, request_of, request_with, single_tag, tag_ask, tag_with, with_words, without_words}
use Rattle.nm_command.specs.Settings.{nothing_set}
use Rattle.nm_command.specs.Table.{commands, meaning_of}
use Rattle.nm_command.specs.TagWords.{changes_of, is_tag_word, op_of, query_words}
use Rattle.nm_command.specs.declared.command_error.CommandError.{CommandError}
use Rattle.nm_command.specs.declared.command_error.CommandError.TheVariants.{NoMemory, Usage}
use Rattle.nm_command.specs.declared.request.Request.{Request}
use Rattle.nm_command.specs.declared.request.Request.TheVariants as requests
use Rattle.nm_command.specs.declared.settings.Settings.{Settings}
use Rattle.nm_command.specs.declared.table.CommandName.{CommandName}
use Rattle.nm_command.specs.declared.table.CommandName.TheVariants.{Count, Drill, Dump, New, Restore, Search, Session, Show, Tag}
use Rattle.nm_command.proofs.CommandLemmas.{IsRead, fault-read, has-read, read-is}
use Rattle.nm_command.proofs.TagLemmas.{IsAsked, asked-is, batch-by, has-asked, query-asked, read-change, tag-refused, untagged}

-- what is answered, by the grammar
abbrev IsAnswer : List (List ℕ) → Result Request CommandError → Type 0
IsAnswer words (Ok request) = IsRequest words request
IsAnswer words (Err (Usage word kind)) = IsRefused words word kind
IsAnswer words (Err NoMemory) = ⊥

count-is : (name : List ℕ) (words : List (List ℕ)) (settings : Settings) (rest : List (List ℕ)) → meaning_of name commands ≡ Some Count →
    HasOptions Count nothing_set words settings rest → IsAnswer (name ∷ words) (request_with Count settings rest)
count-is name words settings rest found has =
    elim settings.batch as (λ v. settings.batch ≡ v → IsAnswer (name ∷ words) (cond v (without_words kinds.Clash (requests.Count (count_ask settings rest)) rest) (Ok (requests.Count (count_ask settings rest))))) [
      | true ↦ λ batch. batched rest has batch
      | false ↦ λ single. a_count name words rest settings found has single
    ] refl
  where
    batched : (rest : List (List ℕ)) → HasOptions Count nothing_set words settings rest → settings.batch ≡ true →
        IsAnswer (name ∷ words) (without_words kinds.Clash (requests.Count (count_ask settings rest)) rest)
    batched [] has batch = a_batch_count name words settings found has batch
    batched (word ∷ more) has batch = a_clash name word words more settings found batch has

-- the words of `tag`
module _ (name : List ℕ) (words : List (List ℕ)) (settings : Settings) (rest : List (List ℕ)) (found : meaning_of name commands ≡ Some Tag)
    (has : HasOptions Tag nothing_set words settings rest) where
  tag-faulty : (batch : Bool) → settings.batch ≡ batch → (word : List ℕ) (kind : UsageKind) → HasTagFault batch rest word kind → IsRefused (name ∷ words) word kind
  tag-faulty batch is word kind fault = a_tag_fault name word words rest settings kind found has (subst (λ batch. HasTagFault batch rest word kind) (sym is) fault)

  batch-query : settings.batch ≡ true → (query : List (List ℕ)) → HasChanges rest [] query →
      IsAnswer (name ∷ words) (without_words kinds.Clash (requests.Tag (tag_ask settings [] [])) query)
  batch-query batch [] changes = a_batch_tag name words rest settings found has batch changes
  batch-query batch (word ∷ query) changes = tag-faulty true batch word kinds.Clash (a_query_too_many word rest query changes)

  single-query : settings.batch ≡ false → (ops : List TagOp) (query : List (List ℕ)) → HasChanges rest ops query → changes_tags settings.clear ops ≡ true →
      IsAnswer (name ∷ words) (with_words (requests.Tag (tag_ask settings ops query)) query)
  single-query single ops [] changes some = no_tag_query name words rest settings ops found has single changes
  single-query single ops (word ∷ query) changes some = a_tag name word words rest query settings ops found has single changes some

  single-is : settings.batch ≡ false → (asked : Result (List TagOp × List (List ℕ)) (List ℕ)) → IsAsked rest asked → IsAnswer (name ∷ words) (single_tag settings asked)
  single-is single (Err word) are = tag-faulty false single word kinds.Tag are
  single-is single (Ok asked) are =
      elim (changes_tags settings.clear asked.0) as (λ v. changes_tags settings.clear asked.0 ≡ v →
      IsAnswer (name ∷ words) (cond v (with_words (requests.Tag (tag_ask settings asked.0 asked.1)) asked.1) (refused [] kinds.Missing))) [
        | true ↦ λ some. single-query single asked.0 asked.1 are some
        | false ↦ λ none. no_change name words rest asked.1 settings asked.0 found has single are none
      ] refl

batch-is : (name : List ℕ) (words : List (List ℕ)) (settings : Settings) (rest : List (List ℕ)) → meaning_of name commands ≡ Some Tag →
    HasOptions Tag nothing_set words settings rest → settings.batch ≡ true → IsAnswer (name ∷ words) (batch_tag settings rest)
batch-is name words settings [] found has batch = a_batch_tag name words [] settings found has batch nothing_left
batch-is name words settings (word ∷ more) found has batch =
    elim (is_tag_word word) as (λ v. is_tag_word word ≡ v → IsAnswer (name ∷ words) (cond v (refused word (batch_fault (op_of word)))
    (without_words kinds.Clash (requests.Tag (tag_ask settings [] [])) (query_words (word ∷ more))))) [
      | true ↦ λ is. (elim (op_of word) as (λ op. op_of word ≡ op → IsRefused (name ∷ words) word (batch_fault op)) [
        | Some op ↦ λ says. tag-faulty name words settings (word ∷ more) found has true batch word kinds.Clash (a_change_too_many word op more (read-change word op (and_parts _ _ is).0 says))
        | None ↦ λ says. tag-faulty name words settings (word ∷ more) found has true batch word kinds.Tag (untagged true word more is says)
      ] refl)
      | false ↦ λ other. batch-query name words settings (word ∷ more) found has batch (query_words (word ∷ more)) (query-asked word more other)
    ] refl

tag-is : (name : List ℕ) (words : List (List ℕ)) (settings : Settings) (rest : List (List ℕ)) → meaning_of name commands ≡ Some Tag →
    HasOptions Tag nothing_set words settings rest → IsAnswer (name ∷ words) (request_with Tag settings rest)
tag-is name words settings rest found has =
    elim settings.batch as (λ v. settings.batch ≡ v → IsAnswer (name ∷ words) (cond v (batch_tag settings rest) (single_tag settings (changes_of rest)))) [
      | true ↦ λ batch. batch-is name words settings rest found has batch
      | false ↦ λ single. single-is name words settings rest found has single (changes_of rest) (asked-is rest)
    ] refl

drill-is : (name : List ℕ) (words : List (List ℕ)) (settings : Settings) (rest : List (List ℕ)) → meaning_of name commands ≡ Some Drill →
    HasOptions Drill nothing_set words settings rest → IsAnswer (name ∷ words) (drill_with rest)
drill-is name words settings [] found has = no_word Drill name words settings found refl has
drill-is name words settings (digits ∷ rest) found has =
    elim (drill_count_in digits) as (λ v. drill_count_in digits ≡ v → IsAnswer (name ∷ words) (drill_of v digits rest)) [
      | None ↦ λ none. a_bad_count name digits words rest settings found has none
      | Some count ↦ λ says. alone rest has count says
    ] refl
  where
    alone : (more : List (List ℕ)) → HasOptions Drill nothing_set words settings (digits ∷ more) → (count : ℕ) → drill_count_in digits ≡ Some count →
        IsAnswer (name ∷ words) (without_words kinds.Extra (requests.Drill count) more)
    alone [] has count says = a_drill name digits words settings count found has says
    alone (word ∷ more) has count says = a_word_behind_the_count name digits word words more settings count found has says

with-is : (command : CommandName) (name : List ℕ) (words : List (List ℕ)) (settings : Settings) (rest : List (List ℕ)) → meaning_of name commands ≡ Some command →
    HasOptions command nothing_set words settings rest → IsAnswer (name ∷ words) (request_with command settings rest)
with-is New name words settings [] found has = a_new name words settings found has
with-is New name words settings (word ∷ more) found has = a_word_too_many New name word words more settings found refl has
with-is Search name words settings [] found has = no_word Search name words settings found refl has
with-is Search name words settings (word ∷ more) found has = a_search name word words more settings found has
with-is Count name words settings rest found has = count-is name words settings rest found has
with-is Show name words settings [] found has = no_word Show name words settings found refl has
with-is Show name words settings (word ∷ more) found has = a_show name word words more settings found has
with-is Tag name words settings rest found has = tag-is name words settings rest found has
with-is Dump name words settings rest found has = a_dump name words rest settings found has
with-is Restore name words settings [] found has = a_restore name words settings found has
with-is Restore name words settings (word ∷ more) found has = a_word_too_many Restore name word words more settings found refl has
with-is Drill name words settings rest found has = drill-is name words settings rest found has
with-is Session name words settings [] found has = a_session name words settings found has
with-is Session name words settings (word ∷ more) found has = a_word_too_many Session name word words more settings found refl has

after-is : (command : CommandName) (name : List ℕ) (words : List (List ℕ)) → meaning_of name commands ≡ Some command →
    (read : Result (Settings × List (List ℕ)) (List ℕ × UsageKind)) → IsRead command nothing_set words read → IsAnswer (name ∷ words) (after_options command read)
after-is command name words found (Ok read) is = with-is command name words read.0 read.1 found is
after-is command name words found (Err fault) is = a_fault command name fault.0 words fault.1 found is

answer-is : (words : List (List ℕ)) → IsAnswer words (request_of words)
answer-is [] = no_command
answer-is (name ∷ words) =
    elim (meaning_of name commands) as (λ command. meaning_of name commands ≡ command → IsAnswer (name ∷ words) (request_named command name words)) [
      | None ↦ λ none. unknown_command name words none
      | Some command ↦ λ found. after-is command name words found (read_options command nothing_set words) (read-is command nothing_set words)
    ] refl

pub read-request : (words : List (List ℕ)) (request : Request) → request_of words ≡ Ok request → IsRequest words request
read-request words request h = subst (IsAnswer words) h (answer-is words)

pub read-refused : (words : List (List ℕ)) (word : List ℕ) (kind : UsageKind) → request_of words ≡ Err (Usage word kind) → IsRefused words word kind
read-refused words word kind h = subst (IsAnswer words) h (answer-is words)

-- what a command asks for, by its options and the words after them
options-give : (command : CommandName) (name : List ℕ) (words rest : List (List ℕ)) (settings : Settings) → meaning_of name commands ≡ Some command →
    HasOptions command nothing_set words settings rest → request_of (name ∷ words) ≡ request_with command settings rest
options-give command name words rest settings found has =
    ap (λ command. request_named command name words) found ∙ ap (after_options command) (has-read command nothing_set settings words rest has)

abbrev counted : Settings → List (List ℕ) → (batch : Bool) → Result Request CommandError
counted settings rest batch =
    cond batch (without_words kinds.Clash (requests.Count (count_ask settings rest)) rest) (Ok (requests.Count (count_ask settings rest)))

abbrev tagged : Settings → List (List ℕ) → (batch : Bool) → Result Request CommandError
tagged settings rest batch = cond batch (batch_tag settings rest) (single_tag settings (changes_of rest))

-- `tag` without `--batch` is read by its changes
changes-give : (name : List ℕ) (words rest query : List (List ℕ)) (settings : Settings) (ops : List TagOp) → meaning_of name commands ≡ Some Tag →
    HasOptions Tag nothing_set words settings rest → settings.batch ≡ false → HasChanges rest ops query → request_of (name ∷ words) ≡ tag_with settings ops query
changes-give name words rest query settings ops found has single changes =
    options-give Tag name words rest settings found has ∙ ap (tagged settings rest) single ∙ ap (single_tag settings) (has-asked rest ops query changes)

abbrev when_changed : Settings → List TagOp → List (List ℕ) → (some : Bool) → Result Request CommandError
when_changed settings ops query some = cond some (with_words (requests.Tag (tag_ask settings ops query)) query) (refused [] kinds.Missing)

either-missing : (settings : Settings) (ops : List TagOp) (some : Bool) → when_changed settings ops [] some ≡ Err (Usage [] kinds.Missing)
either-missing settings ops true = refl
either-missing settings ops false = refl

pub request-read : (words : List (List ℕ)) (request : Request) → IsRequest words request → request_of words ≡ Ok request
request-read words request (a_new name more settings found has) = options-give New name more [] settings found has
request-read words request (a_search name word more query settings found has) = options-give Search name more (word ∷ query) settings found has
request-read words request (a_count name more query settings found has single) = options-give Count name more query settings found has ∙ ap (counted settings query) single
request-read words request (a_batch_count name more settings found has batch) = options-give Count name more [] settings found has ∙ ap (counted settings []) batch
request-read words request (a_show name word more query settings found has) = options-give Show name more (word ∷ query) settings found has
request-read words request (a_tag name word more rest query settings ops found has single changes some) =
    changes-give name more rest (word ∷ query) settings ops found has single changes ∙ ap (when_changed settings ops (word ∷ query)) some
request-read words request (a_batch_tag name more rest settings found has batch changes) =
    options-give Tag name more rest settings found has ∙ ap (tagged settings rest) batch ∙ batch-by settings rest [] (has-asked rest [] [] changes)
request-read words request (a_restore name more settings found has) = options-give Restore name more [] settings found has
request-read words request (a_dump name more query settings found has) = options-give Dump name more query settings found has
request-read words request (a_drill name digits more settings count found has says) =
    options-give Drill name more (digits ∷ []) settings found has ∙ ap (λ v. drill_of v digits []) says
request-read words request (a_session name more settings found has) = options-give Session name more [] settings found has

wanting : (command : CommandName) (settings : Settings) → needs_word command ≡ true → request_with command settings [] ≡ Err (Usage [] kinds.Missing)
wanting New settings h = absurd (cc)
wanting Search settings h = refl
wanting Count settings h = absurd (cc)
wanting Show settings h = refl
wanting Tag settings h = absurd (cc)
wanting Dump settings h = absurd (cc)
wanting Restore settings h = absurd (cc)
wanting Drill settings h = refl
wanting Session settings h = absurd (cc)

too_many : (command : CommandName) (settings : Settings) (word : List ℕ) (more : List (List ℕ)) → takes_words command ≡ false →
    request_with command settings (word ∷ more) ≡ Err (Usage word kinds.Extra)
too_many New settings word more h = refl
too_many Search settings word more h = absurd (cc)
too_many Count settings word more h = absurd (cc)
too_many Show settings word more h = absurd (cc)
too_many Tag settings word more h = absurd (cc)
too_many Dump settings word more h = absurd (cc)
too_many Restore settings word more h = refl
too_many Drill settings word more h = absurd (cc)
too_many Session settings word more h = refl

pub refused-read : (words : List (List ℕ)) (word : List ℕ) (kind : UsageKind) → IsRefused words word kind → request_of words ≡ Err (Usage word kind)
refused-read words word kind no_command = refl
refused-read words word kind (unknown_command _ more none) = ap (λ command. request_named command word more) none
refused-read words word kind (a_fault command name _ more _ found is) =
    ap (λ command. request_named command name more) found ∙ ap (after_options command) (fault-read command nothing_set more word kind is)
refused-read words word kind (no_word command name more settings found needs has) = options-give command name more [] settings found has ∙ wanting command settings needs
refused-read words word kind (a_word_too_many command name _ more others settings found takes has) =
    options-give command name more (word ∷ others) settings found has ∙ too_many command settings word others takes
refused-read words word kind (a_clash name _ more others settings found batch has) =
    options-give Count name more (word ∷ others) settings found has ∙ ap (counted settings (word ∷ others)) batch
refused-read words word kind (a_tag_fault name _ more rest settings _ found has fault) =
    options-give Tag name more rest settings found has ∙ tag-refused settings settings.batch rest word kind fault
refused-read words word kind (no_change name more rest query settings ops found has single changes none) =
    changes-give name more rest query settings ops found has single changes ∙ ap (when_changed settings ops query) none
refused-read words word kind (no_tag_query name more rest settings ops found has single changes) =
    changes-give name more rest [] settings ops found has single changes ∙ either-missing settings ops (changes_tags settings.clear ops)
refused-read words word kind (a_bad_count name _ more others settings found has none) =
    options-give Drill name more (word ∷ others) settings found has ∙ ap (λ v. drill_of v word others) none
refused-read words word kind (a_word_behind_the_count name digits _ more others settings count found has says) =
    options-give Drill name more (digits ∷ word ∷ others) settings found has ∙ ap (λ v. drill_of v digits (word ∷ others)) says

-- each answer is one or the other
either-is : (words : List (List ℕ)) (answer : Result Request CommandError) → IsAnswer words answer →
    ((request : Request) × IsRequest words request) ⊎ ((word : List ℕ) × (kind : UsageKind) × IsRefused words word kind)
either-is words (Ok request) is = inl (request, is)
either-is words (Err (Usage word kind)) is = inr (word, kind, is)
either-is words (Err NoMemory) is = absurd is

pub one-or-other : (words : List (List ℕ)) → ((request : Request) × IsRequest words request) ⊎ ((word : List ℕ) × (kind : UsageKind) × IsRefused words word kind)
one-or-other words = either-is words (request_of words) (answer-is words)
