-- Leading options: what is written is cut again at its first `=`, and a name that occurs twice is found.
-- For the proofs of `leading_options_are_read_as_written` and `leading_words_are_refused`.
use Rattle.std.proofs.Common.{◌≡◌, ℕ, ◌++◌, Bool, true, false, cond, ◌&&◌, not, List, [], ◌∷◌, length, map, refl, sym, ap, ◌∙◌}
use Rattle.std.specs.Prelude.{ℤ, pos, negsuc, Option, Some, None, Result, Ok, Err, codes, is_some, nat_le, nat_lt}
use Rattle.std.specs.Cmp.Lexicographic.{nat_list_eq_equiv}
use Rattle.std.specs.Fmt.{decimal}
use Rattle.std.specs.List.{before_first, list_all, take_while}
use Rattle.std.specs.Option.{option_and_then}
use Rattle.std.proofs.lemmas.List.Sums.{take_while-cons}
use Rattle.std.proofs.lemmas.Bool.{and_from, and_left, and_parts, and_right, eqb-true, not-true}
use Rattle.nm_base.specs.Order.{same_text}
use Rattle.nm_text.specs.Cuts.{is_byte}
use Rattle.nm_command.specs.LeadingOptions.{are_distinct, are_options, cut_option, is_command, is_option, leading_of, may_be, options_in, told_by}
use Rattle.nm_command.specs.Numbers.{moment_in, workers_in}
use Rattle.nm_command.specs.Options.{begins_with_dashes}
use Rattle.nm_command.specs.Settings.{or_default}
use Rattle.nm_command.specs.RequestWords.{can_be_told, in_words, leading_words_of, moment_fits, moment_options, option}
use Rattle.nm_command.specs.Table.{leading_options, meaning_of}
use Rattle.nm_command.specs.declared.leading_options.HeadError.{HeadError}
use Rattle.nm_command.specs.declared.leading_options.HeadError.TheVariants.{Usage}
use Rattle.nm_command.specs.declared.leading_options.Leading.{Leading}
use Rattle.nm_command.proofs.NameLemmas.{is_name, name-cut, name-dashes_on, name-lacks, value-cut}
use Rattle.nm_command.proofs.NumberLemmas.{moment-back, workers-back}
use Rattle.nm_command.proofs.RowLemmas.{AllRows, row-holds}

-- the names of the options have dashes and no `=`
all_names : AllRows (λ name form. is_name name ≡ true) leading_options
all_names = (refl, (refl, (refl, (refl, tt))))

good-name : (written : List ℕ × List ℕ) → is_option written ≡ true → is_name written.0 ≡ true
good-name written h =
    elim (meaning_of written.0 leading_options) as (λ form. meaning_of written.0 leading_options ≡ form →
    (elim form [ Some form ↦ may_be form written.1 | None ↦ false ]) ≡ true → is_name written.0 ≡ true) [
      | None ↦ λ none h. absurd (cc)
      | Some form ↦ λ found h. row-holds (λ name form. is_name name ≡ true) leading_options written.0 form all_names found
    ] refl h

good-dashes : (written : List ℕ × List ℕ) → is_option written ≡ true → begins_with_dashes (option written.0 written.1) ≡ true
good-dashes written h = name-dashes_on written.0 (61 ∷ written.1) (good-name written h)

good-cut : (written : List ℕ × List ℕ) → is_option written ≡ true → cut_option (option written.0 written.1) ≡ written
good-cut written h =
    let lacks = name-lacks written.0 (good-name written h) in
    ap (λ name. (name, (cut_option (option written.0 written.1)).1)) (name-cut written.0 written.1 lacks)
    ∙ ap (λ value. (written.0, value)) (value-cut written.0 written.1 lacks)

-- a leading word is one option more
one-more : (word : List ℕ) (words : List (List ℕ)) → begins_with_dashes word ≡ true → options_in (word ∷ words) ≡ cut_option word ∷ options_in words
one-more word words h =
    ap (map cut_option) (take_while-cons begins_with_dashes word words)
    ∙ ap (λ v. map cut_option (cond v (word ∷ take_while begins_with_dashes words) [])) h

none-more : (words : List (List ℕ)) → is_command words ≡ true → options_in words ≡ []
none-more [] h = refl
none-more (word ∷ words) h =
    ap (map cut_option) (take_while-cons begins_with_dashes word words)
    ∙ ap (λ v. map cut_option (cond v (word ∷ take_while begins_with_dashes words) [])) (not-true (begins_with_dashes word) h)

written-back : (options : List (List ℕ × List ℕ)) (words : List (List ℕ)) → list_all is_option options ≡ true → is_command words ≡ true →
    options_in (in_words options ++ words) ≡ options
written-back [] words good command = none-more words command
written-back (written ∷ more) words good command =
    let is = (and_parts (is_option written) (list_all is_option more) good).0 in
    one-more (option written.0 written.1) (in_words more ++ words) (good-dashes written is)
    ∙ ap (λ first. first ∷ options_in (in_words more ++ words)) (good-cut written is)
    ∙ ap (λ rest. written ∷ rest) (written-back more words (and_parts (is_option written) (list_all is_option more) good).1 command)

abbrev answer : List (List ℕ × List ℕ) → Bool → Result Leading HeadError
answer options good = cond good (Ok (told_by options)) (Err Usage)

pub options-told : (options : List (List ℕ × List ℕ)) (words : List (List ℕ)) → are_options options ≡ true → is_command words ≡ true →
    leading_of (in_words options ++ words) ≡ Ok (told_by options)
options-told options words good command =
    ap (λ options. answer options (are_options options)) (written-back options words (and_parts (list_all is_option options) (are_distinct options) good).0 command)
    ∙ ap (answer options) good

-- what these options can say
record IsTold (leading : Leading) : Type 0 where
  mail : nat_lt 0 (length leading.mail) ≡ true
  index : nat_lt 0 (length leading.index) ≡ true
  some : nat_le 1 leading.workers ≡ true
  few : nat_le leading.workers 16 ≡ true
  moment : moment_fits leading.moment ≡ true
  rest : leading.rest ≡ length (leading_words_of leading)

is-told : (leading : Leading) → can_be_told leading ≡ true → IsTold leading
is-told leading h =
    let rest = and_parts _ _ h in
    let moment = and_parts _ _ rest.0 in
    let few = and_parts _ _ moment.0 in
    let some = and_parts _ _ few.0 in
    let texts = and_parts _ _ some.0 in
    record {
      mail = texts.0;
      index = texts.1;
      some = some.1;
      few = few.1;
      moment = moment.1;
      rest = eqb-true leading.rest (length (leading_words_of leading)) rest.1;
    }

moment-good : (moment : Option ℤ) → moment_fits moment ≡ true → list_all is_option (moment_options moment) ≡ true
moment-good None h = refl
moment-good (Some (pos second)) h = ap (λ told. is_some told && true) (moment-back second h)
moment-good (Some (negsuc second)) h = absurd (cc)

moment-told : (moment : Option ℤ) → moment_fits moment ≡ true → option_and_then moment_in (meaning_of (codes "--moment") (moment_options moment)) ≡ moment
moment-told None h = refl
moment-told (Some (pos second)) h = moment-back second h
moment-told (Some (negsuc second)) h = absurd (cc)

-- the names differ
request_words-distinct : (mail index workers : List ℕ) (moment : Option ℤ) →
    are_distinct ((codes "--mail", mail) ∷ (codes "--index", index) ∷ (codes "--workers", workers) ∷ moment_options moment) ≡ true
request_words-distinct mail index workers None = refl
request_words-distinct mail index workers (Some (pos second)) = refl
request_words-distinct mail index workers (Some (negsuc second)) = refl

request_words-good : (leading : Leading) → IsTold leading → are_options (leading_words_of leading) ≡ true
request_words-good leading is =
    let workers : is_some (workers_in (decimal leading.workers)) ≡ true = ap is_some (workers-back leading.workers is.some is.few) in
    and_from (list_all is_option (leading_words_of leading)) (are_distinct (leading_words_of leading))
    (and_from _ _ is.mail (and_from _ _ is.index (and_from _ _ workers (moment-good leading.moment is.moment))))
    (request_words-distinct leading.mail leading.index (decimal leading.workers) leading.moment)

request_words-told : (leading : Leading) → IsTold leading → told_by (leading_words_of leading) ≡ leading
request_words-told leading is =
    ap (λ (workers : Option ℕ). record (told_by (leading_words_of leading)) { workers = or_default workers 4 }) (workers-back leading.workers is.some is.few)
    ∙ ap (λ (moment : Option ℤ). record (told_by (leading_words_of leading)) { workers = leading.workers; moment = moment }) (moment-told leading.moment is.moment)
    ∙ ap (λ (rest : ℕ). record leading { rest = rest }) (sym is.rest)

pub leading-back : (leading : Leading) (words : List (List ℕ)) → can_be_told leading ≡ true → is_command words ≡ true →
    leading_of (in_words (leading_words_of leading) ++ words) ≡ Ok leading
leading-back leading words h command =
    options-told (leading_words_of leading) words (request_words-good leading (is-told leading h)) command
    ∙ ap Ok (request_words-told leading (is-told leading h))

-- leading words at the front are options at the front
front-options : (front words : List (List ℕ)) → list_all begins_with_dashes front ≡ true → options_in (front ++ words) ≡ map cut_option front ++ options_in words
front-options [] words h = refl
front-options (word ∷ front) words h =
    one-more word (front ++ words) (and_parts (begins_with_dashes word) (list_all begins_with_dashes front) h).0
    ∙ ap (λ rest. cut_option word ∷ rest) (front-options front words (and_parts (begins_with_dashes word) (list_all begins_with_dashes front) h).1)

front-then : (front : List (List ℕ)) (word : List ℕ) (words : List (List ℕ)) → list_all begins_with_dashes front ≡ true → begins_with_dashes word ≡ true →
    options_in (front ++ word ∷ words) ≡ map cut_option front ++ cut_option word ∷ options_in words
front-then front word words all begins =
    front-options front (word ∷ words) all ∙ ap (λ rest. map cut_option front ++ rest) (one-more word words begins)

refused-so : (words : List (List ℕ)) (options : List (List ℕ × List ℕ)) → options_in words ≡ options → are_options options ≡ false → leading_of words ≡ Err Usage
refused-so words options is bad = ap (λ options. answer options (are_options options)) is ∙ ap (answer options) bad

-- an option that is none of them
bad-found : (front : List (List ℕ × List ℕ)) (written : List ℕ × List ℕ) (rest : List (List ℕ × List ℕ)) → is_option written ≡ false → list_all is_option (front ++ written ∷ rest) ≡ false
bad-found [] written rest h = and_left (is_option written) (list_all is_option rest) h
bad-found (first ∷ front) written rest h = and_right (is_option first) (list_all is_option (front ++ written ∷ rest)) (bad-found front written rest h)

pub word-refused : (before : List (List ℕ)) (word : List ℕ) (after : List (List ℕ)) → list_all begins_with_dashes before ≡ true → begins_with_dashes word ≡ true →
    is_option (cut_option word) ≡ false → leading_of (before ++ word ∷ after) ≡ Err Usage
word-refused before word after all begins bad =
    let options = map cut_option before ++ cut_option word ∷ options_in after in
    refused-so (before ++ word ∷ after) options (front-then before word after all begins)
    (and_left (list_all is_option options) (are_distinct options) (bad-found (map cut_option before) (cut_option word) (options_in after) bad))

-- a name that is further on is found there
found-later : (name : List ℕ) (between : List (List ℕ × List ℕ)) (other : List ℕ × List ℕ) (rest : List (List ℕ × List ℕ)) → name ≡ other.0 →
    is_some (meaning_of name (between ++ other ∷ rest)) ≡ true
found-later name [] other rest same =
    ap (λ v. is_some (cond v (Some other.1) (meaning_of name rest))) (ap (λ x. same_text other.0 x) same ∙ nat_list_eq_equiv.refl other.0)
found-later name (first ∷ between) other rest same =
    elim (same_text first.0 name) as (λ v. is_some (cond v (Some first.1) (meaning_of name (between ++ other ∷ rest))) ≡ true) [
      | true ↦ refl
      | false ↦ found-later name between other rest same
    ]

twice-found : (before : List (List ℕ × List ℕ)) (written : List ℕ × List ℕ) (between : List (List ℕ × List ℕ)) (other : List ℕ × List ℕ) (rest : List (List ℕ × List ℕ)) →
    written.0 ≡ other.0 → are_distinct (before ++ written ∷ (between ++ other ∷ rest)) ≡ false
twice-found [] written between other rest same =
    ap (λ v. not v && are_distinct (between ++ other ∷ rest)) (found-later written.0 between other rest same)
twice-found (first ∷ before) written between other rest same =
    and_right (not (is_some (meaning_of first.0 (before ++ written ∷ (between ++ other ∷ rest))))) (are_distinct (before ++ written ∷ (between ++ other ∷ rest)))
    (twice-found before written between other rest same)

map-both : (before : List (List ℕ)) (word : List ℕ) (between : List (List ℕ)) (rest : List (List ℕ × List ℕ)) →
    map cut_option (before ++ word ∷ between) ++ rest ≡ map cut_option before ++ cut_option word ∷ (map cut_option between ++ rest)
map-both [] word between rest = refl
map-both (first ∷ before) word between rest = ap (λ more. cut_option first ∷ more) (map-both before word between rest)

pub repeated-refused : (before : List (List ℕ)) (word : List ℕ) (between : List (List ℕ)) (other : List ℕ) (after : List (List ℕ)) →
    list_all begins_with_dashes (before ++ word ∷ between) ≡ true → begins_with_dashes other ≡ true → before_first (is_byte 61) word ≡ before_first (is_byte 61) other →
    leading_of ((before ++ word ∷ between) ++ other ∷ after) ≡ Err Usage
repeated-refused before word between other after all begins same =
    let options = map cut_option before ++ cut_option word ∷ (map cut_option between ++ cut_option other ∷ options_in after) in
    refused-so ((before ++ word ∷ between) ++ other ∷ after) options
    (front-then (before ++ word ∷ between) other after all begins ∙ map-both before word between (cut_option other ∷ options_in after))
    (and_right (list_all is_option options) (are_distinct options)
    (twice-found (map cut_option before) (cut_option word) (map cut_option between) (cut_option other) (options_in after) same))
