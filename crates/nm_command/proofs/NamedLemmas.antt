-- Options of known names, each once: as `clap` finds it, one word after the other, and as the definition says it.
-- For the proofs of `head` and `parsed`.
use Rattle.std.proofs.Common.{◌≡◌, ◌⊎◌, ℕ, Bool, true, false, cond, not, ◌&&◌, ◌||◌, List, [], ◌∷◌, ◌++◌, Option, None, Some, length, map, inl, inr, subst, refl, sym, ap, ap₂, ◌∙◌}
use Rattle.std.specs.Prelude.{ℤ, Err, Ok, codes, is_some, nat_lt}
use Rattle.std.specs.List.{list_all, take_while}
use Rattle.std.specs.Option.{option_and_then}
use Rattle.std.specs.Cmp.Lexicographic.{nat_list_eq_equiv}
use Rattle.std.proofs.lemmas.Bool.{and_from, and_left, and_parts, and_right, cases_Bool}
use Rattle.std.proofs.lemmas.List.{length-map}
use Rattle.std.proofs.lemmas.List.Sums.{take_while-cons}
use Rattle.clap.specs.Faults.{fault_of}
use Rattle.clap.specs.Kinds.{IsAmong}
use Rattle.clap.specs.declared.error.kind.ErrorKind.{ErrorKind}
use Rattle.clap.specs.declared.error.kind.ErrorKind.TheVariants.{OutOfMemory}
use Rattle.nm_base.specs.Order.{same_text}
use Rattle.nm_command.specs.LeadingOptions.{are_distinct, are_options, cut_option, is_option, leading_of, may_be, told_by}
use Rattle.nm_command.specs.LeadingParser.{are_named, has_value, is_known, parser}
use Rattle.nm_command.specs.Numbers.{moment_in, workers_in}
use Rattle.nm_command.specs.Options.{begins_with_dashes}
use Rattle.nm_command.specs.Settings.{or_default}
use Rattle.nm_command.specs.Table.{leading_options, meaning_of}
use Rattle.nm_command.specs.declared.leading_options.Leading.{Leading}
use Rattle.nm_command.specs.declared.leading_options.HeadError.{HeadError}
use Rattle.nm_command.specs.declared.leading_options.HeadError.TheVariants.{NoMemory, Usage}
use Rattle.nm_command.specs.declared.table.LeadingForm.{LeadingForm}
use Rattle.nm_command.proofs.ParserLemmas.{Goes, Options, fresh, goes-well, stops-so, walks}

-- none of the names comes before
abbrev apart : Options → Options → Bool
apart before more = list_all (λ option. not (is_some (meaning_of option.0 before))) more

apart-none : (more : Options) → apart [] more ≡ true
apart-none [] = refl
apart-none (option ∷ more) = apart-none more

found-more : (name : List ℕ) (before : Options) (option : List ℕ × List ℕ) → is_some (meaning_of name (before ++ option ∷ [])) ≡ (is_some (meaning_of name before) || same_text option.0 name)
found-more name [] option = elim (same_text option.0 name) as (λ v. is_some (cond v (Some option.1) None) ≡ v) [ true ↦ refl | false ↦ refl ]
found-more name (first ∷ before) option =
    elim (same_text first.0 name) as (λ v. is_some (cond v (Some first.1) (meaning_of name (before ++ option ∷ []))) ≡ (is_some (cond v (Some first.1) (meaning_of name before)) || same_text option.0 name)) [
      | true ↦ refl
      | false ↦ found-more name before option
    ]

swap : (found same rest there : Bool) → (not (found || same) && (rest && not there)) ≡ ((not found && rest) && not (same || there))
swap true same rest there = refl
swap false true true there = refl
swap false true false there = refl
swap false false true there = refl
swap false false false there = refl

apart-more : (before : Options) (option : List ℕ × List ℕ) (more : Options) → apart (before ++ option ∷ []) more ≡ (apart before more && not (is_some (meaning_of option.0 more)))
apart-more before option [] = refl
apart-more before option (next ∷ more) =
    let there = is_some (meaning_of option.0 more) in
    ap₂ (λ found rest. not found && rest) (found-more next.0 before option) (apart-more before option more)
    ∙ swap (is_some (meaning_of next.0 before)) (same_text option.0 next.0) (apart before more) there
    ∙ ap (λ found. (not (is_some (meaning_of next.0 before)) && apart before more) && not found)
    (ap (λ same. same || there) (nat_list_eq_equiv.symm option.0 next.0) ∙ either (same_text next.0 option.0) next.1 (meaning_of option.0 more))
  where
    either : (same : Bool) (value : List ℕ) (rest : Option (List ℕ)) → (same || is_some rest) ≡ is_some (cond same (Some value) rest)
    either true value rest = refl
    either false value rest = refl

turn : (known new all distinct far later : Bool) → ((known && new) && ((all && distinct) && (far && not later))) ≡ (((known && all) && (not later && distinct)) && (new && far))
turn false new all distinct far later = refl
turn true false true distinct far true = refl
turn true false true true far false = refl
turn true false true false far false = refl
turn true false false distinct far later = refl
turn true true false distinct far later = refl
turn true true true false far true = refl
turn true true true false far false = refl
turn true true true true true true = refl
turn true true true true true false = refl
turn true true true true false true = refl
turn true true true true false false = refl

fresh-so : (before more : Options) → fresh before more ≡ (are_named more && apart before more)
fresh-so before [] = refl
fresh-so before (option ∷ more) =
    ap (λ rest. (is_known option && not (is_some (meaning_of option.0 before))) && rest)
    (fresh-so (before ++ option ∷ []) more ∙ ap (λ far. are_named more && far) (apart-more before option more))
    ∙ turn (is_known option) (not (is_some (meaning_of option.0 before))) (list_all is_known more) (are_distinct more) (apart before more) (is_some (meaning_of option.0 more))

and-true : (b : Bool) → (b && true) ≡ b
and-true true = refl
and-true false = refl

pub fresh-named : (options : Options) → fresh [] options ≡ are_named options
fresh-named options = fresh-so [] options ∙ ap (λ far. are_named options && far) (apart-none options) ∙ and-true (are_named options)

-- ---- an option is of a known name, and has a value

option-is : (option : List ℕ × List ℕ) → is_option option ≡ (is_known option && has_value option)
option-is option = by (meaning_of option.0 leading_options)
  where
    by : (form : Option LeadingForm) → (elim form [ Some form ↦ may_be form option.1 | None ↦ false ])
        ≡ (is_some form && (elim form [ Some form ↦ may_be form option.1 | None ↦ nat_lt 0 (length option.1) ]))
    by None = refl
    by (Some form) = refl

pub options-known : (options : Options) → list_all has_value options ≡ true → list_all is_option options ≡ list_all is_known options
options-known [] h = refl
options-known (option ∷ options) h =
    let parts = and_parts _ _ h in
    ap₂ (λ first rest. first && rest) (option-is option ∙ ap (λ b. is_known option && b) parts.0 ∙ and-true (is_known option)) (options-known options parts.1)

pub named-options : (options : Options) → list_all has_value options ≡ true → are_options options ≡ are_named options
named-options options h = ap (λ all. all && are_distinct options) (options-known options h)

-- without a value it is none
pub valueless : (options : Options) → list_all has_value options ≡ false → are_options options ≡ false
valueless options h = and_left (list_all is_option options) (are_distinct options) (none options h)
  where
    none : (options : Options) → list_all has_value options ≡ false → list_all is_option options ≡ false
    none [] h = absurd (cc)
    none (option ∷ options) h = elim (cases_Bool (has_value option)) [
      | inr here ↦ and_left (is_option option) (list_all is_option options) (option-is option ∙ ap (λ b. is_known option && b) here ∙ and_right (is_known option) false refl)
      | inl has ↦ and_right (is_option option) (list_all is_option options) (none options (ap (λ b. b && list_all has_value options) (sym has) ∙ h))
    ]

-- ---- what a parse says

pub taken : (words : List (List ℕ)) → list_all begins_with_dashes words ≡ true → list_all has_value (map cut_option words) ≡ true → fault_of parser words ≡ [] →
    (are_named (map cut_option words) ≡ true) × Goes [] words
taken words dashes values none = elim (walks [] words dashes values) [
  | inl goes ↦ (sym (fresh-named (map cut_option words)) ∙ goes.is_fresh, goes)
  | inr stops ↦ absurd (stops-so words stops none)
]

pub refused : (words : List (List ℕ)) → list_all begins_with_dashes words ≡ true → list_all has_value (map cut_option words) ≡ true →
    (kind : ErrorKind) (error : HeadError) → (kind ≡ OutOfMemory → error ≡ NoMemory) → (kind ≡ OutOfMemory) ⊎ IsAmong kind (fault_of parser words) →
    (error ≡ NoMemory) ⊎ ((error ≡ Usage) × (are_named (map cut_option words) ≡ false))
refused words dashes values kind error memory (inl out) = inl (memory out)
refused words dashes values kind error memory (inr among) = elim (walks [] words dashes values) [
  | inl goes ↦ absurd (subst (IsAmong kind) (goes-well words goes) among)
  | inr stops ↦ either error (sym (fresh-named (map cut_option words)) ∙ stops.is_stale)
]
  where
    either : (error : HeadError) → are_named (map cut_option words) ≡ false → (error ≡ NoMemory) ⊎ ((error ≡ Usage) × (are_named (map cut_option words) ≡ false))
    either NoMemory stale = inl refl
    either Usage stale = inr (refl, stale)

-- ---- what the words say before the command

-- what comes before the command begins with dashes
pub front-dashed : (words : List (List ℕ)) → list_all begins_with_dashes (take_while begins_with_dashes words) ≡ true
front-dashed [] = refl
front-dashed (word ∷ words) =
    ap (list_all begins_with_dashes) (take_while-cons begins_with_dashes word words)
    ∙ elim (begins_with_dashes word) as (λ v. begins_with_dashes word ≡ v → list_all begins_with_dashes (cond v (word ∷ take_while begins_with_dashes words) []) ≡ true) [
      | true ↦ λ is. and_from _ _ is (front-dashed words)
      | false ↦ λ is. refl
    ] refl

module _ (words front : List (List ℕ)) (is : front ≡ take_while begins_with_dashes words) where
  abbrev options : Options
  options = map cut_option front

  answered : (good : Bool) → are_options options ≡ good → leading_of words ≡ cond good (Ok (told_by options)) (Err Usage)
  answered good h =
      ap (λ fronts. cond (are_options (map cut_option fronts)) (Ok (told_by (map cut_option fronts))) (Err Usage)) (sym is)
      ∙ ap (λ good. cond good (Ok (told_by options)) (Err Usage)) h

  pub head-valueless : list_all has_value options ≡ false → leading_of words ≡ Err Usage
  head-valueless h = answered false (valueless options h)

  pub head-refused : list_all has_value options ≡ true → (error : HeadError) → (error ≡ NoMemory) ⊎ ((error ≡ Usage) × (are_named options ≡ false)) →
      (error ≡ NoMemory) ⊎ (leading_of words ≡ Err error)
  head-refused has error (inl memory) = inl memory
  head-refused has error (inr usage) = inr (answered false (named-options options has ∙ usage.1) ∙ ap Err (sym usage.0))

  pub head-told : list_all has_value options ≡ true → are_named options ≡ true → (given : List ℕ → Option (List ℕ)) → ((name : List ℕ) → given name ≡ meaning_of name options) →
      (leading : Leading) → leading.mail ≡ or_default (given (codes "--mail")) (codes "mail") → leading.index ≡ or_default (given (codes "--index")) (codes "index") →
      leading.workers ≡ or_default (option_and_then workers_in (given (codes "--workers"))) 4 → leading.moment ≡ option_and_then moment_in (given (codes "--moment")) →
      leading.rest ≡ length front → leading_of words ≡ Ok leading
  head-told has named given same leading mail index workers moment rest =
      answered true (named-options options has ∙ named) ∙ ap Ok (sym (
      ap (λ (x : List ℕ). record leading { mail = x }) (mail ∙ ap (λ o. or_default o (codes "mail")) (same (codes "--mail")))
      ∙ ap (λ (x : List ℕ). record leading { mail = (told_by options).mail; index = x }) (index ∙ ap (λ o. or_default o (codes "index")) (same (codes "--index")))
      ∙ ap (λ (x : ℕ). record leading { mail = (told_by options).mail; index = (told_by options).index; workers = x }) (workers ∙ ap (λ o. or_default (option_and_then workers_in o) 4) (same (codes "--workers")))
      ∙ ap (λ (x : Option ℤ). record (told_by options) { moment = x; rest = leading.rest }) (moment ∙ ap (option_and_then moment_in) (same (codes "--moment")))
      ∙ ap (λ (x : ℕ). record (told_by options) { rest = x }) (rest ∙ sym (length-map front cut_option))))
