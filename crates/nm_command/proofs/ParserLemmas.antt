-- The walk of `clap` over words that have a name and a value each: its rows are the options, and it fails where a name is
-- unknown or occurs twice. For the proof of `parsed`.
use Rattle.std.proofs.Common.{◌≡◌, ℕ, suc, ◌+◌, ◌⊎◌, Bool, true, false, cond, not, ◌&&◌, ◌||◌, List, [], ◌∷◌, ◌++◌, length, map, take, drop, Option, None, Some, codes, refl, sym, ap, ap₂, subst, ◌∙◌, arith, inl, inr, append_assoc, append-nil}
use Rattle.std.specs.Prelude.{find, fold, is_some, nat_lt, option_and_then, slice_get}
use Rattle.std.specs.List.{after_first, list_all, list_any, position_or_len}
use Rattle.std.specs.Str.{bytes_eq}
use Rattle.std.proofs.lemmas.Bool.{false≢true, and_from, and_left, and_parts, and_right, cases_Bool, eqb-true, lt-ltb}
use Rattle.std.proofs.lemmas.List.{map-append}
use Rattle.std.proofs.lemmas.Slice.Eq.{bytes_eq-Decides}
use Rattle.clap.specs.Faults.{defaults_fault, entered_fault, check_fault, fault_of, flag_word_fault, long_fault, settle_fault, step_fault, turn_fault, walk_fault}
use Rattle.clap.specs.Kinds.{Kinds, or_else}
use Rattle.clap.specs.Lexer.{has_byte, long_of}
use Rattle.clap.specs.Simple.{Shape, built, entered, filled, matches_of}
use Rattle.clap.specs.Walk.{Held, Row, Rule, Text, Walk, after_flag, after_step, arg_by_long, at_row, finished, first_of, has_row, idle, long_met, long_or_other, more_values, reading_by, settled, trailing, used, walk_from, walked, with_default, with_values}
use Rattle.clap.specs.declared.error.kind.ErrorKind.{ErrorKind}
use Rattle.clap.specs.declared.error.kind.ErrorKind.TheVariants.{ArgumentConflict, UnknownArgument}
use Rattle.clap.specs.declared.parser.matches.ValueSource.TheVariants.{CommandLine}
use Rattle.nm_base.specs.Order.{same_text}
use Rattle.nm_text.specs.Cuts.{is_byte}
use Rattle.nm_command.specs.LeadingOptions.{cut_option, may_be}
use Rattle.nm_command.specs.LeadingParser.{has_value, is_known, parser, rule_named}
use Rattle.nm_command.specs.Options.{begins_with_dashes}
use Rattle.nm_command.specs.Table.{leading_options, meaning_of}
use Rattle.nm_command.specs.declared.table.LeadingForm.{LeadingForm}
use Rattle.nm_command.specs.declared.table.LeadingForm.TheVariants.{Folder, Moment, Workers}

abbrev pub Options : Type 0
Options = List (List ℕ × List ℕ)

-- ---- the arguments

-- an option as building leaves it
abbrev rule : Text → Rule
rule long = filled (rule_named (45 ∷ 45 ∷ long) long)

abbrev longs : List Text
longs = codes "mail" ∷ codes "index" ∷ codes "workers" ∷ codes "moment" ∷ []

abbrev shape : Shape
shape = (built parser).top

abbrev rules : List Rule
rules = map rule longs

meaning-any : {A : Type 0} (rows : List (List ℕ × A)) (name : List ℕ) → is_some (meaning_of name rows) ≡ list_any (λ row. same_text row.0 name) rows
meaning-any [] name = refl
meaning-any (row ∷ rows) name =
    elim (same_text row.0 name) as (λ v. is_some (cond v (Some row.1) (meaning_of name rows)) ≡ (v || list_any (λ row. same_text row.0 name) rows)) [
      | true ↦ refl
      | false ↦ meaning-any rows name
    ]

known-long : (long : Text) → is_some (meaning_of (45 ∷ 45 ∷ long) leading_options) ≡ list_any (λ l. bytes_eq l long) longs
known-long long = meaning-any leading_options (45 ∷ 45 ∷ long)

long-found : (names : List Text) (long : Text) → list_any (λ l. bytes_eq l long) names ≡ true → arg_by_long (map rule names) long ≡ Some (rule long)
long-found [] long h = absurd (cc)
long-found (name ∷ names) long h =
    elim (bytes_eq name long) as (λ v. bytes_eq name long ≡ v → (v || list_any (λ l. bytes_eq l long) names) ≡ true →
    cond (v || false) (Some (rule name)) (arg_by_long (map rule names) long) ≡ Some (rule long)) [
      | true ↦ λ e h. ap (λ l. Some (rule l)) ((bytes_eq-Decides name long).0 e)
      | false ↦ λ e h. long-found names long h
    ] refl h

long-missing : (names : List Text) (long : Text) → list_any (λ l. bytes_eq l long) names ≡ false → arg_by_long (map rule names) long ≡ None
long-missing [] long h = refl
long-missing (name ∷ names) long h =
    elim (bytes_eq name long) as (λ v. (v || list_any (λ l. bytes_eq l long) names) ≡ false →
    cond (v || false) (Some (rule name)) (arg_by_long (map rule names) long) ≡ None) [
      | true ↦ λ h. absurd (cc)
      | false ↦ λ h. long-missing names long h
    ] h

-- ---- the rows

abbrev row : List ℕ × List ℕ → Row
row option = record {
  id = option.0;
  values = option.1 ∷ [];
  count = None;
  source = Some CommandLine;
  reading = reading_by (rule []);
}

abbrev held : Options → Held
held options = record { rows = map row options; pending = None; skip = 0 }

rows-have : (name : List ℕ) (options : Options) → has_row name (map row options) ≡ is_some (meaning_of name options)
rows-have name [] = refl
rows-have name (option ∷ options) =
    elim (bytes_eq option.0 name) as (λ v. (v || has_row name (map row options)) ≡ is_some (cond v (Some option.1) (meaning_of name options))) [
      | true ↦ refl
      | false ↦ rows-have name options
    ]

pub rows-say : (name : List ℕ) (options : Options) → first_of name (map row options) ≡ meaning_of name options
rows-say name [] = refl
rows-say name (option ∷ options) =
    elim (bytes_eq option.0 name) as (λ v. option_and_then (λ (r : Row). slice_get r.values 0) (cond v (Some (row option)) (find (λ r. bytes_eq r.id name) (map row options))) ≡ cond v (Some option.1) (meaning_of name options)) [
      | true ↦ refl
      | false ↦ rows-say name options
    ]

-- a row of a new name comes last
at-end : (name : Text) (change : Row → List Row) (new rows : List Row) → has_row name rows ≡ false → at_row name change new rows ≡ rows ++ new
at-end name change new [] h = refl
at-end name change new (first ∷ rows) h =
    elim (bytes_eq first.id name) as (λ v. (v || has_row name rows) ≡ false → cond v (change first ++ rows) (first ∷ at_row name change new rows) ≡ first ∷ (rows ++ new)) [
      | true ↦ λ h. absurd (cc)
      | false ↦ λ h. ap (λ rest. first ∷ rest) (at-end name change new rows h)
    ] h

used-new : (long value : Text) (options : Options) → has_row (45 ∷ 45 ∷ long) (map row options) ≡ false →
    used (rule long) (value ∷ []) (map row options) ≡ map row (options ++ (45 ∷ 45 ∷ long, value) ∷ [])
used-new long value options h =
    let name = 45 ∷ 45 ∷ long in
    let rows = map row options in
    ap (with_values name (reading_by (rule [])) CommandLine (value ∷ [])) (at-end name (λ _. []) [] rows h ∙ append-nil rows)
    ∙ at-end name (more_values CommandLine (value ∷ [])) (row (name, value) ∷ []) rows h ∙ sym (map-append row options ((name, value) ∷ []))

-- ---- one word

record IsWritten (word : List ℕ) : Type 0 where
  long : Text
  name : (cut_option word).0 ≡ 45 ∷ 45 ∷ long
  cut : long_of word ≡ Some (long, Some (cut_option word).1)
  goes_on : bytes_eq word (45 ∷ 45 ∷ []) ≡ false

-- what the walk makes of a word, by the argument that it finds
module _ (options : Options) (word : List ℕ) (is : IsWritten word) where
  abbrev value : Text
  value = (cut_option word).1

  abbrev met-by : Option Rule → Walk
  met-by found = after_step rules word (walk_from (held options))
      (after_flag rules idle word (long_met rules found (Some value) (held options)).0 (long_met rules found (Some value) (held options)).1).0
      (after_flag rules idle word (long_met rules found (Some value) (held options)).0 (long_met rules found (Some value) (held options)).1).1

  walked-by : walked rules [] (walk_from (held options)) word ≡ met-by (arg_by_long rules is.long)
  unfolding walked
  walked-by = ap₂ (λ ends cut. after_step rules word (walk_from (held options))
      (cond ends (held options, trailing 1) (long_or_other rules idle word cut (held options))).0
      (cond ends (held options, trailing 1) (long_or_other rules idle word cut (held options))).1) is.goes_on is.cut

  abbrev fault-by : Option Rule → Kinds
  fault-by found = or_else (long_fault rules false found (Some value) (held options))
      (step_fault shape 1 (after_flag rules idle word (long_met rules found (Some value) (held options)).0 (long_met rules found (Some value) (held options)).1).0
      (after_flag rules idle word (long_met rules found (Some value) (held options)).0 (long_met rules found (Some value) (held options)).1).1)

  turn-by : turn_fault shape [] (walk_from (held options)) word ≡ fault-by (arg_by_long rules is.long)
  turn-by = ap₂ (λ ends cut. or_else (cond ends [] (flag_word_fault rules false cut word (held options)))
      (step_fault shape 1 (cond ends (held options, trailing 1) (long_or_other rules idle word cut (held options))).0
      (cond ends (held options, trailing 1) (long_or_other rules idle word cut (held options))).1)) is.goes_on is.cut

  any-long : (v : Bool) → is_known (cut_option word) ≡ v → list_any (λ l. bytes_eq l is.long) longs ≡ v
  any-long v known = sym (known-long is.long) ∙ ap (λ name. is_some (meaning_of name leading_options)) (sym is.name) ∙ known

  turn-unknown : is_known (cut_option word) ≡ false → turn_fault shape [] (walk_from (held options)) word ≡ UnknownArgument ∷ []
  turn-unknown unknown = turn-by ∙ ap fault-by (long-missing longs is.long (any-long false unknown))

  has-row : (v : Bool) → is_some (meaning_of (cut_option word).0 options) ≡ v → has_row (45 ∷ 45 ∷ is.long) (map row options) ≡ v
  has-row v there = ap (λ name. has_row name (map row options)) (sym is.name) ∙ rows-have (cut_option word).0 options ∙ there

  turn-known : (v : Bool) → is_known (cut_option word) ≡ true → is_some (meaning_of (cut_option word).0 options) ≡ v →
      turn_fault shape [] (walk_from (held options)) word ≡ cond v (ArgumentConflict ∷ []) []
  turn-known v known there =
      turn-by ∙ ap fault-by (long-found longs is.long (any-long true known))
      ∙ ap (λ b. or_else (or_else (cond (b && true) (ArgumentConflict ∷ []) []) []) []) (has-row v there) ∙ conflict v
    where
      conflict : (v : Bool) → or_else (or_else (cond (v && true) (ArgumentConflict ∷ []) []) []) [] ≡ cond v (ArgumentConflict ∷ []) []
      conflict true = refl
      conflict false = refl

  walked-known : is_known (cut_option word) ≡ true → is_some (meaning_of (cut_option word).0 options) ≡ false →
      walked rules [] (walk_from (held options)) word ≡ walk_from (held (options ++ cut_option word ∷ []))
  walked-known known new =
      walked-by ∙ ap met-by (long-found longs is.long (any-long true known))
      ∙ ap (λ rows. walk_from (record { rows = rows; pending = None; skip = 0 })) (used-new is.long (cut_option word).1 options (has-row false new))
      ∙ ap (λ name. walk_from (held (options ++ (name, (cut_option word).1) ∷ []))) (sym is.name)

-- ---- the words

dashed : (word : List ℕ) → begins_with_dashes word ≡ true → (rest : List ℕ) × (word ≡ 45 ∷ 45 ∷ rest)
dashed [] h = absurd (cc)
dashed (a ∷ []) h = absurd (false≢true (and_parts _ _ h).1)
dashed (a ∷ b ∷ rest) h =
    let first = and_parts _ _ h in
    let second = and_parts _ _ first.1 in
    (rest, sym (ap₂ (λ x y. x ∷ y ∷ rest) (eqb-true 45 a first.0) (eqb-true 45 b second.0)))

-- a value that isn't empty has a `=` before it
has-equals : (text : List ℕ) → nat_lt 0 (length (after_first (is_byte 61) text)) ≡ true → has_byte 61 text ≡ true
has-equals [] h = absurd (cc)
has-equals (x ∷ text) h =
    let n : ℕ = position_or_len (is_byte 61) text in
    let one-more : suc (n + 1) ≡ 1 + n + 1 = omega arith in
    elim (is_byte 61 x) as (λ v. nat_lt 0 (length (drop (cond (not v) (1 + position_or_len (is_byte 61) text) 0 + 1) (x ∷ text))) ≡ true → (v || has_byte 61 text) ≡ true) [
      | true ↦ λ h. refl
      | false ↦ λ h. has-equals text (ap (λ k. nat_lt 0 (length (drop k (x ∷ text)))) one-more ∙ h)
    ] h

may-some : (form : LeadingForm) (value : List ℕ) → may_be form value ≡ true → nat_lt 0 (length value) ≡ true
may-some form (x ∷ rest) h = lt-ltb 0 (length (x ∷ rest)) (omega arith)
may-some Folder [] h = h
may-some Workers [] h = absurd (cc)
may-some Moment [] h = absurd (cc)

valued : (option : List ℕ × List ℕ) → has_value option ≡ true → nat_lt 0 (length option.1) ≡ true
valued option h =
    elim (meaning_of option.0 leading_options) as (λ form. (elim form [ Some form ↦ may_be form option.1 | None ↦ nat_lt 0 (length option.1) ]) ≡ true → nat_lt 0 (length option.1) ≡ true) [
      | None ↦ λ h. h
      | Some form ↦ λ h. may-some form option.1 h
    ] h

written-rest : (rest : List ℕ) → nat_lt 0 (length (cut_option (45 ∷ 45 ∷ rest)).1) ≡ true → IsWritten (45 ∷ 45 ∷ rest)
written-rest [] h = absurd (cc)
written-rest (x ∷ rest) h =
    let word : List ℕ = 45 ∷ 45 ∷ x ∷ rest in
    let n : ℕ = position_or_len (is_byte 61) (x ∷ rest) in
    let front : 1 + (1 + n) ≡ suc (suc n) = omega arith in
    let back : suc (suc (n + 1)) ≡ 1 + (1 + n) + 1 = omega arith in
    let after : after_first (is_byte 61) (x ∷ rest) ≡ (cut_option word).1 = ap (λ k. drop k word) back in
    record {
      long = take n (x ∷ rest);
      name = ap (λ k. take k word) front;
      cut = ap (λ b. Some (take n (x ∷ rest), cond b (Some (after_first (is_byte 61) (x ∷ rest))) None)) (has-equals (x ∷ rest) (ap (λ text. nat_lt 0 (length text)) after ∙ h))
          ∙ ap (λ text. Some (take n (x ∷ rest), Some text)) after;
      goes_on = refl;
    }

written : (word : List ℕ) → begins_with_dashes word ≡ true → has_value (cut_option word) ≡ true → IsWritten word
written word dashes has =
    let is = dashed word dashes in
    subst IsWritten (sym is.1) (written-rest is.0 (ap (λ w. nat_lt 0 (length (cut_option w).1)) (sym is.1) ∙ valued (cut_option word) has))

-- each name is known and occurs once, also among those before
abbrev pub fresh : Options → Options → Bool
fresh before [] = true
fresh before (option ∷ more) = (is_known option && not (is_some (meaning_of option.0 before))) && fresh (before ++ option ∷ []) more

-- where the walk goes to after options, and whether it fails
abbrev after : Options → List (List ℕ) → Walk
after before words = fold (walked rules []) (walk_from (held before)) words

abbrev faults : Options → List (List ℕ) → Kinds
faults before words = walk_fault shape [] (walk_from (held before)) words

pub record Goes (before : Options) (words : List (List ℕ)) : Type 0 where
  pub is_fresh : fresh before (map cut_option words) ≡ true
  pub no_fault : faults before words ≡ []
  pub ends : after before words ≡ walk_from (held (before ++ map cut_option words))

pub record Stops (before : Options) (words : List (List ℕ)) : Type 0 where
  pub is_stale : fresh before (map cut_option words) ≡ false
  pub fault : faults before words ≡ [] → ⊥

some-kind : (kind : ErrorKind) (kinds : Kinds) → kind ∷ kinds ≡ [] → ⊥
some-kind kind kinds e = absurd (cc)

module _ (before : Options) (word : List ℕ) (words : List (List ℕ)) where
  abbrev so-far : Options
  so-far = before ++ cut_option word ∷ []

  fault-first : (kinds : Kinds) → turn_fault shape [] (walk_from (held before)) word ≡ kinds →
      faults before (word ∷ words) ≡ or_else kinds (walk_fault shape [] (walked rules [] (walk_from (held before)) word) words)
  unfolding walk_fault
  fault-first kinds e = ap (λ first. or_else first (walk_fault shape [] (walked rules [] (walk_from (held before)) word) words)) e

  stops-here : (kind : ErrorKind) → (is_known (cut_option word) && not (is_some (meaning_of (cut_option word).0 before))) ≡ false →
      turn_fault shape [] (walk_from (held before)) word ≡ kind ∷ [] → Stops before (word ∷ words)
  stops-here kind fails e = record {
    is_stale = and_left _ (fresh so-far (map cut_option words)) fails;
    fault = λ none. some-kind kind _ (sym (fault-first (kind ∷ []) e) ∙ none);
  }

  module _ (is : IsWritten word) (known : is_known (cut_option word) ≡ true) (new : is_some (meaning_of (cut_option word).0 before) ≡ false) where
    goes-on : faults before (word ∷ words) ≡ faults so-far words
    goes-on = fault-first [] (turn-known before word is false known new) ∙ ap (λ w. walk_fault shape [] w words) (walked-known before word is known new)

    later : Goes so-far words → Goes before (word ∷ words)
    later goes = record {
      is_fresh = and_from _ _ (and_from _ _ known (ap not new)) goes.is_fresh;
      no_fault = goes-on ∙ goes.no_fault;
      ends = ap (λ w. fold (walked rules []) w words) (walked-known before word is known new) ∙ goes.ends
          ∙ ap (λ options. walk_from (held options)) (append_assoc before (cut_option word ∷ []) (map cut_option words));
    }

    later-stops : Stops so-far words → Stops before (word ∷ words)
    later-stops stops = record {
      is_stale = and_right _ _ stops.is_stale;
      fault = λ none. stops.fault (sym goes-on ∙ none);
    }

pub walks : (before : Options) (words : List (List ℕ)) → list_all begins_with_dashes words ≡ true → list_all has_value (map cut_option words) ≡ true →
    Goes before words ⊎ Stops before words
unfolding walk_fault
walks before [] dashes values = inl (record { is_fresh = refl; no_fault = refl; ends = ap (λ options. walk_from (held options)) (sym (append-nil before)) })
walks before (word ∷ words) dashes values =
    let dashed = and_parts _ _ dashes in
    let valued = and_parts _ _ values in
    let is = written word dashed.0 valued.0 in
    elim (cases_Bool (is_known (cut_option word))) [
      | inr unknown ↦ inr (stops-here before word words UnknownArgument (and_left _ _ unknown) (turn-unknown before word is unknown))
      | inl known ↦ elim (cases_Bool (is_some (meaning_of (cut_option word).0 before))) [
        | inl twice ↦ inr (stops-here before word words ArgumentConflict (and_right _ _ (ap not twice)) (turn-known before word is true known twice))
        | inr new ↦ elim (walks (before ++ cut_option word ∷ []) words dashed.1 valued.1) [
          | inl goes ↦ inl (later before word words is known new goes)
          | inr stops ↦ inr (later-stops before word words is known new stops)
        ]
      ]
    ]

-- ---- after the words: no option has a default

defaults-pass : (rows : List Row) (names : List Text) → defaults_fault rows (map rule names) ≡ []
unfolding defaults_fault
defaults-pass rows [] = refl
defaults-pass rows (name ∷ names) =
    elim (has_row (45 ∷ 45 ∷ name) rows) as (λ v. or_else (cond (v || true) [] []) (defaults_fault (cond v rows rows) (map rule names)) ≡ []) [
      | true ↦ defaults-pass rows names
      | false ↦ defaults-pass rows names
    ]

defaults-keep : (rows : List Row) (names : List Text) → fold with_default rows (map rule names) ≡ rows
defaults-keep rows [] = refl
defaults-keep rows (name ∷ names) =
    elim (has_row (45 ∷ 45 ∷ name) rows) as (λ v. fold with_default (cond v rows rows) (map rule names) ≡ rows) [
      | true ↦ defaults-keep rows names
      | false ↦ defaults-keep rows names
    ]

abbrev level : Walk → Kinds → Kinds
level w kinds = or_else kinds (or_else (entered_fault (built parser) w.stopped) (or_else (settle_fault rules false w.held)
    (or_else (defaults_fault (settled rules w.held).rows rules) (check_fault shape (finished rules w.held) (is_some (entered (built parser) w.stopped))))))

pub goes-well : (words : List (List ℕ)) → Goes [] words → fault_of parser words ≡ []
goes-well words goes = ap₂ level goes.ends goes.no_fault ∙ ap (λ kinds. or_else kinds []) (defaults-pass (map row (map cut_option words)) longs)

first-none : (first then : Kinds) → or_else first then ≡ [] → first ≡ []
first-none [] then e = refl
first-none (kind ∷ kinds) then e = absurd (cc)

pub stops-so : (words : List (List ℕ)) → Stops [] words → fault_of parser words ≡ [] → ⊥
stops-so words stops none = stops.fault (first-none (faults [] words) _ none)

pub says : (words : List (List ℕ)) (name : List ℕ) → Goes [] words → first_of name (matches_of parser words) ≡ meaning_of name (map cut_option words)
says words name goes =
    ap (first_of name) (ap (λ w. finished rules w.held) goes.ends ∙ defaults-keep (map row (map cut_option words)) longs) ∙ rows-say name (map cut_option words)
