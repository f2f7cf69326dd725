-- Tag words are read as the grammar says, one after the other. For the proofs of `changes_of` and `op_of`.
use Rattle.std.proofs.Common.{◌≡◌, ◌≢◌, ◌<◌, ℕ, Bool, true, false, cond, ◌==◌, ◌||◌, ◌&&◌, not, List, [], ◌∷◌, ◌++◌, refl, sym, ap, subst, ◌∙◌, arith, append_assoc}
use Rattle.std.specs.Prelude.{Option, Some, None, Result, Ok, Err, codes}
use Rattle.std.specs.Cmp.Lexicographic.{other_text, same_text as text_is}
use Rattle.std.proofs.lemmas.Bool.Decides.{nat_tests}
use Rattle.std.proofs.lemmas.Str.{IsCharBoundary-after_ascii}
use Rattle.std.proofs.lemmas.Bool.{and_parts, eqb-true, not-true}
use Rattle.std.proofs.lemmas.Option.{same_Some}
use Rattle.std.specs.Str.{IsUtf8, IsCharBoundary}
use Rattle.nm_base.specs.Bounds.{fits_length}
use Rattle.nm_base.specs.Order.{same_text}
use Rattle.nm_base.specs.Tag.{is_tag}
use Rattle.nm_base.specs.declared.refusals.UsageKind.{UsageKind}
use Rattle.nm_base.specs.declared.refusals.UsageKind.TheVariants as kinds
use Rattle.nm_base.specs.declared.tag_op.TagOp.{TagOp}
use Rattle.nm_command.specs.Grammar.{HasChanges, HasTagFault, IsChange, a_change_too_many, a_query_too_many, after_change, nothing_left, one_change, query_after_dashes, query_at_once, sets_tag, takes_off, without_tag}
use Rattle.nm_command.specs.Requests.{batch_fault, batch_tag, refused, single_tag, tag_ask, without_words}
use Rattle.nm_command.specs.TagWords.{changes_of, has_sign, is_tag_word, op_of, query_words, with_op}
use Rattle.nm_command.specs.declared.command_error.CommandError.{CommandError}
use Rattle.nm_command.specs.declared.command_error.CommandError.TheVariants.{Usage}
use Rattle.nm_command.specs.declared.request.Request.{Request}
use Rattle.nm_command.specs.declared.request.Request.TheVariants as requests
use Rattle.nm_command.specs.declared.settings.Settings.{Settings}

-- changes before what else is asked
abbrev pub with_ops : List TagOp → Result (List TagOp × List (List ℕ)) (List ℕ) → Result (List TagOp × List (List ℕ)) (List ℕ)
with_ops ops (Ok asked) = Ok (ops ++ asked.0, asked.1)
with_ops ops (Err word) = Err word

-- a change after others
pub with_one_more : (word : List ℕ) (ops : List TagOp) (op : TagOp) (asked : Result (List TagOp × List (List ℕ)) (List ℕ)) →
    with_ops (ops ++ op ∷ []) asked ≡ with_ops ops (with_op word (Some op) asked)
with_one_more word ops op (Ok asked) = ap (λ l. Ok (l, asked.1)) (append_assoc ops (op ∷ []) asked.0)
with_one_more word ops op (Err other) = refl

sign_below : (sign : ℕ) → (sign == 43 || sign == 45) ≡ true → sign < 128
sign_below sign h = grind (arith, nat_tests)

-- a tag word may be cut after its sign
pub cut_after_sign : (word : List ℕ) → IsUtf8 word → is_tag_word word ≡ true → IsCharBoundary word 1
cut_after_sign [] u h = absurd (cc)
cut_after_sign (sign ∷ tag) u h = IsCharBoundary-after_ascii (sign ∷ tag) 0 u (omega arith) (sign_below sign (and_parts _ _ h).0)

-- a tag after `-` makes no `--`
tag-differs : (tag : List ℕ) → is_tag tag ≡ true → same_text (45 ∷ tag) (codes "--") ≡ false
tag-differs [] h = absurd (cc)
tag-differs (b ∷ more) h = ap (λ v. v && same_text more []) (not-true (b == 45) (and_parts (fits_length 200 (b ∷ more)) (not (b == 45)) h).1)

-- a change is a tag word, and asks for what it says
change-word : (word : List ℕ) (op : TagOp) → IsChange word op → is_tag_word word ≡ true
change-word word op (sets_tag tag h) = refl
change-word word op (takes_off tag h) = ap not (tag-differs tag h)

change-op : (word : List ℕ) (op : TagOp) → IsChange word op → op_of word ≡ Some op
change-op word op (sets_tag tag h) = ap (λ v. cond v (Some (record { add = true; tag = tag })) None) h
change-op word op (takes_off tag h) = ap (λ v. cond v (Some (record { add = false; tag = tag })) None) h

signed : (sign : ℕ) (tag : List ℕ) → (sign == 43 || sign == 45) ≡ true → is_tag tag ≡ true → IsChange (sign ∷ tag) (record { add = sign == 43; tag = tag })
signed sign tag h good =
    elim (sign == 43) as (λ v. (sign == 43) ≡ v → (v || sign == 45) ≡ true → IsChange (sign ∷ tag) (record { add = v; tag = tag })) [
      | true ↦ λ plus h. subst (λ sign. IsChange (sign ∷ tag) (record { add = true; tag = tag })) (sym (eqb-true sign 43 plus)) (sets_tag tag good)
      | false ↦ λ other h. subst (λ sign. IsChange (sign ∷ tag) (record { add = false; tag = tag })) (sym (eqb-true sign 45 h)) (takes_off tag good)
    ] refl h

-- and a word with a sign that asks for something is a change
pub read-change : (word : List ℕ) (op : TagOp) → has_sign word ≡ true → op_of word ≡ Some op → IsChange word op
read-change [] op h is = absurd (cc)
read-change (sign ∷ tag) op h is =
    elim (is_tag tag) as (λ v. is_tag tag ≡ v → cond v (Some (record { add = sign == 43; tag = tag })) None ≡ Some op → IsChange (sign ∷ tag) op) [
      | true ↦ λ good is. subst (IsChange (sign ∷ tag)) (same_Some (record { add = sign == 43; tag = tag }) op is) (signed sign tag h good)
      | false ↦ λ bad is. absurd (cc)
    ] refl is

-- a tag word that asks for nothing is at fault
pub untagged : (batch : Bool) (word : List ℕ) (words : List (List ℕ)) → is_tag_word word ≡ true → op_of word ≡ None → HasTagFault batch (word ∷ words) word kinds.Tag
untagged batch word words is none =
    without_tag batch word words (and_parts _ _ is).0 (other_text word (codes "--") (sym (not-true _ (and_parts _ _ is).1))) (λ op change. clash op (sym (change-op word op change) ∙ none))
  where
    clash : (op : TagOp) → Some op ≡ None → ⊥
    clash op h = absurd (cc)

unsigned-word : (word : List ℕ) → has_sign word ≡ false → is_tag_word word ≡ false
unsigned-word word h = ap (λ v. v && not (same_text word (codes "--"))) h

unsigned-differs : (word : List ℕ) → has_sign word ≡ false → same_text word (codes "--") ≡ false
unsigned-differs word h =
    elim (same_text word (codes "--")) as (λ v. same_text word (codes "--") ≡ v → v ≡ false) [
      | true ↦ λ same. sym (ap has_sign (text_is word (codes "--") (sym same))) ∙ h
      | false ↦ λ other. refl
    ] refl

no_tag_word : (word : List ℕ) → is_tag_word word ≡ false → same_text word (codes "--") ≡ false → has_sign word ≡ false
no_tag_word word h differs =
    elim (has_sign word) as (λ v. has_sign word ≡ v → v ≡ false) [
      | true ↦ λ sign. sym (ap (λ v. v && not (same_text word (codes "--"))) sign ∙ ap not differs) ∙ h
      | false ↦ λ other. refl
    ] refl

-- a word that is no tag word begins a query, or is dropped before one
pub query-asked : (word : List ℕ) (words : List (List ℕ)) → is_tag_word word ≡ false → HasChanges (word ∷ words) [] (query_words (word ∷ words))
query-asked word words h =
    elim (same_text word (codes "--")) as (λ v. same_text word (codes "--") ≡ v → HasChanges (word ∷ words) [] (cond v words (word ∷ words))) [
      | true ↦ λ same. subst (λ word. HasChanges (word ∷ words) [] words) (sym (text_is word (codes "--") (sym same))) (query_after_dashes words)
      | false ↦ λ differs. query_at_once word words (no_tag_word word h differs)
    ] refl

-- what is asked, by the grammar
abbrev pub IsAsked : List (List ℕ) → Result (List TagOp × List (List ℕ)) (List ℕ) → Type 0
IsAsked words (Ok asked) = HasChanges words asked.0 asked.1
IsAsked words (Err word) = HasTagFault false words word kinds.Tag

tag-asked : (word : List ℕ) (words : List (List ℕ)) → is_tag_word word ≡ true → (op : Option TagOp) → op_of word ≡ op → (asked : Result (List TagOp × List (List ℕ)) (List ℕ)) →
    IsAsked words asked → IsAsked (word ∷ words) (with_op word op asked)
tag-asked word words is (Some op) says (Ok asked) are = one_change word op words asked.1 asked.0 (read-change word op (and_parts _ _ is).0 says) are
tag-asked word words is (Some op) says (Err other) are = after_change word other op words kinds.Tag (read-change word op (and_parts _ _ is).0 says) are
tag-asked word words is None says asked are = untagged false word words is says

pub asked-is : (words : List (List ℕ)) → IsAsked words (changes_of words)
asked-is [] = nothing_left
asked-is (word ∷ words) =
    elim (is_tag_word word) as (λ v. is_tag_word word ≡ v → IsAsked (word ∷ words) (cond v (with_op word (op_of word) (changes_of words)) (Ok ([], query_words (word ∷ words))))) [
      | true ↦ λ is. tag-asked word words is (op_of word) refl (changes_of words) (asked-is words)
      | false ↦ λ other. query-asked word words other
    ] refl

-- a change is asked before the others
change-on : (word : List ℕ) (op : TagOp) (words : List (List ℕ)) → IsChange word op → changes_of (word ∷ words) ≡ with_op word (Some op) (changes_of words)
change-on word op words is =
    ap (λ v. cond v (with_op word (op_of word) (changes_of words)) (Ok ([], query_words (word ∷ words)))) (change-word word op is)
    ∙ ap (λ op. with_op word op (changes_of words)) (change-op word op is)

pub has-asked : (words : List (List ℕ)) (ops : List TagOp) (query : List (List ℕ)) → HasChanges words ops query → changes_of words ≡ Ok (ops, query)
has-asked words ops query nothing_left = refl
has-asked words ops query (query_after_dashes _) = refl
has-asked words ops query (query_at_once word more unsigned) =
    ap (λ v. cond v (with_op word (op_of word) (changes_of more)) (Ok ([], query_words (word ∷ more)))) (unsigned-word word unsigned)
    ∙ ap (λ v. Ok ([], cond v more (word ∷ more))) (unsigned-differs word unsigned)
has-asked words ops query (one_change word op more _ others is has) = change-on word op more is ∙ ap (with_op word (Some op)) (has-asked more others query has)

-- what a word asks for that has a sign and is no change
nothing-asked : (word : List ℕ) → has_sign word ≡ true → ((op : TagOp) → ¬ IsChange word op) → op_of word ≡ None
nothing-asked word sign nothing =
    elim (op_of word) as (λ op. op_of word ≡ op → op ≡ None) [
      | Some op ↦ λ says. absurd (nothing op (read-change word op sign says))
      | None ↦ λ says. refl
    ] refl

fault-word : (word : List ℕ) → has_sign word ≡ true → word ≢ codes "--" → is_tag_word word ≡ true
fault-word word sign differs =
    ap (λ v. v && not (same_text word (codes "--"))) sign
    ∙ (elim (same_text word (codes "--")) as (λ v. same_text word (codes "--") ≡ v → not v ≡ true) [
      | true ↦ λ same. absurd (differs (text_is word (codes "--") (sym same)))
      | false ↦ λ other. refl
    ] refl)

fault-asked : (batch : Bool) (words : List (List ℕ)) (word : List ℕ) (kind : UsageKind) → HasTagFault batch words word kind → batch ≡ false → changes_of words ≡ Err word
fault-asked batch words word kind (without_tag _ _ more sign differs nothing) single =
    ap (λ v. cond v (with_op word (op_of word) (changes_of more)) (Ok ([], query_words (word ∷ more)))) (fault-word word sign differs)
    ∙ ap (λ op. with_op word op (changes_of more)) (nothing-asked word sign nothing)
fault-asked batch words word kind (after_change first _ op more _ is fault) single = change-on first op more is ∙ ap (with_op first (Some op)) (fault-asked false more word kind fault refl)
fault-asked batch words word kind (a_change_too_many _ op more is) single = absurd (cc)
fault-asked batch words word kind (a_query_too_many _ _ query has) single = absurd (cc)

fault-kind : (batch : Bool) (words : List (List ℕ)) (word : List ℕ) (kind : UsageKind) → HasTagFault batch words word kind → batch ≡ false → kind ≡ kinds.Tag
fault-kind batch words word kind (without_tag _ _ more sign differs nothing) single = refl
fault-kind batch words word kind (after_change first _ op more _ is fault) single = fault-kind false more word kind fault refl
fault-kind batch words word kind (a_change_too_many _ op more is) single = absurd (cc)
fault-kind batch words word kind (a_query_too_many _ _ query has) single = absurd (cc)

-- after `--batch` the words of a query are too many
abbrev ops_in : Result (List TagOp × List (List ℕ)) (List ℕ) → List TagOp
ops_in (Ok asked) = asked.0
ops_in (Err word) = []

abbrev query_in : Result (List TagOp × List (List ℕ)) (List ℕ) → List (List ℕ)
query_in (Ok asked) = asked.1
query_in (Err word) = []

same_query : (first second : List (List ℕ)) → (let r : Result (List TagOp × List (List ℕ)) (List ℕ) = Ok ([], first) in r ≡ Ok ([], second)) → first ≡ second
same_query first second h = ap query_in h

some-change : (word : List ℕ) (op : Option TagOp) (asked : Result (List TagOp × List (List ℕ)) (List ℕ)) (query : List (List ℕ)) → with_op word op asked ≡ Ok ([], query) → ⊥
some-change word (Some op) (Ok asked) query h = absurd (change op asked.0 (ap ops_in h))
  where
    change : (op : TagOp) (ops : List TagOp) → op ∷ ops ≡ [] → ⊥
    change op ops h = absurd (cc)
some-change word (Some op) (Err other) query h = absurd (cc)
some-change word None asked query h = absurd (cc)

abbrev batched : Settings → List (List ℕ) → Result Request CommandError
batched settings query = without_words kinds.Clash (requests.Tag (tag_ask settings [] [])) query

pub batch-by : (settings : Settings) (words query : List (List ℕ)) → changes_of words ≡ Ok ([], query) → batch_tag settings words ≡ batched settings query
batch-by settings [] query h = ap (batched settings) (same_query [] query h)
batch-by settings (word ∷ words) query h =
    elim (is_tag_word word) as (λ v. is_tag_word word ≡ v → cond v (with_op word (op_of word) (changes_of words)) (Ok ([], query_words (word ∷ words))) ≡ Ok ([], query) →
    cond v (refused word (batch_fault (op_of word))) (batched settings (query_words (word ∷ words))) ≡ batched settings query) [
      | true ↦ λ is h. absurd (some-change word (op_of word) (changes_of words) query h)
      | false ↦ λ other h. ap (batched settings) (same_query (query_words (word ∷ words)) query h)
    ] refl h

abbrev batch_first : Settings → List ℕ → List (List ℕ) → Bool → Result Request CommandError
batch_first settings word more is = cond is (refused word (batch_fault (op_of word))) (batched settings (query_words (word ∷ more)))

batch-refused : (settings : Settings) (batch : Bool) (words : List (List ℕ)) (word : List ℕ) (kind : UsageKind) → HasTagFault batch words word kind → batch ≡ true →
    batch_tag settings words ≡ Err (Usage word kind)
batch-refused settings batch words word kind (without_tag _ _ more sign differs nothing) h =
    ap (batch_first settings word more) (fault-word word sign differs) ∙ ap (λ op. refused word (batch_fault op)) (nothing-asked word sign nothing)
batch-refused settings batch words word kind (after_change first _ op more _ is fault) h = absurd (cc)
batch-refused settings batch words word kind (a_change_too_many _ op more is) h =
    ap (batch_first settings word more) (change-word word op is) ∙ ap (λ op. refused word (batch_fault op)) (change-op word op is)
batch-refused settings batch words word kind (a_query_too_many _ _ query has) h = batch-by settings words (word ∷ query) (has-asked words [] (word ∷ query) has)

-- the word is reported that the grammar says
pub tag-refused : (settings : Settings) (batch : Bool) (words : List (List ℕ)) (word : List ℕ) (kind : UsageKind) → HasTagFault batch words word kind →
    cond batch (batch_tag settings words) (single_tag settings (changes_of words)) ≡ Err (Usage word kind)
tag-refused settings true words word kind fault = batch-refused settings true words word kind fault refl
tag-refused settings false words word kind fault =
    ap (single_tag settings) (fault-asked false words word kind fault refl) ∙ ap (refused word) (sym (fault-kind false words word kind fault refl))
