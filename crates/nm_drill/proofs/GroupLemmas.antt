-- The first mail of a group answers none, and each other one answers it.
-- For the proof of `the_others_of_a_group_answer_its_first`.
use Rattle.std.proofs.Common.{◌≡◌, ℕ, ◌%◌, ◌≤◌, Bool, true, false, cond, List, Option, None, Some, ◌++◌, codes, refl, ap, arith}
use Rattle.std.specs.Prelude.{◌==◌}
use Rattle.std.proofs.lemmas.Bool.{eq-eqb, eqb-false, eqb-true}
use Rattle.std.specs.Fmt.{decimal}
use Rattle.nm_drill.specs.Drill.{answered, first_of, group_of, references_line, reply_mark}
use Rattle.nm_drill.specs.Laws.{AreOfOneGroup, Begins, IsNoReply, IsReply}

none_chosen : (test : Bool) (first : ℕ) → cond {A = Option ℕ} test None (Some first) ≡ None → test ≡ true
none_chosen true first none = refl
none_chosen false first none = absurd (cc)

some_chosen : (test : Bool) (first other : ℕ) → cond {A = Option ℕ} test None (Some first) ≡ Some other → (test ≡ false) × (first ≡ other)
some_chosen true first other some = absurd (cc)
some_chosen false first other some = (refl, cc)

-- a mail that answers none is the first
pub none_is_first : (k : ℕ) → answered k ≡ None → k ≡ first_of k
none_is_first k none = eqb-true k (first_of k) (none_chosen (k == first_of k) (first_of k) none)

pub first_is_least : (j k : ℕ) → answered k ≡ None → AreOfOneGroup j k → k ≤ j
first_is_least j k none group = omega (arith, none_is_first k none, group.group, group.from.0)

-- the first answers none
first_answers_none : (k : ℕ) → k ≡ first_of k → answered k ≡ None
first_answers_none k first = ap (λ test. cond test None (Some (first_of k))) (eq-eqb k (first_of k) first)

abbrev topic_of : ℕ → List ℕ
topic_of k = decimal (group_of k) ++ (codes " w" ++ (decimal (k % 10) ++ codes "\n"))

abbrev subject_by : Option ℕ → ℕ → List ℕ
subject_by answer k = codes "Subject: " ++ (reply_mark answer ++ (codes "topic " ++ topic_of k))

pub no_reply : (k : ℕ) → answered k ≡ None → IsNoReply k
no_reply k none = record { subject = (topic_of k, ap (λ answer. subject_by answer k) none); references = ap references_line none }

module _ (first k : ℕ) (from : 1 ≤ k) (some : answered k ≡ Some first) where
  parts : ((k == first_of k) ≡ false) × (first_of k ≡ first)
  parts = some_chosen (k == first_of k) (first_of k) first some

  other : k ≡ first_of k → ⊥
  other = eqb-false k (first_of k) parts.0

  pub begins : Begins first k
  begins =
      let is_first : first ≡ first_of first = omega (arith, parts.1, from) in
      record {
        group = record { from = (omega (arith, parts.1, from), from); group = omega (arith, parts.1, from) };
        before = omega (arith, parts.1, from, other);
        begins = first_answers_none first is_first;
      }

  pub replies : IsReply first k
  replies = record {
    subject = (topic_of k, ap (λ answer. subject_by answer k) some);
    references = ap references_line some;
  }
