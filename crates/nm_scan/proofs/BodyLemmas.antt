-- Bodies are read one after the other, until all are there, or the reading stops.
-- For the proofs of `left_after`, `read_body`, `read_bodies` and `bytes_left_go_down_in_turn`.
use Rattle.std.proofs.Common.{◌≡◌, ℕ, ◌+◌, ◌-◌, ◌<◌, List, [], ◌∷◌, ◌++◌, Option, Ok, length, take, drop, get_or, refl, sym, ap, ◌∙◌, subst, append-nil, append_assoc, arith}
use Rattle.std.proofs.lemmas.List.{drop_more, take-append-drop, take_more}
use Rattle.nm_maildir.specs.Observed.{KeepsMail, ObservedMail, after_read}
use Rattle.nm_maildir.specs.Tree.{Tree}
use Rattle.nm_maildir.specs.declared.answers.Got.{Got}
use Rattle.nm_maildir.specs.declared.given.Given.{Given}
use Rattle.nm_maildir.specs.declared.given.Given.TheVariants as givens
use Rattle.nm_maildir.specs.declared.given.ReadAnswer.{ReadAnswer}
use Rattle.nm_scan.proofs.ReadLemmas.{read_with-more, read_with-none, same_mail}
use Rattle.nm_scan.specs.Bodies.{AreBodies, HasReadBodies, HasReadBody, IsBody, StopsAtBody, StopsInBodies, body_len, bytes_given, given_len, left_after}
use Rattle.nm_scan.specs.FileReads.{after_reads}
use Rattle.nm_scan.specs.declared.bodies_error.BodiesError.{BodiesError}
use Rattle.nm_scan.specs.declared.bodies_error.BodiesError.TheVariants.{NoMemory}

-- ---- how many bytes

bytes-more : (given : List Given) (last : Given) → bytes_given (given ++ last ∷ []) ≡ bytes_given given + given_len last
bytes-more [] last = omega arith
bytes-more (first ∷ given) last = omega (arith, bytes-more given last)

-- of what was given one item more
pub left-more : (left rest : ℕ) (given : List Given) (i : ℕ) (last : Given) → i < length given → last ≡ get_or given i last → rest ≡ left_after left (take i given)
    → rest - given_len last ≡ left_after left (take (i + 1) given)
left-more left rest given i last h is before =
    let whole : bytes_given (take (i + 1) given) ≡ bytes_given (take i given) + given_len last =
    ap bytes_given (take_more given i last h) ∙ (ap (λ (item : Given). bytes_given (take i given ++ item ∷ [])) (sym is) ∙ bytes-more (take i given) last) in
    omega (arith, before, whole)

bytes-both : (before after : List Given) → bytes_given (before ++ after) ≡ bytes_given before + bytes_given after
bytes-both [] after = omega arith
bytes-both (first ∷ before) after = omega (arith, bytes-both before after)

pub left-both : (left : ℕ) (before after : List Given) → left_after left (before ++ after) ≡ left_after (left_after left before) after
left-both left before after = omega (arith, bytes-both before after)

-- ---- one file more

bodies-more : (tree : Option Tree) (left : ℕ) (given : List Given) (paths : List (List ℕ)) (path : List ℕ) (answer : ReadAnswer) → AreBodies tree left given paths
    → IsBody tree (left_after left given) path answer → AreBodies tree left (given ++ givens.Read path answer ∷ []) (paths ++ path ∷ [])
bodies-more tree left given [] path answer none body =
    let all : left_after left given ≡ left = omega (arith, ap bytes_given none) in
    (answer, [], ap (λ (l : List Given). l ++ givens.Read path answer ∷ []) none, subst (λ (n : ℕ). IsBody tree n path answer) all body, refl)
bodies-more tree left given (first ∷ paths) path answer (found, more, is, one, others) body = (
  found,
  more ++ givens.Read path answer ∷ [],
  ap (λ (l : List Given). l ++ givens.Read path answer ∷ []) is,
  one,
  bodies-more tree (left - body_len found) more paths path answer others
      (subst (λ (n : ℕ). IsBody tree n path answer) (omega (arith, ap bytes_given is)) body),
)

-- The reading goes on: these paths were read, and n bytes are left.
pub record InBodies (old now : ObservedMail) (left rest : ℕ) (old_given given : List Given) (read : List (List ℕ)) : Type 0 where
  pub all : HasReadBodies old now left old_given given read
  pub rest_is : rest ≡ left_after left all.given

pub begun_bodies : (mail : ObservedMail) (left : ℕ) (given : List Given) → InBodies mail mail left left given given []
begun_bodies mail left given = record {
  all = record { given = []; given_is = sym (append-nil given); bodies = refl; mail = same_mail mail (after_reads mail []) refl (read_with-none mail.reads) refl };
  rest_is = omega arith;
}

module _ (m0 m1 m2 : ObservedMail) (left rest : ℕ) (n0 n1 n2 : List Given) (read : List (List ℕ)) (path : List ℕ) (h : InBodies m0 m1 left rest n0 n1 read) where
  same_tree : m1.tree ≡ m0.tree
  same_tree = ap (λ (m : ObservedMail). m.tree) h.all.mail

  -- by one file
  pub more_bodies : (rest_after : ℕ) → HasReadBody m1 m2 rest rest_after n1 n2 path → InBodies m0 m2 left rest_after n0 n2 (read ++ path ∷ [])
  more_bodies rest_after one = record {
    all = record {
      given = h.all.given ++ givens.Read path one.answer ∷ [];
      given_is = one.given_is ∙ (ap (λ (l : List Given). l ++ givens.Read path one.answer ∷ []) h.all.given_is ∙ append_assoc n0 h.all.given (givens.Read path one.answer ∷ []));
      bodies = bodies-more m0.tree left h.all.given read path one.answer h.all.bodies
          (subst (λ (n : ℕ). IsBody m0.tree n path one.answer) h.rest_is (subst (λ (t : Option Tree). IsBody t rest path one.answer) same_tree one.body));
      mail = one.mail ∙ (ap (λ (m : ObservedMail). after_reads m (path ∷ [])) h.all.mail ∙ ap (λ (r : Option (List (List ℕ))). record { tree = m0.tree; reads = r; faults = m0.faults }) (read_with-more m0.reads read (path ∷ [])));
    };
    rest_is = omega (arith, one.rest_is, h.rest_is, bytes-more h.all.given (givens.Read path one.answer));
  }

  -- it stops
  pub stopped_bodies : (paths after : List (List ℕ)) (error : BodiesError) → paths ≡ read ++ path ∷ after → StopsAtBody m1 m2 rest n1 n2 path error → StopsInBodies m0 m2 left n0 n2 paths error
  stopped_bodies paths after error are stop = record {
    before = read;
    path = path;
    after = after;
    paths_are = are;
    mid = m1;
    mid_given = n1;
    first = h.all;
    stop = subst (λ (n : ℕ). StopsAtBody m1 m2 n n1 n2 path error) h.rest_is stop;
  }

-- the paths in turn: one more
pub more_in_turn : (m0 m1 m2 : ObservedMail) (left rest : ℕ) (n0 n1 n2 : List Given) (paths : List (List ℕ)) (i : ℕ) (path : List ℕ) → i < length paths → path ≡ get_or paths i path
    → InBodies m0 m1 left rest n0 n1 (take i paths) → (rest_after : ℕ) → HasReadBody m1 m2 rest rest_after n1 n2 path → InBodies m0 m2 left rest_after n0 n2 (take (i + 1) paths)
more_in_turn m0 m1 m2 left rest n0 n1 n2 paths i path h is before rest_after one =
    subst (λ (l : List (List ℕ)). InBodies m0 m2 left rest_after n0 n2 l) (sym (take_more paths i path h ∙ ap (λ (item : List ℕ). take i paths ++ item ∷ []) (sym is)))
    (more_bodies m0 m1 m2 left rest n0 n1 n2 (take i paths) path before rest_after one)

-- the last one
pub stopped_in_turn : (m0 m1 m2 : ObservedMail) (left rest : ℕ) (n0 n1 n2 : List Given) (paths : List (List ℕ)) (i : ℕ) (path : List ℕ) → i < length paths → path ≡ get_or paths i path
    → InBodies m0 m1 left rest n0 n1 (take i paths) → (error : BodiesError) → StopsAtBody m1 m2 rest n1 n2 path error → StopsInBodies m0 m2 left n0 n2 paths error
stopped_in_turn m0 m1 m2 left rest n0 n1 n2 paths i path h is before error stop =
    let are : paths ≡ take i paths ++ path ∷ drop (i + 1) paths =
    sym (take-append-drop i paths) ∙ (ap (λ (l : List (List ℕ)). take i paths ++ l) (drop_more paths i path h) ∙ ap (λ (item : List ℕ). take i paths ++ item ∷ drop (i + 1) paths) (sym is)) in
    stopped_bodies m0 m1 m2 left rest n0 n1 n2 (take i paths) path before paths (drop (i + 1) paths) error are stop

-- a file was read, and there was no memory to note it
pub stopped_at_note : (old new : ObservedMail) (left : ℕ) (old_given new_given : List Given) (path : List ℕ) (got : Got) → KeepsMail {T = Got} (after_read {T = Got} old path (Ok got)) new (Ok got) → new_given ≡ old_given
    → StopsAtBody old new left old_given new_given path NoMemory
stopped_at_note old new left old_given new_given path got keeps same = record {
  asked = 1;
  given = [];
  given_is = same ∙ sym (append-nil old_given);
  why = (omega arith, refl);
  read = keeps.reads;
  tree = keeps.tree;
}
