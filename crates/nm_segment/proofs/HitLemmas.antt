-- The hits of a word in a field are the places at which it is. For the law `hits_are_where_the_word_stands`.
use Rattle.std.proofs.Common.{◌≡◌, ℕ, zero, suc, ◌⊎◌, inl, inr, ◌+◌, ◌<◌, Bool, true, false, cond, nat_eq, Some, List, [], ◌∷◌, ◌++◌, filter, length, map, get_or, slice_get, refl, sym, ap, subst, ◌∙◌, arith}
use Rattle.std.specs.Cmp.Lexicographic.{nat_list_eq_equiv}
use Rattle.std.specs.List.{AllByRecursion, Contains}
use Rattle.std.specs.List.Sorted.{IsStrictlySortedBy}
use Rattle.std.specs.Ordering.{nat_cmp}
use Rattle.std.specs.declared.cmp.Ordering.TheVariants.{Less}
use Rattle.std.proofs.lemmas.Bool.{and_parts, eq-eqb, eqb-true, ne_eqb}
use Rattle.std.proofs.lemmas.Bool.Decides.{nat_tests}
use Rattle.std.proofs.lemmas.Map.Keys.{sorted_head, sorted_tail}
use Rattle.nm_base.specs.FieldNumber.{field_number}
use Rattle.nm_base.specs.Order.{same_text}
use Rattle.nm_base.specs.SetLaws.{bytes_same}
use Rattle.nm_base.specs.declared.facts.Field.{Field}
use Rattle.nm_base.specs.declared.facts.Field.TheVariants.{From, To, Subject, Body, Attachment}
use Rattle.nm_base.specs.declared.facts.FieldWords.{FieldWords}
use Rattle.nm_blocks.specs.declared.hit.Hit.{Hit}
use Rattle.nm_segment.specs.declared.doc_words.DocWords.{DocWords}
use Rattle.nm_segment.specs.Docs.{IsHit, Occurrence, hits_in, hits_of, is_of, lists_from, lists_of, numbers, occurrences, words_from}

-- ---- what a list has

abbrev In : {X : Type 0} → X → List X → Type 0
In x [] = ⊥
In x (y ∷ ys) = (x ≡ y) ⊎ In x ys

in_left : {X : Type 0} (x : X) (xs ys : List X) → In x xs → In x (xs ++ ys)
in_left x [] ys h = absurd h
in_left x (z ∷ xs) ys h = elim h [ inl e ↦ inl e | inr r ↦ inr (in_left x xs ys r) ]

in_right : {X : Type 0} (x : X) (xs ys : List X) → In x ys → In x (xs ++ ys)
in_right x [] ys h = h
in_right x (z ∷ xs) ys h = inr (in_right x xs ys h)

in_split : {X : Type 0} (x : X) (xs ys : List X) → In x (xs ++ ys) → In x xs ⊎ In x ys
in_split x [] ys h = inr h
in_split x (z ∷ xs) ys h = elim h [
  | inl e ↦ inl (inl e)
  | inr r ↦ elim (in_split x xs ys r) [ inl a ↦ inl (inr a) | inr b ↦ inr b ]
]

pub contained : {X : Type 0} (x : X) (xs : List X) → In x xs → Contains xs x
contained x [] h = absurd h
contained x (y ∷ ys) h = elim h [
  | inl e ↦ (0, omega arith, sym e)
  | inr r ↦ let c = contained x ys r in (suc c.0, omega (arith, c.1), c.2)
]

pub has_it : {X : Type 0} (x : X) (xs : List X) (k : ℕ) → k < length xs → get_or xs k x ≡ x → In x xs
has_it x [] k less e = absurd (omega (arith, less))
has_it x (y ∷ ys) zero less e = inl (sym e)
has_it x (y ∷ ys) (suc k) less e = inr (has_it x ys k (omega (arith, less)) e)

abbrev pub hit_at : ℕ → ℕ → ℕ → Hit
hit_at doc list place = record { doc = doc; list = list; place = place }

abbrev pub occurrence : Hit → Field → List ℕ → Occurrence
occurrence hit field word = record { hit = hit; field = field; word = word }

-- ---- hits and occurrences

abbrev IsFrom : Hit → List Occurrence → List ℕ → Field → Type 0
IsFrom hit found word field = (o : Occurrence) × In o found × (o.hit ≡ hit) × (is_of word field o ≡ true)

from_case : (hit : Hit) (o : Occurrence) (found : List Occurrence) (word : List ℕ) (field : Field) (b : Bool) → is_of word field o ≡ b → In hit (map (λ p. p.hit) (cond b (o ∷ filter (is_of word field) found) (filter (is_of word field) found)))
    → (In hit (hits_in found word field) → IsFrom hit found word field) → IsFrom hit (o ∷ found) word field
from_case hit o found word field true e h rest = elim h [
  | inl same ↦ (o, inl refl, sym same, e)
  | inr r ↦ let p = rest r in (p.0, inr p.1, p.2, p.3)
]
from_case hit o found word field false e h rest = let p = rest h in (p.0, inr p.1, p.2, p.3)

hit_from : (hit : Hit) (found : List Occurrence) (word : List ℕ) (field : Field) → In hit (hits_in found word field) → IsFrom hit found word field
hit_from hit [] word field h = absurd h
hit_from hit (o ∷ found) word field h = from_case hit o found word field (is_of word field o) refl h (hit_from hit found word field)

kept_case : (hit : Hit) (b : Bool) (p : Occurrence) (hits : List Occurrence) → In hit (map (λ q. q.hit) hits) → In hit (map (λ q. q.hit) (cond b (p ∷ hits) hits))
kept_case hit true p hits h = inr h
kept_case hit false p hits h = h

to_hit : (o : Occurrence) (found : List Occurrence) (word : List ℕ) (field : Field) → is_of word field o ≡ true → In o found → In o.hit (hits_in found word field)
to_hit o [] word field is h = absurd h
to_hit o (p ∷ found) word field is h = elim h [
  | inl e ↦ let here : is_of word field p ≡ true = ap (is_of word field) (sym e) ∙ is in rw here (inl (ap (λ q. q.hit) e))
  | inr r ↦ kept_case o.hit (is_of word field p) p (filter (is_of word field) found) (to_hit o found word field is r)
]

-- ---- places in a document

same_at : (n : ℕ) → n ≡ n + 0
same_at n = omega arith

next_at : (n k : ℕ) → (n + 1) + k ≡ n + suc k
next_at n k = omega arith

zero_at : (n : ℕ) → 0 + n ≡ n
zero_at n = omega arith

pub record Place (doc list : ℕ) (lists : List FieldWords) (o : Occurrence) : Type 0 where
  pub at : ℕ
  pub words : FieldWords
  pub place : ℕ
  pub there : slice_get lists at ≡ Some words
  pub stands : slice_get words.words place ≡ Some o.word
  pub field : o.field ≡ words.field
  pub hit : o.hit ≡ hit_at doc (list + at) place

word_place : (o : Occurrence) (hit : Hit) (field : Field) (words : List (List ℕ)) → In o (words_from hit field words)
    → (k : ℕ) × (slice_get words k ≡ Some o.word) × (o.hit ≡ hit_at hit.doc hit.list (hit.place + k)) × (o.field ≡ field)
word_place o hit field [] h = absurd h
word_place o hit field (word ∷ words) h = elim h [
  | inl e ↦ (
    0,
    ap Some (sym (ap (λ (p : Occurrence). p.word) e)),
    ap (λ (p : Occurrence). p.hit) e ∙ ap (hit_at hit.doc hit.list) (same_at hit.place),
    ap (λ (p : Occurrence). p.field) e,
  )
  | inr r ↦
      let p = word_place o (hit_at hit.doc hit.list (hit.place + 1)) field words r in (
        suc p.0,
        p.1,
        p.2 ∙ ap (hit_at hit.doc hit.list) (next_at hit.place p.0),
        p.3,
      )
]

list_place : (o : Occurrence) (doc list : ℕ) (lists : List FieldWords) → In o (lists_from doc list lists) → Place doc list lists o
list_place o doc list [] h = absurd h
list_place o doc list (words ∷ lists) h = elim (in_split o (words_from (hit_at doc list 0) words.field words.words) (lists_from doc (list + 1) lists) h) [
  | inl a ↦
      let p = word_place o (hit_at doc list 0) words.field words.words a in
      record {
        at = 0;
        words = words;
        place = p.0;
        there = refl;
        stands = p.1;
        field = p.3;
        hit = p.2 ∙ (ap (λ (n : ℕ). hit_at doc n (0 + p.0)) (same_at list) ∙ ap (hit_at doc (list + 0)) (zero_at p.0));
      }
  | inr b ↦
      let q = list_place o doc (list + 1) lists b in
      record {
        at = suc q.at;
        words = q.words;
        place = q.place;
        there = q.there;
        stands = q.stands;
        field = q.field;
        hit = q.hit ∙ ap (λ (n : ℕ). hit_at doc n q.place) (next_at list q.at);
      }
]

place_word : (word : List ℕ) (hit : Hit) (field : Field) (words : List (List ℕ)) (k : ℕ) → slice_get words k ≡ Some word
    → In (occurrence (hit_at hit.doc hit.list (hit.place + k)) field word) (words_from hit field words)
place_word word hit field [] k h = absurd (cc)
place_word word hit field (w ∷ words) zero h =
    inl (ap (λ (n : ℕ). occurrence (hit_at hit.doc hit.list n) field word) (sym (same_at hit.place)) ∙ ap (occurrence hit field) (sym (let e : w ≡ word = cc in e)))
place_word word hit field (w ∷ words) (suc k) h =
    inr (subst (λ (n : ℕ). In (occurrence (hit_at hit.doc hit.list n) field word) (words_from (hit_at hit.doc hit.list (hit.place + 1)) field words)) (next_at hit.place k)
    (place_word word (hit_at hit.doc hit.list (hit.place + 1)) field words k h))

place_list : (o : Occurrence) (doc list : ℕ) (lists : List FieldWords) (at : ℕ) (words : FieldWords) → slice_get lists at ≡ Some words → In o (words_from (hit_at doc (list + at) 0) words.field words.words) → In o (lists_from doc list lists)
place_list o doc list [] at words h i = absurd (cc)
place_list o doc list (l ∷ lists) zero words h i =
    let e : words ≡ l = cc in
    in_left o (words_from (hit_at doc list 0) l.field l.words) (lists_from doc (list + 1) lists)
    (subst (λ (ws : FieldWords). In o (words_from (hit_at doc list 0) ws.field ws.words)) e (subst (λ (n : ℕ). In o (words_from (hit_at doc n 0) words.field words.words)) (sym (same_at list)) i))
place_list o doc list (l ∷ lists) (suc at) words h i =
    in_right o (words_from (hit_at doc list 0) l.field l.words) (lists_from doc (list + 1) lists)
    (place_list o doc (list + 1) lists at words h (subst (λ (n : ℕ). In o (words_from (hit_at doc n 0) words.field words.words)) (sym (next_at list at)) i))

-- ---- documents

less_of : (a b : ℕ) → nat_cmp a b ≡ Less → a < b
less_of a b h = grind (arith, nat_tests)

above_in : (n : ℕ) (d : DocWords) (docs : List DocWords) → AllByRecursion (λ m. nat_cmp n m ≡ Less) (numbers docs) → In d docs → n < d.doc
above_in n d [] all h = absurd h
above_in n d (x ∷ docs) all h = elim h [
  | inl e ↦ less_of n d.doc (ap (λ (y : DocWords). nat_cmp n y.doc) e ∙ all.0)
  | inr r ↦ above_in n d docs all.1 r
]

lists_in : (d : DocWords) (docs : List DocWords) → IsStrictlySortedBy nat_cmp (numbers docs) → In d docs → lists_of docs d.doc ≡ d.lists
lists_in d [] sorted h = absurd h
lists_in d (x ∷ docs) sorted h = elim h [
  | inl e ↦ rw (eq-eqb x.doc d.doc (sym (ap (λ (y : DocWords). y.doc) e))) (sym (ap (λ (y : DocWords). y.lists) e))
  | inr r ↦
      let up = above_in x.doc d docs (sorted_head nat_cmp x.doc (numbers docs) sorted) r in
      rw (ne_eqb x.doc d.doc (λ e. omega (arith, e, up))) (lists_in d docs (sorted_tail nat_cmp x.doc (numbers docs) sorted) r)
]

doc_place : (o : Occurrence) (docs : List DocWords) → In o (occurrences docs) → (d : DocWords) × In d docs × Place d.doc 0 d.lists o
doc_place o [] h = absurd h
doc_place o (x ∷ docs) h = elim (in_split o (lists_from x.doc 0 x.lists) (occurrences docs) h) [
  | inl a ↦ (x, inl refl, list_place o x.doc 0 x.lists a)
  | inr b ↦ let p = doc_place o docs b in (p.0, inr p.1, p.2)
]

place_case : (o : Occurrence) (x : DocWords) (docs : List DocWords) (doc at : ℕ) (words : FieldWords) (b : Bool) → nat_eq x.doc doc ≡ b → slice_get (cond b x.lists (lists_of docs doc)) at ≡ Some words
    → In o (words_from (hit_at doc (0 + at) 0) words.field words.words) → (slice_get (lists_of docs doc) at ≡ Some words → In o (occurrences docs)) → In o (occurrences (x ∷ docs))
place_case o x docs doc at words true e h i rest =
    in_left o (lists_from x.doc 0 x.lists) (occurrences docs) (place_list o x.doc 0 x.lists at words h (subst (λ (n : ℕ). In o (words_from (hit_at n (0 + at) 0) words.field words.words)) (sym (eqb-true x.doc doc e)) i))
place_case o x docs doc at words false e h i rest = in_right o (lists_from x.doc 0 x.lists) (occurrences docs) (rest h)

place_doc : (o : Occurrence) (docs : List DocWords) (doc at : ℕ) (words : FieldWords) → slice_get (lists_of docs doc) at ≡ Some words → In o (words_from (hit_at doc (0 + at) 0) words.field words.words) → In o (occurrences docs)
place_doc o [] doc at words h i = absurd (cc)
place_doc o (x ∷ docs) doc at words h i = place_case o x docs doc at words (nat_eq x.doc doc) refl h i (λ g. place_doc o docs doc at words g i)

-- ---- the law

abbrev field_of : ℕ → Field
field_of zero = From
field_of (suc zero) = To
field_of (suc (suc zero)) = Subject
field_of (suc (suc (suc zero))) = Body
field_of (suc (suc (suc (suc n)))) = Attachment

decoded : (field : Field) → field_of (field_number field) ≡ field
decoded From = refl
decoded To = refl
decoded Subject = refl
decoded Body = refl
decoded Attachment = refl

pub same_field : (a b : Field) → field_number a ≡ field_number b → a ≡ b
same_field a b e = sym (decoded a) ∙ (ap field_of e ∙ decoded b)

pub sound : (docs : List DocWords) (word : List ℕ) (field : Field) (hit : Hit) → IsStrictlySortedBy nat_cmp (numbers docs) → In hit (hits_of docs word field) → IsHit docs word field hit
sound docs word field hit sorted h =
    let f = hit_from hit (occurrences docs) word field h in
    let d = doc_place f.0 docs f.1 in
    let p = d.2 in
    let parts = and_parts (same_text word f.0.word) (nat_eq (field_number field) (field_number f.0.field)) f.3 in
    let at : hit_at d.0.doc (0 + p.at) p.place ≡ hit = sym p.hit ∙ f.2 in
    let same : word ≡ f.0.word = bytes_same word f.0.word (sym parts.0) in
    let there : slice_get (lists_of docs d.0.doc) (0 + p.at) ≡ Some p.words = ap (λ (ls : List FieldWords). slice_get ls (0 + p.at)) (lists_in d.0 docs sorted d.1) ∙ (ap (slice_get d.0.lists) (zero_at p.at) ∙ p.there) in
    subst (λ (x : Hit). IsHit docs word field x) at (record {
      list = p.words;
      there = there;
      of_field = sym p.field ∙ sym (same_field field f.0.field (eqb-true (field_number field) (field_number f.0.field) parts.1));
      stands = p.stands ∙ ap Some (sym same);
    })

pub complete : (docs : List DocWords) (word : List ℕ) (field : Field) (hit : Hit) → IsHit docs word field hit → In hit (hits_of docs word field)
complete docs word field hit h =
    let here : Hit = hit_at hit.doc (0 + hit.list) (0 + hit.place) in
    let o : Occurrence = occurrence here field word in
    let i : In (occurrence here h.list.field word) (words_from (hit_at hit.doc (0 + hit.list) 0) h.list.field h.list.words) = place_word word (hit_at hit.doc (0 + hit.list) 0) h.list.field h.list.words hit.place h.stands in
    let j : In o (words_from (hit_at hit.doc (0 + hit.list) 0) h.list.field h.list.words) = subst (λ (f : Field). In (occurrence here f word) (words_from (hit_at hit.doc (0 + hit.list) 0) h.list.field h.list.words)) h.of_field i in
    let is : is_of word field o ≡ true = rw (nat_list_eq_equiv.refl word, eq-eqb (field_number field) (field_number field) refl) refl in
    let all = to_hit o (occurrences docs) word field is (place_doc o docs hit.doc hit.list h.list h.there j) in
    let same : here ≡ hit = ap (λ (n : ℕ). hit_at hit.doc n (0 + hit.place)) (zero_at hit.list) ∙ ap (hit_at hit.doc hit.list) (zero_at hit.place) in
    subst (λ (x : Hit). In x (hits_of docs word field)) same all
