-- Documents with their words: where each word is, and which words there are. Cited by `list_words`, `doc_lists`,
-- `all_words`, `gather`, `merged_index` and `segment`.
use Rattle.std.specs.Prelude.{ℕ, ◌+◌, ◌<◌, ◌^◌, Bool, ◌&&◌, nat_eq, Option, None, Some, List, [], ◌∷◌, ◌++◌, filter, length, map, if◌then◌else◌, ◌≡◌, slice_get}
use Rattle.std.specs.List.{AllByRecursion, flat_map}
use Rattle.std.specs.List.Sorted.{IsStrictlySortedBy}
use Rattle.std.specs.Ordering.{nat_cmp}
use Rattle.nm_base.specs.FieldNumber.{field_number}
use Rattle.nm_base.specs.Order.{same_text, sorted}
use Rattle.nm_base.specs.declared.facts.Field.{Field}
use Rattle.nm_base.specs.declared.facts.FieldWords.{FieldWords}
use Rattle.nm_segment.specs.declared.doc_words.DocWords.{DocWords}
use Rattle.nm_blocks.specs.declared.hit.Hit.{Hit}

-- a word where it is, in a list of a field
pub record Occurrence : Type 0 where
  pub hit : Hit
  pub field : Field
  pub word : List ℕ

-- the words of a list, from a place on
abbrev pub words_from : Hit → Field → List (List ℕ) → List Occurrence
words_from hit field [] = []
words_from hit field (word ∷ words) = record { hit = hit; field = field; word = word } ∷ words_from (record hit { place = hit.place + 1 }) field words

-- the words of a document's lists, from a list on
abbrev pub lists_from : ℕ → ℕ → List FieldWords → List Occurrence
lists_from doc list [] = []
lists_from doc list (words ∷ lists) = words_from (record { doc = doc; list = list; place = 0 }) words.field words.words ++ lists_from doc (list + 1) lists

-- lists that are few enough to be counted, and have few enough words
pub record AreFew (lists : List FieldWords) : Type 0 where
  pub few : length lists < 2 ^ 32
  pub short : AllByRecursion (λ list. length list.words < 2 ^ 32) lists

-- a document that is being read: the fields of its lists, and its words that are left
pub record Unread : Type 0 where
  pub fields : List Field
  pub words : List Occurrence

-- the fields of lists
abbrev pub fields_of : List FieldWords → List Field
fields_of lists = map (λ list. list.field) lists

-- the words of a list that is being read, if one is
abbrev pub words_left : Option (List Occurrence) → List Occurrence
words_left None = []
words_left (Some words) = words

-- the words of a document that is being read, if one is
abbrev pub current_words : Option Unread → List Occurrence
current_words None = []
current_words (Some unread) = unread.words

-- lists that are left are few enough to be counted on from here
pub record AreLeft (begun : ℕ) (lists : List FieldWords) : Type 0 where
  pub few : begun + length lists < 2 ^ 32
  pub short : AllByRecursion (λ list. length list.words < 2 ^ 32) lists

-- ---- documents

-- every word where it is, document after document
abbrev pub occurrences : List DocWords → List Occurrence
occurrences docs = flat_map (λ d. lists_from d.doc 0 d.lists) docs

-- the words of occurrences
abbrev pub texts : List Occurrence → List (List ℕ)
texts found = map (λ o. o.word) found

-- the words of the documents in byte order, each once
abbrev pub words : List DocWords → List (List ℕ)
words docs = sorted (texts (occurrences docs))

-- the word is there, in a list of the field
abbrev pub is_of : List ℕ → Field → Occurrence → Bool
is_of word field o = same_text word o.word && nat_eq (field_number field) (field_number o.field)

-- where a word is in lists of a field, among occurrences
abbrev pub hits_in : List Occurrence → List ℕ → Field → List Hit
hits_in found word field = map (λ o. o.hit) (filter (is_of word field) found)

-- where a word is in lists of a field, in order
abbrev pub hits_of : List DocWords → List ℕ → Field → List Hit
hits_of docs word field = hits_in (occurrences docs) word field

-- the numbers of the documents
abbrev pub numbers : List DocWords → List ℕ
numbers docs = map (λ d. d.doc) docs

-- documents whose numbers rise, with few enough lists and words
pub record AreDocs (docs : List DocWords) : Type 0 where
  pub rising : IsStrictlySortedBy nat_cmp (numbers docs)
  pub few : AllByRecursion (λ d. AreFew d.lists) docs

-- the lists of the document with a number; none where there is no such document
abbrev pub lists_of : List DocWords → ℕ → List FieldWords
lists_of [] doc = []
lists_of (d ∷ docs) doc = if nat_eq d.doc doc then d.lists else lists_of docs doc

-- a hit of a word in a field: a document has a list of the field, in which the word is at the place
pub record IsHit (docs : List DocWords) (word : List ℕ) (field : Field) (hit : Hit) : Type 0 where
  pub list : FieldWords
  pub there : slice_get (lists_of docs hit.doc) hit.list ≡ Some list
  pub of_field : list.field ≡ field
  pub stands : slice_get list.words hit.place ≡ Some word
