use Rattle.std.proofs.Common.{◌≡◌, ℕ, ◌<◌, ◌≤◌, List, Option, None, Some, get_or, length, slice_get, refl, sym, ap, subst, ◌∙◌}
use Rattle.std.specs.Option.{option_map}
use Rattle.std.proofs.lemmas.Option.{slice_get-map, slice_get_past, slice_get_read}
use Rattle.nm_segment.specs.Docs.{numbers}
use Rattle.nm_segment.specs.declared.doc_words.DocWords.{DocWords}
use Rattle.nm_segment.proofs.segment.Segment.doc_at.Goals as goal

number_at : (docs : List DocWords) (at : ℕ) (found : Option DocWords) → found ≡ slice_get docs at → option_map (λ (d : DocWords). d.doc) found ≡ slice_get (numbers docs) at
number_at docs at found is = ap (option_map (λ (d : DocWords). d.doc)) is ∙ sym (slice_get-map (λ (d : DocWords). d.doc) docs at)

none_at : (docs same : List DocWords) (at : ℕ) → docs ≡ same → length docs ≤ at → None ≡ slice_get (numbers same) at
none_at docs same at alike past = subst (λ (l : List DocWords). None ≡ slice_get (numbers l) at) alike (number_at docs at None (sym (slice_get_past docs at past)))

one_at : (docs same : List DocWords) (at : ℕ) (found : DocWords) → docs ≡ same → at < length docs → found ≡ get_or docs at found → Some found.doc ≡ slice_get (numbers same) at
one_at docs same at found alike within is = subst (λ (l : List DocWords). Some found.doc ≡ slice_get (numbers l) at) alike (number_at docs at (Some found) (sym (slice_get_read docs (length docs) at found refl within is)))

pub returns-in-None : goal.returns-in-None
returns-in-None c = none_at _ _ _ c.docs.ensures.docs c.in-None.ensures.lookup.3

pub returns-in-Some : goal.returns-in-Some
returns-in-Some c = one_at _ _ _ _ c.docs.ensures.docs c.in-Some.ensures.lookup.3.0 c.in-Some.ensures.lookup.1
