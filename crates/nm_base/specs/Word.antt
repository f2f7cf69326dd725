-- Words: 1 to 200 bytes, whichever they are. Cited by `word`, `word_list`, `nm_codec` and others.
use Rattle.std.specs.Prelude.{ℕ, Bool, List}
use Rattle.nm_base.specs.Bounds.{fits_length}

abbrev pub is_word : List ℕ → Bool
is_word text = fits_length 200 text
