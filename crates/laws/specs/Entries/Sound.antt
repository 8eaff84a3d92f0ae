-- The entries of a text over an admitted lexicon are such as a readable index may have, and start at different positions. Assumes
-- nothing.
use Rattle.std.specs.Prelude.{List, ℕ, length}
use Rattle.spec.specs.Dictionary.{Lexicon}
use Rattle.spec.specs.Words.{entries}
use Rattle.laws.specs.Text.Facts.{Chars, GoodLexicon, Sound, OwnPositions}
use Rattle.laws.specs.Entries.Entries.{in_text, entries_get}
use Rattle.laws.specs.Entries.Maximal.{maximal_unique}

module _ (lex : Lexicon) (good : GoodLexicon lex) (ts : List ℕ) (chars : Chars ts) where
  pub entries_sound : Sound lex (length ts) (entries lex ts)
  entries_sound e m =
      let h = (entries_get lex good ts chars e m).is_entry in
      let text = in_text good h in
      record { is_key = h.is_key; len_is = h.len_is; from = text.from; within = text.within }

  pub entries_own_positions : OwnPositions (entries lex ts)
  entries_own_positions e f m n a =
      maximal_unique lex good ts (entries_get lex good ts chars e m) (entries_get lex good ts chars f n) a
