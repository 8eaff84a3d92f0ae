-- How many characters a key of an admitted dictionary spells, as read from the list of lengths. Assumes nothing.
use Rattle.std.specs.Prelude.{◌≡◌, List, ℕ, ◌≤◌, ◌<◌, get_or}
use Rattle.std.proofs.Math.Path.{sym}
use Rattle.std.proofs.Common.{ap, ◌∙◌, arith}
use Rattle.std.proofs.Math.Logic.{⊎_elim}
use Rattle.std.proofs.Math.ListN.{length}
use Rattle.spec.specs.Dictionary.{Lexicon, lexicon}
use Rattle.spec.specs.Words.{Key, key, spells}
use Rattle.laws.specs.Text.Facts.{IsKey}
use Rattle.laws.specs.Dictionary.Lexicon.{IsAdmitted, admitted_put, admitted_lexicon}
use Rattle.laws.specs.Dictionary.Keys.{IsWordKey, IsLoneKey, key_kinds, spells_word, spells_lone, spells_some, spells_short}
use Rattle.laws.specs.Readable.KeyTests.{length_word, word_count}

module _ {cs ls : List ℕ} (h : IsAdmitted cs ls) (kind value : ℕ) (is : IsKey (lexicon cs ls) (key kind value)) where
  pub lone_length : (kind ≡ 0 → ⊥) → 1 ≡ length (spells (lexicon cs ls) (key kind value))
  unfolding key
  lone_length other =
      ⊎_elim
      (λ (w : IsWordKey (lexicon cs ls) (key kind value)). absurd (other w.kind_is))
      (λ (c : IsLoneKey (lexicon cs ls) (key kind value)).
      sym (ap length (spells_lone (lexicon cs ls) (key kind value) c.kind_is)))
      (key_kinds (lexicon cs ls) (key kind value) is)

  module _ (word : kind ≡ 0) where
    pub word_below : value < length ls
    unfolding key
    word_below =
        ⊎_elim
        (λ (w : IsWordKey (lexicon cs ls) (key kind value)). omega (arith, word_count h))
        (λ (c : IsLoneKey (lexicon cs ls) (key kind value)). absurd (omega arith))
        (key_kinds (lexicon cs ls) (key kind value) is)

    pub word_length : get_or ls value 0 ≡ length (spells (lexicon cs ls) (key kind value))
    unfolding key
    word_length =
        sym (ap length (spells_word (lexicon cs ls) (key kind value) word) ∙ length_word h value word_below)

-- a key spells 1 to 32 characters
pub record KeyLength (lex : Lexicon) (k : Key) : Type 0 where
  pub some : 1 ≤ length (spells lex k)
  pub short : length (spells lex k) ≤ 32

pub key_sizes : {cs ls : List ℕ} → IsAdmitted cs ls → {k : Key} → IsKey (lexicon cs ls) k → KeyLength (lexicon cs ls) k
key_sizes {cs} {ls} h {k} is =
    let good = admitted_lexicon cs ls (admitted_put cs ls h) in
    record { some = spells_some good k is; short = spells_short good k is }
