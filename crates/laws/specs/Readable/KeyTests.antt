-- The tests that a directory line's key has to pass, one by one, as the reader of the numbers makes them. Assumes nothing.
use Rattle.std.specs.Prelude.{◌≡◌, refl, true, false, List, [], ◌∷◌, leb, length, get_or}
use Rattle.std.proofs.Math.Bool.{and-false}
use Rattle.std.proofs.Math.Logic.{⊎_elim}
use Prim.Native.Nat.{ℕ, zero, suc, ◌+◌, ◌*◌, ◌≤◌, ◌<◌}
use Rattle.std.proofs.Common.{arith}
use borrow.Author.Tests.{le-leb, lt-leb, lt-ltb, le-ltb, eq-eqb}
use Rattle.basics.specs.Bools.{and_put, le_or_lt}
use Rattle.spec.specs.Dictionary.{Lexicon, is_char, lexicon, dictionary_refusal, admitted}
use Rattle.spec.specs.Words.{key, spells, is_word}
use Rattle.spec.specs.Index.{key_good}
use Rattle.models.specs.Readability.{line_list_good, key_fits, line_fits}
use Rattle.laws.specs.Dictionary.WordCode.{Small}
use Rattle.laws.specs.Text.Chars.{all_chars_put}
use Rattle.laws.specs.Dictionary.Lexicon.{IsAdmitted, admitted_get, length_words, words_len}

-- THE DICTIONARY

-- the characters are 16-bit numbers, so a dictionary that meets no line is admitted
pub no_refusal : (cs ls : List ℕ) → Small cs → dictionary_refusal cs ls ≡ 0 → admitted cs ls ≡ true
unfolding admitted
no_refusal cs ls small none =
    and_put (all_chars_put cs (λ i h. omega (arith, small i))) (eq-eqb (dictionary_refusal cs ls) 0 none)

pub dictionary_read : (cs ls : List ℕ) → Small cs → dictionary_refusal cs ls ≡ 0 → IsAdmitted cs ls
dictionary_read cs ls small none = admitted_get cs ls (no_refusal cs ls small none)

module _ {cs ls : List ℕ} (h : IsAdmitted cs ls) where
  pub length_word : (v : ℕ) → v < length ls → length (get_or (lexicon cs ls).words v []) ≡ get_or ls v 0
  unfolding lexicon
  length_word v b = words_len ls cs v (omega arith) b

  pub word_count : length (lexicon cs ls).words ≡ length ls
  unfolding lexicon
  word_count = length_words ls cs

-- A WORD'S LINE

module _ (read : List ℕ → List ℕ) {cs ls : List ℕ} (h : IsAdmitted cs ls) (n c : ℕ) (ps : List ℕ) where
  pub word_low : {least v : ℕ} → v < least → false ≡ line_fits read (lexicon cs ls) n least (key 0 v) c ps
  unfolding line_fits key_fits key
  word_low {least} {v} low = rw (lt-leb least (0 * 65536 + v) (omega arith))

  pub word_high : (least : ℕ) {v : ℕ} → length ls ≤ v → false ≡ line_fits read (lexicon cs ls) n least (key 0 v) c ps
  unfolding line_fits key_fits key_good key
  word_high least {v} high =
      rw (le-ltb v (length (lexicon cs ls).words) (omega (arith, word_count h)), and-false (leb least (0 * 65536 + v)))

  pub word_fits :
      {least v : ℕ} → least ≤ v → v < length ls →
      line_list_good read n (get_or ls v 0) c ps ≡ line_fits read (lexicon cs ls) n least (key 0 v) c ps
  unfolding line_fits key_fits key_good key spells
  word_fits {least} {v} order below =
      rw (
        le-leb least (0 * 65536 + v) (omega arith),
        lt-ltb v (length (lexicon cs ls).words) (omega (arith, word_count h)),
        length_word h v below,
      )

-- A LONE CHARACTER'S LINE

module _ (lex : Lexicon) (least v : ℕ) where
  pub lone_low : v < least → key_fits lex (65536 + least) (key 1 v) ≡ false
  unfolding key_fits key
  lone_low low = rw (lt-leb (65536 + least) (1 * 65536 + v) (omega arith))

  pub lone_word : is_word lex (v ∷ []) ≡ true → key_fits lex (65536 + least) (key 1 v) ≡ false
  unfolding key_fits key_good key
  lone_word t = rw (t, and-false (is_char v), and-false (leb (65536 + least) (1 * 65536 + v)))

  -- 16-bit numbers state no value so high
  pub lone_high : 65536 ≤ v → key_fits lex (65536 + least) (key 1 v) ≡ false
  unfolding key_fits key_good key is_char
  lone_high high = rw (le-ltb v 65536 high, and-false (leb (65536 + least) (1 * 65536 + v)))

  pub lone_fits : least ≤ v → v < 65536 → is_word lex (v ∷ []) ≡ false → key_fits lex (65536 + least) (key 1 v) ≡ true
  unfolding key_fits key_good key is_char
  lone_fits order small none = rw (le-leb (65536 + least) (1 * 65536 + v) (omega arith), lt-ltb v 65536 small, none)

  -- after the words, any other kind
  pub kind_other : (k : ℕ) → length lex.words ≤ 4096 → (k ≡ 1 → ⊥) → key_fits lex (65536 + least) (key k v) ≡ false
  unfolding key_fits key_good key
  kind_other zero few other =
      ⊎_elim
      (λ (high : 65536 ≤ v). rw (le-ltb v (length lex.words) (omega arith), and-false (leb (65536 + least) (0 * 65536 + v))))
      (λ (small : v < 65536). rw (lt-leb (65536 + least) (0 * 65536 + v) (omega arith)))
      (le_or_lt 65536 v)
  kind_other (suc zero) few other = absurd (other refl)
  kind_other (suc (suc k)) few other = rw (lt-leb (suc (suc k)) 1 (omega arith))
