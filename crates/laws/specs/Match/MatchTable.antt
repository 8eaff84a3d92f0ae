-- The match table of an admitted dictionary: hash chains of the words by their first two characters, or by the only one. Assumes nothing.
use Rattle.std.specs.Prelude.{◌≡◌, refl, true, false, ◌⊎◌, ℕ, ◌+◌, ◌*◌, ◌%◌, ◌≤◌, ◌<◌, eqb, take, set, replicate}
use Rattle.std.proofs.Common.{sym, ◌∙◌, inl, inr, ⊎_elim, mod-lt, add-one, arith, length-set, get_or-set_same, get_or-set_other, eqb-true}
use Rattle.std.proofs.Math.Path.{ap}
use mathlib.Core.List.{List, [], ◌∷◌}
use Rattle.std.proofs.Math.ListN.{length, get_or, length-replicate, get_or-replicate}
use Rattle.std.proofs.lemmas.Bool.{eqb-false}
use Rattle.basics.specs.Bools.{true_or_false, le_or_lt}
use Rattle.basics.specs.Writing.{over}
use Rattle.spec.specs.Dictionary.{lexicon, admitted}
use Rattle.models.specs.WordStarts.{starts_from, lengths_of, lexicon_at, word, word_len}
use Rattle.models.specs.MatchTable.{chained, pair_bucket, char_bucket, bucket, bucket_of}
use Rattle.laws.specs.Dictionary.Lexicon.{IsAdmitted, admitted_get, length_words}
use Rattle.laws.specs.Dictionary.WordStarts.{WordStarts, lengths_of_starts, starts_words, end_is, end_room, word_end, len_is}
use Rattle.laws.specs.Dictionary.WordStarts.{word_char, FillingStarts, filling_is, filled_front}
use Rattle.laws.specs.Match.HashChains.{Chain, chained_here, chained_elsewhere}

-- THE WORDS

-- an admitted dictionary, and the table of its word starts
pub record Started (cs ws : List ℕ) : Type 0 where
  pub dictionary : admitted cs (lengths_of ws) ≡ true
  pub words : WordStarts cs ws

module _ {cs ws : List ℕ} (t : Started cs ws) where
  facts : IsAdmitted cs (lengths_of ws)
  facts = admitted_get cs (lengths_of ws) t.dictionary

  pub many_words : length (lexicon_at cs ws).words ≡ length (lengths_of ws)
  unfolding lexicon
  many_words = length_words (lengths_of ws) cs

  pub few_words : length (lengths_of ws) ≤ 4096
  few_words = facts.few

  module _ {i : ℕ} (below : i < length (lengths_of ws)) where
    sizes : length (word cs ws i) ≡ get_or (lengths_of ws) i 0
    sizes = omega (arith, word_end t.words i below, end_is t.words i below)

    pub word_some : 1 ≤ length (word cs ws i)
    word_some = omega (arith, sizes, (facts.lengths i below).0)

    pub word_short : length (word cs ws i) ≤ 32
    word_short = omega (arith, sizes, (facts.lengths i below).1)

-- BUCKETS: 8,192 for words of two characters and more, 2,048 for words of one

pub pair_small : (x y : ℕ) → pair_bucket x y < 8192
unfolding pair_bucket
pair_small x y = mod-lt (37 * x + y) (omega arith)

pub char_large : (x : ℕ) → 8192 ≤ char_bucket x
unfolding char_bucket
char_large x = omega arith

pub char_small : (x : ℕ) → char_bucket x < 10240
unfolding char_bucket
char_small x =
    let small : x % 2048 < 2048 = mod-lt x (omega arith) in
    omega arith

pub bucket_pair : (w : List ℕ) → 2 ≤ length w → bucket w ≡ pair_bucket (get_or w 0 0) (get_or w 1 0)
unfolding bucket
bucket_pair [] h = absurd (omega arith)
bucket_pair (x ∷ []) h = absurd (omega arith)
bucket_pair (x ∷ y ∷ zs) h = refl

pub bucket_char : (w : List ℕ) → length w ≡ 1 → bucket w ≡ char_bucket (get_or w 0 0)
unfolding bucket
bucket_char [] h = absurd (omega arith)
bucket_char (x ∷ []) h = refl
bucket_char (x ∷ y ∷ zs) h = absurd (omega arith)

-- a bucket of 8,192 or above is that of a word of one character
pub bucket_single : (w : List ℕ) → 8192 ≤ bucket w → length w ≡ 1
unfolding bucket
bucket_single [] h = absurd (omega arith)
bucket_single (x ∷ []) h = refl
bucket_single (x ∷ y ∷ zs) h = absurd (omega (arith, pair_small x y))

-- THE TABLE

-- the bucket of the word at `at`, by its first characters
pub record BucketRead (cs : List ℕ) (at len r : ℕ) : Type 0 where
  pub small : r < 10240
  pub one : len ≡ 1 → r ≡ char_bucket (get_or cs at 0)
  pub more : 2 ≤ len → r ≡ pair_bucket (get_or cs at 0) (get_or cs (at + 1) 0)

module _ {cs ws : List ℕ} (t : Started cs ws) {i : ℕ} (below : i < length (lengths_of ws)) where
  pub word_first : get_or cs (get_or ws i 0) 0 ≡ get_or (word cs ws i) 0 0
  word_first =
      let here : get_or ws i 0 ≡ get_or ws i 0 + 0 = omega arith in
      ap (λ (j : ℕ). get_or cs j 0) here ∙ word_char t.words i below 0 (word_some t below)

  pub bucket_read : {r : ℕ} → BucketRead cs (get_or ws i 0) (word_len ws i) r → r ≡ bucket_of cs ws i
  bucket_read h =
      ⊎_elim
      (λ (l : 2 ≤ length (word cs ws i)).
      h.more (omega (arith, size))
      ∙ rw (word_first, word_char t.words i below 1 l) (sym (bucket_pair (word cs ws i) l)))
      (λ (l : length (word cs ws i) < 2).
      let single : length (word cs ws i) ≡ 1 = omega (arith, word_some t below) in
      h.one (omega (arith, size)) ∙ rw word_first (sym (bucket_char (word cs ws i) single)))
      (le_or_lt 2 (length (word cs ws i)))
    where
      size : word_len ws i ≡ length (word cs ws i)
      size = len_is t.words i below

-- what a caller lends for the table, and for the word starts that are filled with it
pub record Room (cs ls starts heads links : List ℕ) : Type 0 where
  pub dictionary : admitted cs ls ≡ true
  pub starts_len : length ls < length starts
  pub heads_clear : heads ≡ replicate 10240 0
  pub links_len : length ls ≤ length links

-- the table of the first n words
pub record Chained (cs ws heads links : List ℕ) (n : ℕ) : Type 0 where
  pub heads_len : length heads ≡ 10240
  pub links_len : length (lengths_of ws) ≤ length links
  pub chains : (b : ℕ) → b < 10240 → Chain links (get_or heads b 0) (chained (bucket_of cs ws) b n)

-- the match table of an admitted dictionary
pub record Tables (cs ws heads links : List ℕ) : Type 0 where
  pub words : Started cs ws
  pub heads_len : length heads ≡ 10240
  pub links_len : length (lengths_of ws) ≤ length links
  pub chains : (b : ℕ) → b < 10240 → Chain links (get_or heads b 0) (chained (bucket_of cs ws) b (length (lengths_of ws)))

module _ {cs ws heads links : List ℕ} {n : ℕ} (h : Chained cs ws heads links n) (started : Started cs ws) where
  chained_step :
      {b : ℕ} → n < length (lengths_of ws) → BucketRead cs (get_or ws n 0) (word_len ws n) b →
      Chained cs ws (set heads b (n + 1)) (set links n (get_or heads b 0)) (n + 1)
  chained_step {b} below read =
      record {
        heads_len = length-set heads b (n + 1) ∙ h.heads_len;
        links_len = rw (length-set links n (get_or heads b 0)) h.links_len;
        chains = λ x l. chain x l (true_or_false (eqb x b));
      }
    where
      small : b < 10240
      small = read.small

      e : b ≡ bucket_of cs ws n
      e = bucket_read started below read

      room : n < length links
      room = omega (arith, below)

      chain :
          (x : ℕ) → x < 10240 → (eqb x b ≡ true) ⊎ (eqb x b ≡ false) →
          Chain (set links n (get_or heads b 0)) (get_or (set heads b (n + 1)) x 0) (chained (bucket_of cs ws) x (n + 1))
      chain x l (inl t) =
          let here : x ≡ b = eqb-true x b t in
          rw (here, get_or-set_same heads b (n + 1) 0 (omega arith), add-one n)
          (chained_here (bucket_of cs ws) b links n (get_or heads b 0) (h.chains b small) room (sym e))
      chain x l (inr t) =
          let other : x ≡ b → ⊥ = eqb-false x b t in
          rw (get_or-set_other heads b x (n + 1) 0 other, add-one n)
          (chained_elsewhere (bucket_of cs ws) x links n (get_or heads x 0) (h.chains x l) (get_or heads b 0)
          (λ (q : bucket_of cs ws n ≡ x). other (sym q ∙ sym e)))

  chained_end : n ≡ length (lengths_of ws) → Tables cs ws heads links
  chained_end all =
      record { words = started; heads_len = h.heads_len; links_len = h.links_len; chains = λ b l. rw all at (h.chains b l) }

-- FILLING THE TABLE, word starts and chains in one walk

module _ {cs ls old heads₀ links₀ : List ℕ} (room : Room cs ls old heads₀ links₀) where
  all_started : Started cs (starts_from 0 ls)
  all_started =
      record {
        dictionary = rw (lengths_of_starts ls) room.dictionary;
        words = starts_words ls (omega (arith, (admitted_get cs ls room.dictionary).sum));
      }

  pub chained_start : Chained cs (starts_from 0 ls) heads₀ links₀ 0
  unfolding chained
  chained_start =
      record {
        heads_len = ap length room.heads_clear ∙ length-replicate {A = ℕ} 10240 0;
        links_len = rw (lengths_of_starts ls) room.links_len;
        chains = λ b h. ap (λ (l : List ℕ). get_or l b 0) room.heads_clear ∙ get_or-replicate {A = ℕ} 10240 b 0 0 h;
      }

  -- the next word's characters start at `at`
  module _ {now : List ℕ} {i at : ℕ} (h : FillingStarts ls old now i at) (below : i < length ls) where
    known : i < length (lengths_of (starts_from 0 ls))
    known = rw (lengths_of_starts ls) below

    size : word_len (starts_from 0 ls) i ≡ get_or ls i 0
    size =
        omega (arith, end_is all_started.words i known, ap (λ (ks : List ℕ). get_or ks i 0) (lengths_of_starts ls))

    pub next_some : 1 ≤ get_or ls i 0
    next_some = ((admitted_get cs ls room.dictionary).lengths i below).0

    pub next_room : at + get_or ls i 0 ≤ length cs
    next_room = omega (arith, end_room all_started.words i known, filling_is ls old h, size, end_is all_started.words i known)

    pub next_chained :
        {heads links : List ℕ} {b : ℕ} → Chained cs (starts_from 0 ls) heads links i → BucketRead cs at (get_or ls i 0) b →
        Chained cs (starts_from 0 ls) (set heads b (i + 1)) (set links i (get_or heads b 0)) (i + 1)
    next_chained chains read = chained_step chains all_started known (rw (size, ← filling_is ls old h) read)

  -- the part of the filled table of word starts that is lent on
  pub chained_all :
      {table heads links : List ℕ} → table ≡ over (starts_from 0 ls) old → {i : ℕ} → Chained cs (starts_from 0 ls) heads links i →
      i ≡ length ls → Tables cs (take (length ls + 1) table) heads links
  chained_all filled h all =
      rw (filled_front ls old filled) (chained_end h all_started (all ∙ ap length (sym (lengths_of_starts ls))))
