-- What the types `Words` and `Directory` ask follows from the records about an index that can be read. Assumes nothing.
use Rattle.std.specs.Prelude.{◌≡◌, refl, true, false, List, [], ◌∷◌, ℕ, ◌+◌, ◌-◌, ◌≤◌, ◌<◌, length, get_or, take, drop}
use Rattle.std.proofs.Common.{ap, ◌∙◌, inl, inr, ⊎_elim, arith, length-drop, get_or-take, get_or-drop, length-take-le}
use Rattle.basics.specs.Bools.{or_none, le_or_lt}
use Rattle.basics.specs.Member.{In, in_getD}
use Rattle.spec.specs.Dictionary.{lexicon, words_from, total, some_full_width}
use Rattle.spec.specs.Index.{n_of, readable}
use Rattle.models.specs.WordStarts.{lengths_of, lexicon_at}
use Rattle.laws.specs.Text.Facts.{Chars, Plain}
use Rattle.laws.specs.Text.WidthFolding.{plain_put}
use Rattle.laws.specs.Dictionary.Lexicon.{IsAdmitted, admitted_put, length_words, words_len}
use Rattle.laws.specs.Numbers.Slices.{numbers_lines_in}
use Rattle.laws.specs.Readable.Readable.{readable_put}
use Rattle.laws.specs.Match.MatchTable.{Started}
use Rattle.laws.specs.Directory.Tables.{CanRead, Reads}

-- words of which none has a full-width form pass the test
words_plain_put : (ws : List (List ℕ)) → ((w : List ℕ) → In w ws → Plain w) → some_full_width ws ≡ false
unfolding some_full_width
words_plain_put [] each = refl
words_plain_put (w ∷ ws) each = or_none (plain_put w (each w (inl refl))) (words_plain_put ws (λ v m. each v (inr m)))

-- characters that lie in words which add up to them are characters
words_chars_put :
    (ls cs : List ℕ) → total ls ≡ length cs → ((w : List ℕ) → In w (words_from ls cs) → Chars w) → Chars cs
unfolding words_from total
words_chars_put [] cs sum each i h = absurd (omega arith)
words_chars_put (l ∷ ls) cs sum each i h =
    ⊎_elim
    (λ (past : l ≤ i).
    let back : l + (i - l) ≡ i = omega arith in
    let rest : Chars (drop l cs) = words_chars_put ls (drop l cs) (omega (arith, length-drop l cs)) (λ w m. each w (inr m)) in
    omega (
      arith,
      rest (i - l) (omega (arith, length-drop l cs)),
      get_or-drop l cs (i - l) 0 ∙ ap (λ (j : ℕ). get_or cs j 0) back,
    ))
    (λ (inside : i < l).
    omega (
      arith,
      each (take l cs) (inl refl) i (omega (arith, length-take-le l cs (omega arith))),
      get_or-take l cs i 0 inside,
    ))
    (le_or_lt l i)

module _ {cs ls xs : List ℕ} (can : CanRead cs ls xs) where
  -- each length is that of a word of the lexicon, which has 1 to 32 characters
  length_allowed : (i : ℕ) → i < length ls → (1 ≤ get_or ls i 0) × (get_or ls i 0 ≤ 32)
  unfolding lexicon
  length_allowed i below =
      let size : length (get_or (words_from ls cs) i []) ≡ get_or ls i 0 = words_len ls cs i (omega (arith, can.sum)) below in
      let among : In (get_or (words_from ls cs) i []) (words_from ls cs) =
      in_getD (words_from ls cs) i [] (omega (arith, length_words ls cs)) in (
        omega (arith, size, can.lexicon_good.nonempty (get_or (words_from ls cs) i []) among),
        omega (arith, size, can.lexicon_good.short (get_or (words_from ls cs) i []) among),
      )

  -- the dictionary has every fact of admission
  can_admitted : IsAdmitted cs ls
  unfolding lexicon
  can_admitted =
      record {
        chars = words_chars_put ls cs can.sum can.lexicon_good.chars;
        few = can.few_words;
        small = can.few_chars;
        lengths = length_allowed;
        sum = can.sum;
        order = can.words_rise;
        plain = words_plain_put (words_from ls cs) can.lexicon_good.plain;
      }

module _ {cs ws xs : List ℕ} (reads : Reads cs ws xs) where
  -- An index that can be read is readable for texts of at most g characters, where its own text has no more.
  pub reads_readable : (g : ℕ) → n_of xs ≤ g → readable g (lexicon_at cs ws) xs ≡ true
  reads_readable g short = rw (numbers_lines_in xs reads.can.fits) at (readable_put g reads.can.lines short)

  -- Its dictionary is admitted, and the table has the starts of the dictionary's words.
  pub reads_started : Started cs ws
  reads_started = record { dictionary = admitted_put cs (lengths_of ws) (can_admitted reads.can); words = reads.words }
