-- The model of the reception test, except for full-width forms. A list of characters is the text of a readable slice exactly if each
-- entry registered in it is one of the slice, and there are as many. Assumes nothing.
use Rattle.std.specs.Prelude.{◌≡◌, true, List, ℕ, length}
use Rattle.std.proofs.Common.{sym, ap, ◌∙◌, subst, arith}
use Rattle.basics.specs.Member.{In}
use Rattle.basics.specs.Order.{ascend_counted}
use Rattle.spec.specs.Dictionary.{Lexicon}
use Rattle.spec.specs.Words.{Entry, entries}
use Rattle.spec.specs.Numbers.{sorted, index_of}
use Rattle.spec.specs.Index.{n_of, entries_of, lines_in, readable}
use Rattle.spec.specs.Reception.{recovered, is_index}
use Rattle.models.specs.Entries.{flat}
use Rattle.laws.specs.Text.Facts.{Chars, GoodLexicon}
use Rattle.laws.specs.Numbers.KeyOrder.{entry_before_strict}
use Rattle.laws.specs.Readable.Readable.{readable_get, entries_of_positions}
use Rattle.laws.specs.Numbers.Lines.{good_flat_ascends}
use Rattle.laws.specs.Numbers.Sorted.{in_sorted_get, length_sorted, sorted_entries_ascend}
use Rattle.laws.specs.Readable.IndexOf.{length_flat, index_unique, in_index_get, in_index_put, entries_of_index}
use Rattle.laws.specs.Entries.Sound.{entries_own_positions}
use Rattle.laws.specs.Receive.Received.{is_index_get, readable_chars, equal_own_index, is_index_recovered}

-- ENTRIES AND THEIR NUMBER

module _ {lex : Lexicon} (good : GoodLexicon lex) (g : ℕ) {xs : List ℕ} (can : readable g lex xs ≡ true) where
  -- If each registered entry is a delivered one, and there are as many, the slice is the index of these characters.
  pub counted_index :
      (us : List ℕ) → Chars us → length us ≡ n_of xs → ((e : Entry) → In e (entries lex us) → In e (flat lex (lines_in xs))) →
      length (entries lex us) ≡ entries_of xs → index_of lex us ≡ xs
  counted_index us chars len each count =
      sym
      (index_unique good us chars g xs can (sym len) (λ e. (λ m. in_sorted_get e (entries lex us) (rw equal m), each e)))
    where
      equal : sorted (entries lex us) ≡ flat lex (lines_in xs)
      equal =
          ascend_counted entry_before_strict (sorted (entries lex us)) (flat lex (lines_in xs))
          (sorted_entries_ascend lex us)
          (good_flat_ascends lex (n_of xs) (lines_in xs) (readable_get g lex xs can).lines)
          (λ e m. each e (in_sorted_get e (entries lex us) m))
          (omega (arith, length_flat lex (lines_in xs), entries_of_positions g lex xs can, length_sorted (entries lex us)))

  -- Numbers that are the index of such a list are the index of the text recovered from them, and the list is that text.
  pub index_taken :
      (us : List ℕ) → Chars us → length us ≡ n_of xs → index_of lex us ≡ xs → (is_index g lex xs ≡ true) × (recovered lex xs ≡ us)
  index_taken us chars len is = (
    equal_own_index good us chars g xs (omega (arith, (readable_get g lex xs can).length_allowed)) is,
    is_index_recovered good us chars xs is,
  )

-- conversely, if numbers are the index of the text recovered from them
module _ {lex : Lexicon} (good : GoodLexicon lex) (g : ℕ) (xs : List ℕ) (taken : is_index g lex xs ≡ true) where
  text_chars : Chars (recovered lex xs)
  text_chars = readable_chars good g xs (is_index_get g lex xs taken).can_read

  index_is : index_of lex (recovered lex xs) ≡ xs
  index_is = (is_index_get g lex xs taken).index_is

  pub is_index_all : (e : Entry) → In e (entries lex (recovered lex xs)) → In e (flat lex (lines_in xs))
  is_index_all e m =
      subst (λ (ys : List ℕ). In e (flat lex (lines_in ys))) index_is
      (in_index_put good (recovered lex xs) text_chars e m)

  pub is_index_only : (e : Entry) → In e (flat lex (lines_in xs)) → In e (entries lex (recovered lex xs))
  is_index_only e m =
      in_index_get good (recovered lex xs) text_chars e
      (subst (λ (ys : List ℕ). In e (flat lex (lines_in ys))) (sym index_is) m)

  pub is_index_count : length (entries lex (recovered lex xs)) ≡ entries_of xs
  is_index_count =
      sym (entries_of_index good (recovered lex xs) text_chars)
      ∙ ap entries_of index_is

  -- no two entries of such numbers start at the same position
  pub is_index_own_positions :
      {e f : Entry} → In e (flat lex (lines_in xs)) → In f (flat lex (lines_in xs)) → e.at ≡ f.at → e ≡ f
  is_index_own_positions {e} {f} m n a =
      entries_own_positions lex good (recovered lex xs) text_chars e f (is_index_only e m) (is_index_only f n) a
