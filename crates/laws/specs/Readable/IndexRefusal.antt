-- The refusal of every operation on an index, from its tests and back. Assumes nothing.
use Rattle.std.specs.Prelude.{◌≡◌, Bool, not, List, ℕ, ◌≤◌}
use Rattle.std.proofs.Math.Path.{refl}
use Rattle.std.proofs.Math.Bool.{true, false, cond}
use Rattle.std.proofs.Common.{arith}
use Rattle.std.proofs.Math.Dec.{eqb}
use borrow.Author.Tests.{ne_eqb, eqb-true, eqb-false}
use Rattle.spec.specs.Dictionary.{lexicon, dictionary_refusal}
use Rattle.spec.specs.Index.{n_of, readable}
use Rattle.spec.specs.Calls.{unreadable, or_else, index_refusal}
use Rattle.laws.specs.Dictionary.WordCode.{Small}
use Rattle.laws.specs.Dictionary.Lexicon.{IsAdmitted}
use Rattle.laws.specs.Numbers.Slices.{Fits}
use Rattle.laws.specs.Readable.Readable.{readable_get}
use Rattle.laws.specs.Readable.LineWalk.{readable_fits}
use Rattle.laws.specs.Readable.KeyTests.{dictionary_read}

module _ (g : ℕ) (cs ls xs : List ℕ) where
  pub refuses_dictionary : (dictionary_refusal cs ls ≡ 0 → ⊥) → dictionary_refusal cs ls ≡ index_refusal g cs ls xs
  unfolding index_refusal or_else
  refuses_dictionary some = rw (ne_eqb (dictionary_refusal cs ls) 0 some)

  module _ (none : dictionary_refusal cs ls ≡ 0) where
    pub refuses_unreadable : readable g (lexicon cs ls) xs ≡ false → 5 ≡ index_refusal g cs ls xs
    unfolding index_refusal or_else unreadable
    refuses_unreadable f = rw (none, f)

    pub accepts_index : readable g (lexicon cs ls) xs ≡ true → 0 ≡ index_refusal g cs ls xs
    unfolding index_refusal or_else unreadable
    accepts_index t = rw (none, t)

  -- what holds for an accepted index
  pub record Accepted : Type 0 where
    pub no_refusal : dictionary_refusal cs ls ≡ 0
    pub is_readable : readable g (lexicon cs ls) xs ≡ true

  pub index_accepted : index_refusal g cs ls xs ≡ 0 → Accepted
  unfolding index_refusal or_else unreadable
  index_accepted none = by_tests (eqb (dictionary_refusal cs ls) 0) refl (readable g (lexicon cs ls) xs) refl none
    where
      by_tests :
          (a : Bool) → eqb (dictionary_refusal cs ls) 0 ≡ a → (b : Bool) → readable g (lexicon cs ls) xs ≡ b →
          cond a (cond (not b) 5 0) (dictionary_refusal cs ls) ≡ 0 → Accepted
      by_tests true p true q e = record { no_refusal = eqb-true (dictionary_refusal cs ls) 0 p; is_readable = q }
      by_tests true p false q e = absurd (omega arith)
      by_tests false p b q e = absurd (eqb-false (dictionary_refusal cs ls) 0 p e)

  pub accepted_length : index_refusal g cs ls xs ≡ 0 → n_of xs ≤ g
  accepted_length none = (readable_get g (lexicon cs ls) xs (index_accepted none).is_readable).length_allowed

-- what an operation on an index relies on once no line is met
pub record IndexRead (g : ℕ) (cs ls xs : List ℕ) : Type 0 where
  pub is_admitted : IsAdmitted cs ls
  pub is_readable : readable g (lexicon cs ls) xs ≡ true
  pub fits : Fits xs

pub index_read : (g : ℕ) (cs ls xs : List ℕ) → Small cs → index_refusal g cs ls xs ≡ 0 → IndexRead g cs ls xs
index_read g cs ls xs small none =
    let a = index_accepted g cs ls xs none in
    record {
      is_admitted = dictionary_read cs ls small a.no_refusal;
      is_readable = a.is_readable;
      fits = readable_fits g (lexicon cs ls) xs a.is_readable;
    }
