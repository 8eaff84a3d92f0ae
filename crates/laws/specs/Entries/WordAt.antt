-- The longest entry at a position, from the words of the lexicon that stand there: what a scan has to find. Assumes nothing.
use Rattle.std.specs.Prelude.{◌≡◌, ℕ, suc, ◌+◌, ◌-◌, ◌≤◌, ◌<◌}
use Rattle.std.proofs.Math.Path.{refl, ap}
use Rattle.std.proofs.Common.{sym, ⊎_elim, arith}
use mathlib.Core.List.{List, [], ◌∷◌}
use Rattle.std.proofs.Math.ListN.{length, get_or}
use Rattle.basics.specs.Member.{In, in_getD, member_index}
use Rattle.spec.specs.Dictionary.{Lexicon}
use Rattle.spec.specs.Words.{key, spells, Entry, entry}
use Rattle.laws.specs.Text.Strings.{Stand}
use Rattle.laws.specs.Text.Overlaps.{stand_char}
use Rattle.laws.specs.Text.Facts.{Chars, GoodLexicon, IsEntry}
use Rattle.laws.specs.Dictionary.Keys.{IsWordKey, IsLoneKey, key_kinds, word_is_key, lone_is_key, spells_word, spells_lone}
use Rattle.laws.specs.Entries.Scan.{LongestAt}

-- no word that stands at p ends after `last`
pub record NoneAfter (lex : Lexicon) (ts : List ℕ) (p last : ℕ) : Type 0 where
  pub none : (i : ℕ) → i < length lex.words → Stand (get_or lex.words i []) ts p → p + length (get_or lex.words i []) ≤ last

-- word i stands at p, and no word that stands there is longer
pub record WordAt (lex : Lexicon) (ts : List ℕ) (p i : ℕ) : Type 0 where
  pub below : i < length lex.words
  pub stand : Stand (get_or lex.words i []) ts p
  pub longest :
      (j : ℕ) → j < length lex.words → Stand (get_or lex.words j []) ts p →
      length (get_or lex.words j []) ≤ length (get_or lex.words i [])

-- an entry is a word's, or has one character
pub entry_bounded :
    {lex : Lexicon} {ts : List ℕ} (p most : ℕ) {e : Entry} → IsEntry lex ts e → e.at ≡ p → 1 ≤ most →
    ((j : ℕ) → j < length lex.words → Stand (get_or lex.words j []) ts p → length (get_or lex.words j []) ≤ most) →
    e.len ≤ most
entry_bounded {lex} {ts} p most {e} h a one words =
    ⊎_elim
    (λ (w : IsWordKey lex e.key_of).
    let spelt : spells lex e.key_of ≡ get_or lex.words e.key_of.value [] = spells_word lex e.key_of w.kind_is in
    let stand : Stand (get_or lex.words e.key_of.value []) ts p = rw (← spelt, ← a) h.stand in
    omega (arith, ap length spelt, words e.key_of.value w.below stand))
    (λ (c : IsLoneKey lex e.key_of). omega (arith, ap length (spells_lone lex e.key_of c.kind_is)))
    (key_kinds lex e.key_of h.is_key)

module _ (lex : Lexicon) (good : GoodLexicon lex) (ts : List ℕ) (chars : Chars ts) where
  pub word_at_longest :
      {p i : ℕ} → WordAt lex ts p i → LongestAt lex ts p (entry (key 0 i) p (length (get_or lex.words i [])))
  unfolding entry key
  word_at_longest {p} {i} w =
      record {
        is_longest =
            record {
              is_entry =
                  record {
                    is_key = word_is_key lex (key 0 i) (record { kind_is = refl; below = w.below });
                    len_is = ap length (sym spelt);
                    stand = rw spelt w.stand;
                  };
              longest =
                  λ f hf a.
                  entry_bounded p (length (get_or lex.words i [])) hf a
                  (good.nonempty (get_or lex.words i []) (in_getD lex.words i [] w.below)) w.longest;
            };
        here = refl;
      }
    where
      spelt : spells lex (key 0 i) ≡ get_or lex.words i []
      spelt = spells_word lex (key 0 i) refl

  -- if no word there ends after `last` and `last` is not after p, no word stands at p at all: the character is lone
  pub none_after_lone :
      {p last : ℕ} → 1 ≤ p → p ≤ length ts → last ≤ p → NoneAfter lex ts p last →
      LongestAt lex ts p (entry (key 1 (get_or ts (p - 1) 0)) p 1)
  unfolding entry key
  none_after_lone {p} lo hi small n =
      record {
        is_longest =
            record {
              is_entry =
                  record {
                    is_key =
                        lone_is_key lex (key 1 (get_or ts (p - 1) 0))
                        (record { kind_is = refl; char = chars (p - 1) (omega arith); no_word = no_word });
                    len_is = ap length (sym spelt);
                    stand = rw spelt stand;
                  };
              longest = λ f hf a. entry_bounded p 1 hf a (omega arith) (λ j b h. absurd (no_word_stands j b h));
            };
        here = refl;
      }
    where
      spelt : spells lex (key 1 (get_or ts (p - 1) 0)) ≡ get_or ts (p - 1) 0 ∷ []
      spelt = spells_lone lex (key 1 (get_or ts (p - 1) 0)) refl

      stand : Stand (get_or ts (p - 1) 0 ∷ []) ts p
      stand =
          let position : suc (p - 1) ≡ p = omega arith in
          rw position at (stand_char ts (p - 1) (omega arith))

      no_word_stands : (j : ℕ) → j < length lex.words → Stand (get_or lex.words j []) ts p → ⊥
      no_word_stands j b h =
          omega (arith, n.none j b h, good.nonempty (get_or lex.words j []) (in_getD lex.words j [] b))

      no_word : In (get_or ts (p - 1) 0 ∷ []) lex.words → ⊥
      no_word m =
          let (j, b, q) = member_index (get_or ts (p - 1) 0 ∷ []) lex.words [] m in
          no_word_stands j b (rw q stand)

  -- if `last` is after p, nothing is registered
  pub none_after_passes :
      {p last : ℕ} {e : Entry} → p < last → NoneAfter lex ts p last → LongestAt lex ts p e → p + e.len ≤ last
  none_after_passes {p} {last} {e} big n l =
      let bound : e.len ≤ last - p =
      entry_bounded p (last - p) l.is_longest.is_entry l.here (omega arith)
      (λ j b h. omega (arith, n.none j b h)) in
      omega arith
