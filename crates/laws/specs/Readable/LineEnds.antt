-- A directory line without the order of its positions: the order is one test more, and what the others say. Assumes nothing.
use Rattle.std.specs.Prelude.{◌≡◌, Bool, true, ◌&&◌, List, ℕ, suc, ◌+◌, ◌≤◌, leb, length, take}
use Rattle.std.proofs.Math.Path.{sym, ap}
use Rattle.std.proofs.Common.{◌∙◌}
use Rattle.std.proofs.Math.Bool.{and_assoc}
use borrow.Author.Tests.{leb-true}
use Rattle.basics.specs.Bools.{and_left, and_right}
use Rattle.spec.specs.Dictionary.{Lexicon}
use Rattle.spec.specs.Words.{Key, spells}
use Rattle.spec.specs.Index.{key_good, rise_from, last_of}
use Rattle.models.specs.Readability.{key_number, list_good, line_list_good, line_list_ends, key_fits, line_fits, line_ends}

module _ (read : List ℕ → List ℕ) (lex : Lexicon) (n a : ℕ) (k : Key) (c : ℕ) (ps : List ℕ) where
  -- the order of the positions apart
  pub line_fits_ends : line_fits read lex n a k c ps ≡ (line_ends read lex n a k c ps && rise_from 1 (read (take c ps)))
  unfolding line_fits line_ends line_list_good line_list_ends list_good
  line_fits_ends =
      let there = leb c (length ps) && leb 1 c in
      let end = leb (last_of (read (take c ps)) + length (spells lex k)) (suc n) in
      let rise = rise_from 1 (read (take c ps)) in
      ap (λ (t : Bool). key_fits lex a k && t) (sym (and_assoc there end rise)) ∙ sym (and_assoc (key_fits lex a k) (there && end) rise)

-- what the tests of a line but for the order say
pub record LineEnds (read : List ℕ → List ℕ) (lex : Lexicon) (n a : ℕ) (k : Key) (c : ℕ) (ps : List ℕ) : Type 0 where
  pub is_good : key_good lex k ≡ true
  pub present : c ≤ length ps
  pub some : 1 ≤ c

pub ends_get :
    (read : List ℕ → List ℕ) (lex : Lexicon) (n a : ℕ) (k : Key) (c : ℕ) (ps : List ℕ) → line_ends read lex n a k c ps ≡ true →
    LineEnds read lex n a k c ps
unfolding line_ends key_fits line_list_ends
ends_get read lex n a k c ps t =
    record {
      is_good = and_right (leb k.kind 1 && leb a (key_number k)) (key_good lex k) (and_left (key_fits lex a k) list t);
      present = leb-true c (length ps) (and_left (leb c (length ps)) (leb 1 c) counts);
      some = leb-true 1 c (and_right (leb c (length ps)) (leb 1 c) counts);
    }
  where
    end : Bool
    end = leb (last_of (read (take c ps)) + length (spells lex k)) (suc n)

    list : Bool
    list = (leb c (length ps) && leb 1 c) && end

    counts : (leb c (length ps) && leb 1 c) ≡ true
    counts = and_left (leb c (length ps) && leb 1 c) end (and_right (key_fits lex a k) list t)
