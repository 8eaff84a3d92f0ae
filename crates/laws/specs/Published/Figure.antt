-- Source 000's figure 1 registers exactly the maximal index items. Assumes nothing.
use Rattle.std.specs.Prelude.{◌≡◌, Bool, true, false, cond, List, ◌∷◌, map, ltb, length}
use Rattle.std.proofs.Math.Path.{refl}
use Rattle.std.proofs.Common.{sym, ap, ◌∙◌, arith}
use Prim.Native.Nat.{ℕ, zero, suc, ◌+◌, ◌≤◌}
use Rattle.basics.specs.Member.{In, in_map_get, in_map_put}
use Rattle.spec.specs.Dictionary.{Lexicon, lexicon}
use Rattle.spec.specs.Words.{spells, Entry}
use Rattle.spec.specs.Published.{Item, item, IsItem, maximal_items, item_of, LongestPrefix, figure_1, Figure1}
use Rattle.models.specs.Scan.{scan, make_index}
use Rattle.models.specs.Entries.{longest_at}
use Rattle.laws.specs.Text.Strings.{stands_get}
use Rattle.laws.specs.Text.Overlaps.{stand_unique}
use Rattle.laws.specs.Text.Facts.{Chars, GoodLexicon, IsEntry}
use Rattle.laws.specs.Text.Chars.{is_text_get}
use Rattle.laws.specs.Dictionary.Lexicon.{admitted_lexicon}
use Rattle.laws.specs.Published.Extension.{entry_item, item_entry, maximal_item, item_maximal}
use Rattle.laws.specs.Entries.Scan.{LongestAt}
use Rattle.laws.specs.Entries.Longest.{longest_at_is, make_index_exact}

module _ {lex : Lexicon} {ts : List ℕ} where
  -- what the longest entry at a position spells is the longest prefix word there
  pub longest_prefix_put : {p : ℕ} {e : Entry} → LongestAt lex ts p e → LongestPrefix lex ts p (spells lex e.key_of)
  unfolding item item_of
  longest_prefix_put {p} {e} l = record { is_item = rw (← l.here) (entry_item he); longest = longest }
    where
      he : IsEntry lex ts e
      he = l.is_longest.is_entry

      longest : (v : List ℕ) → IsItem lex ts (item v p) → length v ≤ length (spells lex e.key_of)
      longest v hv =
          let (f, hf, s) = item_entry hv in
          let spelt : spells lex f.key_of ≡ v = ap (λ (i : Item). i.word) s in
          let position : f.at ≡ p = ap (λ (i : Item). i.position) s in
          omega
          (arith, l.is_longest.longest f hf (position ∙ sym l.here), hf.len_is, he.len_is, ap length spelt)

  -- and there is no other
  pub longest_prefix_unique : {p : ℕ} {v w : List ℕ} → LongestPrefix lex ts p v → LongestPrefix lex ts p w → v ≡ w
  unfolding item
  longest_prefix_unique {p} {v} {w} h k =
      stand_unique (stands_get v ts p h.is_item.stand) (stands_get w ts p k.is_item.stand)
      (omega (arith, h.longest w k.is_item, k.longest v h.is_item))

-- the longest entry at each position of a text, and what it spells
record LongestSpelt (lex : Lexicon) (ts : List ℕ) (l_prefix : ℕ → List ℕ) (longest : ℕ → Entry) : Type 0 where
  is : (p : ℕ) → 1 ≤ p → p ≤ length ts → LongestAt lex ts p (longest p)
  spelt : (p : ℕ) → 1 ≤ p → p ≤ length ts → l_prefix p ≡ spells lex (longest p).key_of

module _ {lex : Lexicon} {ts : List ℕ} {l_prefix : ℕ → List ℕ} {longest : ℕ → Entry} (h : LongestSpelt lex ts l_prefix longest) where
  figure_1_from :
      (left p last : ℕ) → 1 ≤ p → p + left ≡ suc (length ts) →
      figure_1 l_prefix left p last ≡ map (item_of lex) (scan longest left p last)
  unfolding figure_1 scan item_of
  figure_1_from zero p last lo fits = refl
  figure_1_from (suc n) p last lo fits =
      rw (h.spelt p lo (omega arith), ← len)
      (cases (figure_1_from n (suc p) (p + (longest p).len) (omega arith) (omega arith))
      (figure_1_from n (suc p) last (omega arith) (omega arith)) (ltb last (p + (longest p).len)))
    where
      l : LongestAt lex ts p (longest p)
      l = h.is p lo (omega arith)

      len : (longest p).len ≡ length (spells lex (longest p).key_of)
      len = l.is_longest.is_entry.len_is

      first : item (spells lex (longest p).key_of) p ≡ item_of lex (longest p)
      first = ap (item (spells lex (longest p).key_of)) (sym l.here)

      cases :
          figure_1 l_prefix n (suc p) (p + (longest p).len) ≡ map (item_of lex) (scan longest n (suc p) (p + (longest p).len)) →
          figure_1 l_prefix n (suc p) last ≡ map (item_of lex) (scan longest n (suc p) last) → (b : Bool) →
          cond b (item (spells lex (longest p).key_of) p ∷ figure_1 l_prefix n (suc p) (p + (longest p).len))
          (figure_1 l_prefix n (suc p) last)
          ≡ map (item_of lex) (cond b (longest p ∷ scan longest n (suc p) (p + (longest p).len)) (scan longest n (suc p) last))
      cases more same true = rw (first, more)
      cases more same false = same

-- the scan's entries, as items, are the maximal items
module _ {lex : Lexicon} (good : GoodLexicon lex) (ts : List ℕ) (chars : Chars ts) where
  pub make_items_get : (i : Item) → In i (map (item_of lex) (make_index lex ts)) → maximal_items lex ts i
  make_items_get i m =
      let (e, n, s) = in_map_get (item_of lex) i (make_index lex ts) m in
      rw s at (maximal_item good ((make_index_exact lex good ts chars).get e n))

  pub make_items_put : (i : Item) → maximal_items lex ts i → In i (map (item_of lex) (make_index lex ts))
  make_items_put i h =
      let (e, he, s) = item_entry h.member in
      let found : In (item_of lex e) (map (item_of lex) (make_index lex ts)) =
      in_map_put (item_of lex) e (make_index lex ts)
      ((make_index_exact lex good ts chars).put e (item_maximal good he (rw s h)) he.stand.from) in
      rw s at found

pub figure_1_holds : (g : ℕ) → Figure1 g
unfolding Figure1 make_index
figure_1_holds g cs ls ts a t l_prefix is i =
    (λ m. make_items_get good ts chars i (rw same at m), λ h. rw same (make_items_put good ts chars i h))
  where
    lex : Lexicon
    lex = lexicon cs ls

    good : GoodLexicon lex
    good = admitted_lexicon cs ls a

    chars : Chars ts
    chars = (is_text_get g ts t).0

    same : figure_1 l_prefix (length ts) 1 1 ≡ map (item_of lex) (make_index lex ts)
    same =
        figure_1_from {longest = longest_at lex ts}
        (record {
          is = longest_at_is lex good ts chars;
          spelt =
              λ p lo hi. longest_prefix_unique (is p lo hi) (longest_prefix_put (longest_at_is lex good ts chars p lo hi));
        })
        (length ts) 1 1 (omega arith) (omega arith)
