-- Source 000's extension of index items is containment by position, and its claims 1 and 2 hold. Assumes nothing.
use Rattle.std.specs.Prelude.{◌≡◌, refl, ◌⊎◌, List, ℕ, suc, ◌+◌, ◌-◌, ◌≤◌, ◌<◌, length}
use Rattle.std.proofs.Common.{sym, ap, ◌∙◌, inl, inr, ⊎_elim, arith, lt-ltb, ltb-true}
use Rattle.basics.specs.Member.{In}
use Rattle.spec.specs.Dictionary.{Lexicon, is_char, lexicon}
use Rattle.spec.specs.Words.{Key, spells, Entry, entry, entries}
use Rattle.spec.specs.Published.{IsWord, ExtendsWord, Item, item, IsItem, Extends, maximal_items, item_of, SameIndex, PartialOrder}
use Rattle.spec.specs.Published.{Claim1, Claim2}
use Rattle.laws.specs.Text.Strings.{stands_get, stands_put}
use Rattle.laws.specs.Text.Overlaps.{stand_within, stand_unique}
use Rattle.laws.specs.Text.Facts.{entry_eq, Chars, GoodLexicon, IsKey, IsEntry, Contains, IsMaximal}
use Rattle.laws.specs.Text.Chars.{is_text_get}
use Rattle.laws.specs.Dictionary.Lexicon.{admitted_lexicon}
use Rattle.laws.specs.Dictionary.Keys.{IsWordKey, IsLoneKey, key_kinds, spells_lone, spells_in, is_word_get, is_word_put}
use Rattle.laws.specs.Dictionary.Keys.{keys_distinct, spells_some, word_spelt, char_key}
use Rattle.laws.specs.Entries.Entries.{entries_get, entries_put}
use Rattle.laws.specs.Entries.Maximal.{in_maximal, maximal_or_longer}

pub item_path : (i j : Item) → i.word ≡ j.word → i.position ≡ j.position → i ≡ j
item_path i j p q = λ x. record { word = p x; position = q x }

-- WORDS AND KEYS

pub key_word : {lex : Lexicon} {k : Key} → IsKey lex k → IsWord lex (spells lex k)
unfolding IsWord is_char
key_word {lex} {k} h =
    ⊎_elim (λ (w : IsWordKey lex k). inl (is_word_put lex (spells lex k) (spells_in lex k w)))
    (λ (c : IsLoneKey lex k). inr (k.value, lt-ltb k.value 65536 c.char, spells_lone lex k c.kind_is))
    (key_kinds lex k h)

pub word_key : (lex : Lexicon) (w : List ℕ) → IsWord lex w → (k : Key) × IsKey lex k × (spells lex k ≡ w)
unfolding IsWord is_char
word_key lex w (inl t) = word_spelt lex w (is_word_get lex w t)
word_key lex w (inr c) =
    let (k, h, s) = char_key lex c.0 (ltb-true c.0 65536 c.1) in
    (k, h, s ∙ sym c.2)

pub word_some : {lex : Lexicon} → GoodLexicon lex → (w : List ℕ) → IsWord lex w → 1 ≤ length w
word_some {lex} good w h =
    let (k, hk, s) = word_key lex w h in
    rw s at (spells_some good k hk)

-- ITEMS AND ENTRIES

pub entry_item : {lex : Lexicon} {ts : List ℕ} {e : Entry} → IsEntry lex ts e → IsItem lex ts (item_of lex e)
unfolding item_of item
entry_item {lex} {ts} {e} h =
    record { is_word = key_word h.is_key; stand = stands_put (spells lex e.key_of) ts e.at h.stand }

pub item_entry :
    {lex : Lexicon} {ts : List ℕ} {i : Item} → IsItem lex ts i → (e : Entry) × IsEntry lex ts e × (item_of lex e ≡ i)
unfolding item_of item entry
item_entry {lex} {ts} {i} h =
    let (k, hk, s) = word_key lex i.word h.is_word in (
      entry k i.position (length (spells lex k)),
      record { is_key = hk; len_is = refl; stand = rw s (stands_get i.word ts i.position h.stand) },
      item_path (item (spells lex k) i.position) i s refl,
    )

-- containment by position is enough for extension: an item that lies within another in the text has its word within the other's word
pub nested_extends :
    {lex : Lexicon} {ts : List ℕ} {i j : Item} → IsItem lex ts i → IsItem lex ts j → i.position ≤ j.position →
    j.position + length j.word ≤ i.position + length i.word → Extends i j
unfolding ExtendsWord
nested_extends {ts} {i} {j} hi hj starts ends =
    record {
      extends_word = (
        suc (j.position - i.position),
        stands_put j.word i.word (suc (j.position - i.position)) (stand_within (stands_get j.word ts j.position hj.stand)
            (stands_get i.word ts i.position hi.stand) starts ends),
      );
      starts = starts;
      ends = ends;
    }

pub contains_extends :
    {lex : Lexicon} {ts : List ℕ} {e f : Entry} → IsEntry lex ts e → IsEntry lex ts f → Contains e f →
    Extends (item_of lex e) (item_of lex f)
unfolding item_of item
contains_extends {lex} {ts} {e} {f} he hf c =
    nested_extends (entry_item he) (entry_item hf) c.starts (omega arith)

pub extends_contains :
    {lex : Lexicon} {ts : List ℕ} {e f : Entry} → IsEntry lex ts e → IsEntry lex ts f →
    Extends (item_of lex e) (item_of lex f) → Contains e f
unfolding item_of item
extends_contains he hf x =
    record { starts = x.starts; ends = omega arith }

pub item_of_unique :
    {lex : Lexicon} → GoodLexicon lex → {ts : List ℕ} {e f : Entry} → IsEntry lex ts e → IsEntry lex ts f →
    item_of lex e ≡ item_of lex f → e ≡ f
unfolding item_of item
item_of_unique {lex} good {e} {f} he hf p =
    let spelt : spells lex e.key_of ≡ spells lex f.key_of = ap (λ (i : Item). i.word) p in
    entry_eq e f (keys_distinct good he.is_key hf.is_key spelt)
    (ap (λ (i : Item). i.position) p) (he.len_is ∙ ap length spelt ∙ sym hf.len_is)

-- DEFINITION 7

module _ {lex : Lexicon} (good : GoodLexicon lex) {ts : List ℕ} where
  pub maximal_item : {e : Entry} → IsMaximal lex ts e → maximal_items lex ts (item_of lex e)
  maximal_item {e} h = record { member = entry_item h.is_entry; alone = alone }
    where
      alone : (j : Item) → IsItem lex ts j → Extends j (item_of lex e) → j ≡ item_of lex e
      alone j hj x =
          let (f, hf, s) = item_entry hj in
          let same : f ≡ e = h.alone f hf (extends_contains hf h.is_entry (rw s x)) in
          sym s ∙ ap (item_of lex) same

  pub item_maximal : {e : Entry} → IsEntry lex ts e → maximal_items lex ts (item_of lex e) → IsMaximal lex ts e
  item_maximal {e} he h =
      record {
        is_entry = he;
        alone =
            λ f hf c.
            item_of_unique good hf he (h.alone (item_of lex f) (entry_item hf) (contains_extends hf he c));
      }

pub same_index : (g : ℕ) → SameIndex g
unfolding SameIndex
same_index g cs ls ts a t = (from, to)
  where
    good : GoodLexicon (lexicon cs ls)
    good = admitted_lexicon cs ls a

    chars : Chars ts
    chars = (is_text_get g ts t).0

    from :
        (i : Item) → maximal_items (lexicon cs ls) ts i →
        (e : Entry) × In e (entries (lexicon cs ls) ts) × (item_of (lexicon cs ls) e ≡ i)
    from i h =
        let (e, he, s) = item_entry h.member in
        (e, entries_put (lexicon cs ls) good ts chars (item_maximal good he (rw s h)), s)

    to : (e : Entry) → In e (entries (lexicon cs ls) ts) → maximal_items (lexicon cs ls) ts (item_of (lexicon cs ls) e)
    to e m = maximal_item good (entries_get (lexicon cs ls) good ts chars e m)

-- THE CLAIMS

pub partial_order : PartialOrder
unfolding PartialOrder
partial_order lex ts i j k hi hj hk = (
  nested_extends hi hi (omega arith) (omega arith),
  λ x y. nested_extends hi hk (omega arith) (omega arith),
  λ x y.
      let position : i.position ≡ j.position = omega arith in
      item_path i j
      (stand_unique (rw position at (stands_get i.word ts i.position hi.stand))
      (stands_get j.word ts j.position hj.stand) (omega arith))
      position,
)

module _ {lex : Lexicon} (good : GoodLexicon lex) {ts : List ℕ} (chars : Chars ts) where
  -- every item has an extension among the maximal ones
  pub item_extended : {i : Item} → IsItem lex ts i → (j : Item) × maximal_items lex ts j × Extends j i
  item_extended {i} h =
      let (e, he, s) = item_entry h in
      let (f, hf, c) = in_maximal lex good ts chars he in
      (item_of lex f, maximal_item good hf, rw s at (contains_extends hf.is_entry he c))

  -- an item is maximal itself, or has an extension among the maximal ones
  pub maximal_or_extended :
      {i : Item} → IsItem lex ts i → maximal_items lex ts i ⊎ ((j : Item) × maximal_items lex ts j × Extends j i)
  maximal_or_extended {i} h =
      let (e, he, s) = item_entry h in
      ⊎_elim (λ (m : IsMaximal lex ts e). inl (rw s at (maximal_item good m)))
      (λ (l : (f : Entry) × IsEntry lex ts f × Contains f e × (e.len < f.len)). inr (item_extended h))
      (maximal_or_longer lex good ts chars he)

pub claim_1 : (g : ℕ) → Claim1 g
unfolding Claim1 item
claim_1 g cs ls ts a t w n hw hn =
    maximal_or_extended (admitted_lexicon cs ls a) (is_text_get g ts t).0 (record { is_word = hw; stand = hn })

pub claim_2 : (g : ℕ) → Claim2 g
unfolding Claim2 item
claim_2 g cs ls ts a t w hw p hp =
    let (j, hj, x) = item_extended good (is_text_get g ts t).0 (record { is_word = hw; stand = hp }) in
    record {
      of = j;
      member = hj;
      word_in = record { is_word = hj.member.is_word; extends_word = x.extends_word };
      starts = x.starts;
      ends = omega (arith, word_some good w hw);
    }
  where
    good : GoodLexicon (lexicon cs ls)
    good = admitted_lexicon cs ls a
