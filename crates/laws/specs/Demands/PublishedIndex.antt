-- A text's index, as numbers, holds exactly the pairs of the published definition, and is the only readable slice of the text's
-- length that does. Assumes nothing.
use Rattle.std.specs.Prelude.{◌≡◌, refl, true, List, ℕ}
use Rattle.std.proofs.Math.Path.{ap, subst}
use Rattle.std.proofs.Common.{◌∙◌}
use Rattle.basics.specs.Member.{In}
use Rattle.spec.specs.Dictionary.{Lexicon, is_text, lexicon, admitted}
use Rattle.spec.specs.Words.{Key, spells, Entry, entries}
use Rattle.spec.specs.Numbers.{index_of}
use Rattle.spec.specs.FurtherTheorems.{Among, Under, Tells, OnlyReadable}
use Rattle.spec.specs.Published.{Item, item, maximal_items, item_of, SameIndex}
use Rattle.spec.specs.Demands.{Holds, PublishedIndex}
use Rattle.laws.specs.Text.Facts.{GoodLexicon, IsKey}
use Rattle.laws.specs.Text.Chars.{is_text_get}
use Rattle.laws.specs.Dictionary.Lexicon.{admitted_lexicon}
use Rattle.laws.specs.Dictionary.Keys.{keys_distinct}
use Rattle.laws.specs.Entries.Entries.{entries_get}
use Rattle.laws.specs.Published.Extension.{same_index}
use Rattle.laws.specs.Readable.Readable.{readable_get}
use Rattle.laws.specs.Demands.Theorems.{only_readable}

key_under : {g : ℕ} {lex : Lexicon} {ts ys : List ℕ} → PublishedIndex g lex ts ys → (k : Key) (p : ℕ) → Under k p ys → IsKey lex k
unfolding Under
key_under {g} {lex} {ys} h k p (l, m, e, i) = subst (IsKey lex) e ((readable_get g lex ys h.can_read).lines.each l m).is_key

module _ (g : ℕ) (cs ls ts : List ℕ) (adm : admitted cs ls ≡ true) (text : is_text g ts ≡ true) where
  abbrev lex : Lexicon
  lex = lexicon cs ls

  good : GoodLexicon lex
  good = admitted_lexicon cs ls adm

  -- the pairs of definition 7 are the entries
  from : (i : Item) → maximal_items lex ts i → (e : Entry) × In e (entries lex ts) × (item_of lex e ≡ i)
  unfolding SameIndex
  from = (same_index g cs ls ts adm text).0

  to : (e : Entry) → In e (entries lex ts) → maximal_items lex ts (item_of lex e)
  unfolding SameIndex
  to = (same_index g cs ls ts adm text).1

  tells : Tells g lex ts (index_of lex ts)
  unfolding OnlyReadable
  tells = (only_readable g cs ls ts adm text).0

  pub index_published : PublishedIndex g lex ts (index_of lex ts)
  unfolding Among item_of
  index_published = record { can_read = tells.can_read; n_is = tells.n_is; only = only; all = all }
    where
      only : (i : Item) → Holds lex (index_of lex ts) i → maximal_items lex ts i
      only i (k, p, u, e) =
          let (f, m, a, b) = tells.only k p u in
          subst (maximal_items lex ts) (ap (λ (j : Key). item (spells lex j) f.at) a ∙ ap (item (spells lex k)) b ∙ e) (to f m)

      all : (i : Item) → maximal_items lex ts i → Holds lex (index_of lex ts) i
      all i h =
          let (e, m, s) = from i h in
          (e.key_of, e.at, tells.all e.key_of e.at (e, m, refl, refl), s)

  key_among : (e : Entry) → In e (entries lex ts) → IsKey lex e.key_of
  key_among e m = (entries_get lex good ts (is_text_get g ts text).0 e m).is_entry.is_key

  -- a readable slice that is the published index has the keys of the text's entries: keys that spell the same are the same
  module _ (ys : List ℕ) (h : PublishedIndex g lex ts ys) where
    published_tells : Tells g lex ts ys
    unfolding Among item_of item
    published_tells = record { can_read = h.can_read; n_is = h.n_is; only = only; all = all }
      where
        only : (k : Key) (p : ℕ) → Under k p ys → Among k p (entries lex ts)
        only k p u =
            let (e, m, s) = from (item (spells lex k) p) (h.only (item (spells lex k) p) (k, p, u, refl)) in (
              e,
              m,
              keys_distinct good (key_among e m) (key_under h k p u) (ap (λ (i : Item). i.word) s),
              ap (λ (i : Item). i.position) s,
            )

        all : (k : Key) (p : ℕ) → Among k p (entries lex ts) → Under k p ys
        all k p (e, m, a, b) =
            let (j, q, u, s) = h.all (item_of lex e) (to e m) in
            let same : j ≡ k =
            keys_distinct good (key_under h j q u) (key_among e m) (ap (λ (i : Item). i.word) s) ∙ a in
            let position : q ≡ p = ap (λ (i : Item). i.position) s ∙ b in
            subst (λ (x : Key). Under x p ys) same (subst (λ (x : ℕ). Under j x ys) position u)

    pub published_only : ys ≡ index_of lex ts
    unfolding OnlyReadable
    published_only = (only_readable g cs ls ts adm text).1 ys published_tells
