-- The second demand: what an accepted build wrote is exactly the published index of its replaced text, and that text is recovered from
-- it. Assumes nothing.
use Rattle.std.specs.Prelude.{◌≡◌, refl, true, List, [], ◌∷◌, ℕ, length}
use Rattle.std.proofs.Common.{sym, subst, inl, inr}
use Rattle.basics.specs.Bools.{at_most}
use Rattle.spec.specs.Replaced.{replaced}
use Rattle.spec.specs.Dictionary.{lexicon, is_text, admitted}
use Rattle.spec.specs.Numbers.{index_of}
use Rattle.spec.specs.FurtherTheorems.{TextOf}
use Rattle.spec.specs.RefusalTable.{Written, TextTooLong, WorkShort, OutputShort, row, Accepts, dictionary_rows, build_rows}
use Rattle.spec.specs.Demands.{Built, SecondDemand}
use Rattle.laws.specs.Text.Chars.{all_chars_get, replaced_is_text}
use Rattle.laws.specs.Readable.IndexOf.{n_of_index}
use Rattle.laws.specs.Demands.DemandOne.{first_demand}
use Rattle.laws.specs.Demands.Delivery.{accepts_zero, none_left, none_admitted, received_for, recovered_for}
use Rattle.laws.specs.Demands.PublishedIndex.{index_published, published_only}

module _ (g : ℕ) (cs ls ts : List ℕ) (adm : admitted cs ls ≡ true) (text : is_text g ts ≡ true) where
  index_text : TextOf g (lexicon cs ls) (index_of (lexicon cs ls) ts) ts
  index_text = record { is_a_text = text; length_is = sym (n_of_index (lexicon cs ls) ts); index_is = refl }

  index_built : Built g cs ls ts (index_of (lexicon cs ls) ts)
  index_built =
      record {
        published = index_published g cs ls ts adm text;
        only_one = published_only g cs ls ts adm text;
        is_received = received_for g cs ls adm index_text;
        is_recovered = recovered_for g cs ls adm index_text;
      }

pub second_demand : (g : ℕ) → SecondDemand g
unfolding SecondDemand
second_demand g cs ls ts r o z w v chars text says zero =
    subst (Built g cs ls (replaced ts)) (sym h.result.front) (index_built g cs ls (replaced ts) is_admitted is_a_text)
  where
    xs : List ℕ
    xs = index_of (lexicon cs ls) (replaced ts)

    h : Accepts (build_rows g cs ls ts o w) r.refusal (Written xs r o z)
    h = accepts_zero ((first_demand g).builds cs ls ts r o z w v says).0 zero

    is_admitted : admitted cs ls ≡ true
    is_admitted =
        none_admitted cs ls chars
        (none_left (dictionary_rows cs ls)
        (row 4 (TextTooLong g ts) ∷ row 7 (WorkShort (length ts) w) ∷ row 8 (OutputShort xs o) ∷ []) h.none_met)

    is_a_text : is_text g (replaced ts) ≡ true
    is_a_text =
        replaced_is_text g ts (all_chars_get ts text)
        (at_most g (length ts) (λ l. h.none_met 4 (inr (inr (inr (inr (inl (refl, l))))))))
