-- The third demand: reception accepts exactly the numbers that some text has as its index, and then searches answer as a search of that
-- text would. Assumes nothing.
use Rattle.std.specs.Prelude.{◌≡◌, refl, true, List, [], ◌∷◌, ℕ}
use Rattle.std.proofs.Common.{inl, inr, arith}
use Rattle.basics.specs.Bools.{clash}
use Rattle.spec.specs.declared.Answer.{Answer}
use Rattle.spec.specs.Dictionary.{lexicon, all_chars, admitted}
use Rattle.spec.specs.Index.{n_of, readable}
use Rattle.spec.specs.Reception.{recovered, received}
use Rattle.spec.specs.FurtherTheorems.{DemandThree}
use Rattle.spec.specs.RefusalTable.{Unreadable, WorkShort, NoText, row, Accepts, dictionary_rows, reception_rows}
use Rattle.spec.specs.Demands.{Delivered, ThirdDemand}
use Rattle.laws.specs.Demands.Theorems.{demand_three}
use Rattle.laws.specs.Demands.DemandOne.{first_demand}
use Rattle.laws.specs.Demands.Delivery.{true_put, accepts_zero, none_left, none_admitted, received_for, delivered}

module _ (g : ℕ) (cs ls xs : List ℕ) (w : List ℕ) (chars : all_chars cs ≡ true) (r : Answer)
    (h : Accepts (reception_rows g cs ls xs w) r.refusal (r.count ≡ n_of xs)) where
  is_admitted : admitted cs ls ≡ true
  is_admitted =
      none_admitted cs ls chars
      (none_left (dictionary_rows cs ls)
      (row 5 (Unreadable g (lexicon cs ls) xs) ∷ row 7 (WorkShort (n_of xs) w) ∷ row 9 (NoText g (lexicon cs ls) xs) ∷ []) h.none_met)

  can_read : readable g (lexicon cs ls) xs ≡ true
  can_read = true_put (readable g (lexicon cs ls) xs) (λ f. h.none_met 5 (inr (inr (inr (inr (inl (refl, f)))))))

  is_received : received g (lexicon cs ls) xs ≡ true
  unfolding DemandThree
  is_received =
      true_put (received g (lexicon cs ls) xs)
      (λ f.
      h.none_met 9
      (inr (inr (inr (inr (inr (inr
      (inl (refl, (can_read, λ t. clash ((demand_three g cs ls xs is_admitted).1 t.0 t.1) f))))))))))

  accepted_text : (ts : List ℕ) × Delivered g cs ls xs ts
  unfolding DemandThree
  accepted_text =
      let ts = recovered (lexicon cs ls) xs in
      (ts, delivered g cs ls is_admitted ((demand_three g cs ls xs is_admitted).0 is_received).text)

pub third_demand : (g : ℕ) → ThirdDemand g
unfolding ThirdDemand
third_demand g cs ls xs r w v chars room says = (
  λ adm text. (received_for g cs ls adm text.1 r w v (omega (arith, room)) says).0,
  λ zero.
      let h = accepts_zero ((first_demand g).receives cs ls xs r w v chars says).0 zero in
      (is_admitted g cs ls xs w chars r h, can_read g cs ls xs w chars r h, accepted_text g cs ls xs w chars r h),
)
