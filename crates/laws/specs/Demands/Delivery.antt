-- What the calls say about numbers that are the index of a text, under an admitted dictionary: reception and recovery accept, and so do
-- search, first and cut, and search and first on what cut wrote. Assumes nothing.
use Rattle.std.specs.Prelude.{◌≡◌, refl, Bool, true, false, List, [], ◌∷◌, ◌++◌, ℕ, ◌*◌, ◌≤◌, ◌<◌, eqb, length}
use Rattle.std.proofs.Math.Path.{sym, subst}
use Rattle.std.proofs.Common.{ap, ◌∙◌, inl, inr, ⊎_elim, arith, eq-eqb, eqb-true}
use Rattle.basics.specs.Bools.{clash, and_put, and_left, and_right}
use Rattle.spec.specs.Replaced.{replaced}
use Rattle.spec.specs.Dictionary.{lexicon, all_chars, dictionary_refusal, admitted}
use Rattle.spec.specs.Index.{n_of, readable}
use Rattle.spec.specs.Reception.{recovered, received}
use Rattle.spec.specs.Search.{find}
use Rattle.spec.specs.First.{first_position}
use Rattle.spec.specs.Cut.{cut_down}
use Rattle.spec.specs.Theorems.{Query}
use Rattle.spec.specs.FurtherTheorems.{TextOf, ExactlyPositions, FirstStands, Serves, DemandThree}
use Rattle.spec.specs.RefusalTable.{Written, Unreadable, StringWrong, WorkShort, OutputShort, RecoveryShort, NoText, Row, row, Accepts}
use Rattle.spec.specs.RefusalTable.{Decides, dictionary_rows, index_rows, reception_rows, string_rows}
use Rattle.spec.specs.Demands.{ReceivedFor, RecoveredFor, FoundFor, FirstFor, CutFor, Delivered}
use Rattle.laws.specs.Receive.Received.{received_reads}
use Rattle.laws.specs.Demands.Theorems.{demand_three}
use Rattle.laws.specs.Demands.RefusalRows.{NoneMet, first_meets, dictionary_first}
use Rattle.laws.specs.Demands.DemandOne.{first_demand}

-- ROWS THAT ARE NOT MET

-- a Boolean that can't be false is true
pub true_put : (b : Bool) → (b ≡ false → ⊥) → b ≡ true
true_put true h = refl
true_put false h = absurd (h refl)

module _ {rows : List Row} {n : ℕ} {A B : Type 0} where
  pub accepts_zero : Decides rows n A B → n ≡ 0 → Accepts rows n A
  accepts_zero (inl h) z = h
  accepts_zero (inr h) z = absurd (h.number z)

  pub accepts_none : Decides rows n A B → NoneMet rows → Accepts rows n A
  accepts_none (inl h) none = h
  accepts_none (inr h) none = absurd (none n (first_meets rows n h.first))

pub none_nil : NoneMet []
none_nil k m = m

pub none_row : (n : ℕ) (W : Type 0) (rows : List Row) → (W → ⊥) → NoneMet rows → NoneMet (row n W ∷ rows)
none_row n W rows unmet none k (inl m) = unmet m.1
none_row n W rows unmet none k (inr m) = none k m

pub none_left : (rows more : List Row) → NoneMet (rows ++ more) → NoneMet rows
none_left [] more none k m = m
none_left (l ∷ rows) more none k (inl m) = none k (inl m)
none_left (l ∷ rows) more none k (inr m) = none_left rows more (λ j h. none j (inr h)) k m

pub none_both : (rows more : List Row) → NoneMet rows → NoneMet more → NoneMet (rows ++ more)
none_both [] more a b k m = b k m
none_both (l ∷ rows) more a b k (inl m) = a k (inl m)
none_both (l ∷ rows) more a b k (inr m) = none_both rows more (λ j h. a j (inr h)) b k m

-- the line of a too short output
abbrev pub output_row : (result out : List ℕ) → List Row
output_row ys o = row 8 (OutputShort ys o) ∷ []

pub output_none : (ys o : List ℕ) → length ys ≤ length o → NoneMet (output_row ys o)
output_none ys o room = none_row 8 (OutputShort ys o) [] (λ short. omega arith) none_nil

module _ (cs ls : List ℕ) where
  pub none_admitted : all_chars cs ≡ true → NoneMet (dictionary_rows cs ls) → admitted cs ls ≡ true
  unfolding admitted
  none_admitted chars none =
      and_put chars (eq-eqb (dictionary_refusal cs ls) 0 (accepts_none (dictionary_first cs ls) none).number)

  pub admitted_none : admitted cs ls ≡ true → NoneMet (dictionary_rows cs ls)
  unfolding admitted
  admitted_none a =
      (accepts_zero (dictionary_first cs ls)
      (eqb-true (dictionary_refusal cs ls) 0 (and_right (all_chars cs) (eqb (dictionary_refusal cs ls) 0) a))).none_met

-- calls on an index, whatever lines follow those of the index
module _ (g : ℕ) (cs ls xs : List ℕ) (rows : List Row) where
  -- if none is met the index is readable and the dictionary accepted
  pub none_readable : NoneMet (index_rows g cs ls xs ++ rows) → readable g (lexicon cs ls) xs ≡ true
  none_readable none = true_put (readable g (lexicon cs ls) xs) (λ f. none 5 (inr (inr (inr (inr (inl (refl, f)))))))

  pub none_dictionary : NoneMet (index_rows g cs ls xs ++ rows) → NoneMet (dictionary_rows cs ls)
  none_dictionary none = none_left (dictionary_rows cs ls) (row 5 (Unreadable g (lexicon cs ls) xs) ∷ rows) none

  -- and the other way
  pub none_index :
      NoneMet (dictionary_rows cs ls) → readable g (lexicon cs ls) xs ≡ true → NoneMet rows → NoneMet (index_rows g cs ls xs ++ rows)
  none_index none can later =
      none_both (index_rows g cs ls xs) rows
      (none_both (dictionary_rows cs ls) (row 5 (Unreadable g (lexicon cs ls) xs) ∷ []) none
      (none_row 5 (Unreadable g (lexicon cs ls) xs) [] (λ f. clash can f) none_nil))
      later

-- NUMBERS OF A TEXT

module _ (g : ℕ) (cs ls : List ℕ) (adm : admitted cs ls ≡ true) where
  chars : all_chars cs ≡ true
  unfolding admitted
  chars = and_left (all_chars cs) (eqb (dictionary_refusal cs ls) 0) adm

  -- readable numbers and a query meet no line of first
  none_string : (xs : List ℕ) {s : List ℕ} → readable g (lexicon cs ls) xs ≡ true → Query s → NoneMet (string_rows g cs ls xs s)
  none_string xs {s} can q =
      none_index g cs ls xs (row 6 (StringWrong s) ∷ []) (admitted_none cs ls adm) can
      (none_row 6 (StringWrong s) []
      (⊎_elim (λ (e : length s ≡ 0). omega arith) (λ (l : 256 < length s). omega arith)) none_nil)

  -- any readable numbers whose search gives the string's positions in a text
  found_for :
      (xs : List ℕ) {ts s : List ℕ} → readable g (lexicon cs ls) xs ≡ true → Query s →
      ExactlyPositions (replaced s) ts (find (lexicon cs ls) xs (replaced s)) → FoundFor g cs ls xs ts s
  found_for xs {ts} {s} can q exactly r o z room says =
      let found = find (lexicon cs ls) xs (replaced s) in
      let h =
      accepts_none ((first_demand g).searches cs ls xs s r o z says)
      (none_both (string_rows g cs ls xs s) (output_row found o) (none_string xs can q)
      (output_none found o (omega (arith, room, ap length exactly.are_positions)))) in (
        h.number,
        subst (λ (ps : List ℕ). Written ps r o z) exactly.are_positions h.result,
        subst (ExactlyPositions (replaced s) ts) (sym h.result.front) exactly,
      )

  -- any readable numbers whose first position is the first at which the string stands
  first_for :
      (xs : List ℕ) {ts s : List ℕ} → readable g (lexicon cs ls) xs ≡ true → Query s →
      FirstStands (replaced s) ts (first_position (lexicon cs ls) xs (replaced s)) → FirstFor g cs ls xs ts s
  first_for xs {ts} {s} can q stands r says =
      let h = accepts_none ((first_demand g).firsts cs ls xs s r says) (none_string xs can q) in
      (h.number, subst (FirstStands (replaced s) ts) (sym h.result) stands)

  module _ {xs ts : List ℕ} (text : TextOf g (lexicon cs ls) xs ts) where
    is_received : received g (lexicon cs ls) xs ≡ true
    unfolding DemandThree
    is_received = (demand_three g cs ls xs adm).1 ts text

    can : readable g (lexicon cs ls) xs ≡ true
    can = received_reads g (lexicon cs ls) xs is_received

    is_recovered : recovered (lexicon cs ls) xs ≡ ts
    unfolding DemandThree
    is_recovered = sym (((demand_three g cs ls xs adm).0 is_received).only_text ts text)

    serves : Serves g (lexicon cs ls) xs ts
    unfolding DemandThree
    serves = subst (Serves g (lexicon cs ls) xs) is_recovered ((demand_three g cs ls xs adm).0 is_received)

    -- 9 is not met
    none_nine : NoneMet (row 9 (NoText g (lexicon cs ls) xs) ∷ [])
    none_nine = none_row 9 (NoText g (lexicon cs ls) xs) [] (λ h. h.1 (ts, text)) none_nil

    none_reception : (w : List ℕ) → 8 * length ts ≤ length w → NoneMet (reception_rows g cs ls xs w)
    none_reception w room =
        none_index g cs ls xs (row 7 (WorkShort (n_of xs) w) ∷ row 9 (NoText g (lexicon cs ls) xs) ∷ []) (admitted_none cs ls adm) can
        (none_row 7 (WorkShort (n_of xs) w) (row 9 (NoText g (lexicon cs ls) xs) ∷ []) (λ l. omega (arith, room)) none_nine)

    pub received_for : ReceivedFor g cs ls xs ts
    received_for r w v room says =
        let h = accepts_none ((first_demand g).receives cs ls xs r w v chars says).0 (none_reception w room) in
        (h.number, h.result ∙ sym text.length_is)

    pub recovered_for : RecoveredFor g cs ls xs ts
    recovered_for r o z w v room fits says =
        let h =
        accepts_none ((first_demand g).recovers cs ls xs r o z w v chars says).0
        (none_both (reception_rows g cs ls xs w) (row 8 (RecoveryShort g (lexicon cs ls) xs o) ∷ []) (none_reception w room)
        (none_row 8 (RecoveryShort g (lexicon cs ls) xs o) [] (λ l. omega (arith, fits)) none_nil)) in
        (h.number, subst (λ (us : List ℕ). Written us r o z) is_recovered h.result)

    -- numbers equal to the cut-down index give its answers
    cut_found :
        {s ys : List ℕ} → Query s → ys ≡ cut_down (lexicon cs ls) xs (replaced s) →
        FoundFor g cs ls ys ts s × FirstFor g cs ls ys ts s
    cut_found {s} q e =
        let cut = cut_down (lexicon cs ls) xs (replaced s) in
        subst (λ (zs : List ℕ). FoundFor g cs ls zs ts s × FirstFor g cs ls zs ts s) (sym e) (
          found_for cut (serves.cut_readable s q) q (serves.cut_exact s q),
          first_for cut (serves.cut_readable s q) q (serves.cut_first_exact s q),
        )

    cut_for : (s : List ℕ) → Query s → CutFor g cs ls xs ts s
    cut_for s q r o z room says =
        let cut = cut_down (lexicon cs ls) xs (replaced s) in
        let h =
        accepts_none ((first_demand g).cuts cs ls xs s r o z says)
        (none_both (string_rows g cs ls xs s) (output_row cut o) (none_string xs can q) (output_none cut o room)) in
        let found = cut_found q h.result.front in (h.number, h.result, found.0, found.1)

    pub delivered : Delivered g cs ls xs ts
    delivered =
        record {
          text = text;
          only_text = serves.only_text;
          is_recovered = recovered_for;
          searched = λ s q. found_for xs can q (serves.search_exact s q);
          first = λ s q. first_for xs can q (serves.first_exact s q);
          cut = cut_for;
          accepted_cut =
              λ s q r o z says zero. cut_found q (accepts_zero ((first_demand g).cuts cs ls xs s r o z says) zero).result.front;
        }
