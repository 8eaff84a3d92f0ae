-- The calls of to_gaps and from_gaps: from the tests to the contract, one call after the other, and what meets 5. Assumes nothing.
use Rattle.std.specs.Prelude.{◌≡◌, refl, Bool, true, false, ◌⊎◌, List, ◌++◌, ℕ, ◌≤◌, length, take, drop}
use Rattle.std.proofs.Common.{sym, ap, ◌∙◌, subst, inl, inr, arith}
use Rattle.basics.specs.Bools.{clash, false_put}
use Rattle.spec.specs.declared.Answer.{Answer}
use Rattle.spec.specs.Dictionary.{lexicon, dictionary_refusal}
use Rattle.spec.specs.Index.{greatest_number, readable}
use Rattle.spec.specs.Gaps.{gaps, prefix_sums, with_lists, gap_form, restored}
use Rattle.spec.specs.GapsTheorems.{GapCalls}
use Rattle.spec.specs.Calls.{output_short, index_refusal, gaps_refusal, Answers, in_front, Puts, ToGapsSays, FromGapsSays}
use Rattle.spec.specs.RefusalTable.{dictionary_rows}
use Rattle.models.specs.Readability.{read_as}
use Rattle.models.specs.Gaps.{write_as}
use Rattle.laws.specs.Dictionary.Answering.{or_eight}
use Rattle.laws.specs.Dictionary.WordCode.{Small}
use Rattle.laws.specs.Readable.LineWalk.{readable_fits}
use Rattle.laws.specs.Readable.KeyTests.{no_refusal}
use Rattle.laws.specs.Gaps.GapLists.{length_gaps, length_sums}
use Rattle.laws.specs.Gaps.WithLists.{length_with}
use Rattle.laws.specs.Gaps.ReadLists.{read_positions, read_gaps}
use Rattle.laws.specs.Gaps.GapParts.{Writable}
use Rattle.laws.specs.Readable.IndexRefusal.{refuses_unreadable, accepts_index, index_accepted}
use Rattle.laws.specs.Search.Sizing.{SizedAfter}
use Rattle.laws.specs.Gaps.GapForms.{gaps_restored, restored_gaps, count_some, restored_fits, restored_some, totals_small, sums_small}
use Rattle.laws.specs.Demands.DemandOne.{first_demand}
use Rattle.laws.specs.Demands.RefusalRows.{NoneMet}
use Rattle.laws.specs.Demands.Delivery.{accepts_zero, accepts_none, output_row, output_none, none_readable, none_dictionary}
use Rattle.laws.specs.Demands.Delivery.{none_index}

-- FROM THE TESTS TO THE CONTRACT

-- what the writer relies on once no line is met
pub writable :
    (g : ℕ) → g ≤ greatest_number → (cs ls xs : List ℕ) (b : Bool) → Small cs → index_refusal g cs ls (with_lists (read_as b) xs) ≡ 0 →
    Writable b xs
writable g fits cs ls xs true small none =
    let a = index_accepted g cs ls (with_lists (read_as true) xs) none in
    let good = no_refusal cs ls small a.no_refusal in
    let can : readable g (lexicon cs ls) (restored xs) ≡ true = rw (← read_gaps xs) a.is_readable in
    record {
      fits = restored_fits g cs ls xs good can;
      some = restored_some g cs ls xs good can;
      totals = λ e l m. omega (arith, totals_small g cs ls xs good can l m);
      sums = λ e j. omega (arith, sums_small g cs ls xs good can j);
    }
writable g fits cs ls xs false small none =
    let a = index_accepted g cs ls (with_lists (read_as false) xs) none in
    let can : readable g (lexicon cs ls) xs ≡ true = rw (read_positions xs) at a.is_readable in
    record {
      fits = readable_fits g (lexicon cs ls) xs can;
      some = λ i below. count_some g (lexicon cs ls) xs i can below;
      totals = λ (e : ◌≡◌ {A = Bool} false true). clash e refl;
      sums = λ (e : ◌≡◌ {A = Bool} false true). clash e refl;
    }

-- the form is as long as the numbers lent
pub form_length : (b : Bool) (xs : List ℕ) → length (with_lists (write_as b) xs) ≡ length xs
form_length true xs = length_with prefix_sums (length_sums 0) xs
form_length false xs = length_with gaps (length_gaps 0) xs

-- the form at the start of the output, whose first part was lent to the writer
pub form_front :
    (b : Bool) (xs o part : List ℕ) → part ≡ with_lists (write_as b) xs →
    part ++ drop (length xs) o ≡ in_front (with_lists (write_as b) xs) o
unfolding in_front
form_front b xs o part is = rw (is, form_length b xs)

-- the contract of both directions, as the contract of each
abbrev pub FormSays : (g : ℕ) → (restore : Bool) → (chars lengths numbers : List ℕ) → Answer → (out out_now : List ℕ) → Type 0
FormSays g b cs ls xs r o z =
    SizedAfter (index_refusal g cs ls (with_lists (read_as b) xs)) (with_lists (write_as b) xs) r o z

module _ (g : ℕ) (cs ls xs : List ℕ) (r : Answer) (o z : List ℕ) where
  pub to_gaps_said : FormSays g false cs ls xs r o z → ToGapsSays g cs ls xs r o z
  unfolding ToGapsSays gap_form gaps_refusal
  to_gaps_said says = rw (read_positions xs) at says

  pub from_gaps_said : FormSays g true cs ls xs r o z → FromGapsSays g cs ls xs r o z
  unfolding FromGapsSays restored gaps_refusal
  from_gaps_said says = rw (read_gaps xs) at says

-- ONE CALL AFTER THE OTHER

-- the call is accepted and writes these numbers
abbrev Writes : (result : List ℕ) → Answer → (out_now : List ℕ) → Type 0
Writes xs r z = (r.refusal ≡ 0) × (r.count ≡ length xs) × (take r.count z ≡ xs)

-- every call of from_gaps on ds with enough output writes xs
abbrev RestoredFor : (g : ℕ) → (chars lengths gaps index : List ℕ) → Type 0
RestoredFor g cs ls ds xs = (r : Answer) (o z : List ℕ) → length xs ≤ length o → FromGapsSays g cs ls ds r o z → Writes xs r z

-- every call of to_gaps on xs with enough output writes ds
abbrev RearrangedFor : (g : ℕ) → (chars lengths index gaps : List ℕ) → Type 0
RearrangedFor g cs ls xs ds = (r : Answer) (o z : List ℕ) → length ds ≤ length o → ToGapsSays g cs ls xs r o z → Writes ds r z

module _ (g : ℕ) (cs ls : List ℕ) (none : NoneMet (dictionary_rows cs ls)) where
  restores : (xs : List ℕ) → readable g (lexicon cs ls) xs ≡ true → RestoredFor g cs ls (gap_form xs) xs
  restores xs can r o z room says =
      let index = restored (gap_form xs) in
      let back : index ≡ xs = gaps_restored g (lexicon cs ls) xs can in
      let a =
      accepts_none ((first_demand g).restores cs ls (gap_form xs) r o z says)
      (none_index g cs ls index (output_row index o) none (rw back can) (output_none index o (omega (arith, ap length back)))) in
      (a.number, a.result.count ∙ ap length back, a.result.front ∙ back)

  comes_back : (ds : List ℕ) → readable g (lexicon cs ls) (restored ds) ≡ true → RearrangedFor g cs ls (restored ds) ds
  comes_back ds can r o z room says =
      let form = gap_form (restored ds) in
      let back : form ≡ ds = restored_gaps ds in
      let a =
      accepts_none ((first_demand g).rearranges cs ls (restored ds) r o z says)
      (none_index g cs ls (restored ds) (output_row form o) none can (output_none form o (omega (arith, ap length back)))) in
      (a.number, a.result.count ∙ ap length back, a.result.front ∙ back)

-- WHAT MEETS 5

-- n is the refusal on the index, or 8 where that is 0
module _ (g : ℕ) (cs ls xs : List ℕ) (none : dictionary_refusal cs ls ≡ 0) {n : ℕ} where
  five_met :
      (index_refusal g cs ls xs ≡ n) ⊎ ((index_refusal g cs ls xs ≡ 0) × (n ≡ 8)) → readable g (lexicon cs ls) xs ≡ false → n ≡ 5
  five_met (inl e) f = sym e ∙ sym (refuses_unreadable g cs ls xs none f)
  five_met (inr (z, e)) f = absurd (omega (arith, z, refuses_unreadable g cs ls xs none f))

  five_only :
      (index_refusal g cs ls xs ≡ n) ⊎ ((index_refusal g cs ls xs ≡ 0) × (n ≡ 8)) → n ≡ 5 → readable g (lexicon cs ls) xs ≡ false
  five_only (inl e) five = false_put (readable g (lexicon cs ls) xs) (λ can. omega (arith, e, accepts_index g cs ls xs none can))
  five_only (inr (z, e)) five = absurd (omega arith)

pub gap_calls : (g : ℕ) → GapCalls g
unfolding FromGapsSays Puts Answers gaps_refusal
gap_calls g =
    record {
      restores =
          λ cs ls xs r s o z p q to zero room from.
          let h = accepts_zero ((first_demand g).rearranges cs ls xs r o z to) zero in
          let rows = output_row (gap_form xs) o in
          restores g cs ls (none_dictionary g cs ls xs rows h.none_met) xs (none_readable g cs ls xs rows h.none_met) s p q room
          (subst (λ (ds : List ℕ). FromGapsSays g cs ls ds s p q) h.result.front from);
      comes_back =
          λ cs ls ds r s o z p q from zero room to.
          let h = accepts_zero ((first_demand g).restores cs ls ds r o z from) zero in
          let index = restored ds in
          let rows = output_row index o in
          comes_back g cs ls (none_dictionary g cs ls index rows h.none_met) ds (none_readable g cs ls index rows h.none_met) s p q
          room (subst (λ (xs : List ℕ). ToGapsSays g cs ls xs s p q) h.result.front to);
      five =
          λ cs ls ds r o z none says.
          let index = restored ds in
          let late = or_eight (index_refusal g cs ls index) (output_short (length index) (length o)) in
          rw says.0.0 (five_met g cs ls index none late, five_only g cs ls index none late);
    }
