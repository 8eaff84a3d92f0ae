-- The calls of first against those of search and cut, and on slices with the same entries up to where it stops. Assumes nothing.
use Rattle.std.specs.Prelude.{◌≡◌, refl, true, List, [], ◌∷◌, ℕ, ◌+◌, ◌-◌, ◌≤◌, length}
use Rattle.std.proofs.Common.{sym, ◌∙◌, subst, inl, inr, ⊎_elim, arith}
use Rattle.std.proofs.Math.Path.{ap}
use Rattle.spec.specs.declared.FirstAnswer.{FirstAnswer}
use Rattle.spec.specs.Replaced.{replaced}
use Rattle.spec.specs.Dictionary.{lexicon}
use Rattle.spec.specs.Index.{readable}
use Rattle.spec.specs.Search.{find}
use Rattle.spec.specs.First.{first_of, first_position, index_to}
use Rattle.spec.specs.Cut.{cut_down}
use Rattle.spec.specs.FurtherTheorems.{CutAny}
use Rattle.spec.specs.Calls.{output_short, string_refusal, find_refusal, Answers, Puts, SearchSays, FirstSays}
use Rattle.spec.specs.RefusalTable.{Row, StringWrong, row, Meets, Accepts, Refuses, string_rows}
use Rattle.spec.specs.FirstTheorems.{SameTo, FirstCalls}
use Rattle.laws.specs.Dictionary.Answering.{or_eight}
use Rattle.laws.specs.Text.WidthFolding.{length_replaced}
use Rattle.laws.specs.Demands.Theorems.{cut_any}
use Rattle.laws.specs.First.Positions.{first_there}
use Rattle.laws.specs.First.IndexTo.{index_to_readable, index_to_same}
use Rattle.laws.specs.Demands.RefusalRows.{NoneMet, first_meets}
use Rattle.laws.specs.Demands.DemandOne.{first_demand}
use Rattle.laws.specs.Demands.Delivery.{accepts_zero, accepts_none, none_nil, none_row, none_left, output_row, none_readable}
use Rattle.laws.specs.Demands.Delivery.{none_dictionary, none_index}

-- every call of first on these numbers for this string is accepted and answers p
abbrev AnswerFirst : (g : ℕ) → (chars lengths index string : List ℕ) → (p : ℕ) → Type 0
AnswerFirst g cs ls xs s p = (f : FirstAnswer) → FirstSays g cs ls xs s f → (f.refusal ≡ 0) × (f.position ≡ p)

-- the line of a wrong string
abbrev string_row : (string : List ℕ) → List Row
string_row s = row 6 (StringWrong s) ∷ []

module _ (g : ℕ) (cs ls xs s : List ℕ) where
  abbrev first : ℕ
  first = first_position (lexicon cs ls) xs (replaced s)

  not_eight : (f : FirstAnswer) → FirstSays g cs ls xs s f → f.refusal ≡ 8 → ⊥
  not_eight f says e =
      ⊎_elim
      (λ (h : Accepts (string_rows g cs ls xs s) f.refusal (f.position ≡ first)). omega arith)
      (λ (h : Refuses (string_rows g cs ls xs s) f.refusal (f.position ≡ 0)).
      among (first_meets (string_rows g cs ls xs s) f.refusal h.first))
      ((first_demand g).firsts cs ls xs s f says)
    where
      among : Meets (string_rows g cs ls xs s) f.refusal → ⊥
      among (inl m) = omega arith
      among (inr (inl m)) = omega arith
      among (inr (inr (inl m))) = omega arith
      among (inr (inr (inr (inl m)))) = omega arith
      among (inr (inr (inr (inr (inl m))))) = omega arith
      among (inr (inr (inr (inr (inr (inl m)))))) = omega arith
      among (inr (inr (inr (inr (inr (inr m)))))) = m

  -- if no line is met
  accepts_first : NoneMet (string_rows g cs ls xs s) → AnswerFirst g cs ls xs s first
  accepts_first none f says = let a = accepts_none ((first_demand g).firsts cs ls xs s f says) none in (a.number, a.result)

-- OTHER NUMBERS

module _ (g : ℕ) (cs ls xs s : List ℕ) (none : NoneMet (string_rows g cs ls xs s)) where
  other_first :
      (ys : List ℕ) → readable g (lexicon cs ls) ys ≡ true → AnswerFirst g cs ls ys s (first_position (lexicon cs ls) ys (replaced s))
  other_first ys can =
      let six = none_row 6 (StringWrong s) [] (λ w. none 6 (inr (inr (inr (inr (inr (inl (refl, w)))))))) none_nil in
      accepts_first g cs ls ys s (none_index g cs ls ys (string_row s) (none_dictionary g cs ls xs (string_row s) none) can six)

  cut_answer : AnswerFirst g cs ls (cut_down (lexicon cs ls) xs (replaced s)) s (first_position (lexicon cs ls) xs (replaced s))
  unfolding CutAny first_position
  cut_answer f says =
      let any = cut_any g (lexicon cs ls) xs (replaced s) (none_readable g cs ls xs (string_row s) none) in
      let b = other_first (cut_down (lexicon cs ls) xs (replaced s)) any.0 f says in (b.0, b.1 ∙ ap first_of any.1)

-- a call of first that answers a position
record Finds (g : ℕ) (cs ls xs s : List ℕ) (f : FirstAnswer) : Type 0 where
  says : FirstSays g cs ls xs s f
  some : 1 ≤ f.position

module _ {g : ℕ} {cs ls xs s : List ℕ} {f : FirstAnswer} (call : Finds g cs ls xs s f) where
  accepted : Accepts (string_rows g cs ls xs s) f.refusal (f.position ≡ first_position (lexicon cs ls) xs (replaced s))
  accepted =
      ⊎_elim
      (λ (h : Accepts (string_rows g cs ls xs s) f.refusal (f.position ≡ first_position (lexicon cs ls) xs (replaced s))). h)
      (λ (h : Refuses (string_rows g cs ls xs s) f.refusal (f.position ≡ 0)). absurd (omega arith))
      ((first_demand g).firsts cs ls xs s f call.says)

  same_answer :
      {ys : List ℕ} → readable g (lexicon cs ls) ys ≡ true → SameTo (f.position + length s - 1) xs ys →
      AnswerFirst g cs ls ys s f.position
  same_answer {ys} can same h other =
      let b = other_first g cs ls xs s accepted.none_met ys can h other in (
        b.0,
        b.1 ∙ first_there (lexicon cs ls) xs ys (replaced s) f.position call.some
            (subst (λ (m : ℕ). SameTo (f.position + m - 1) xs ys) (sym (length_replaced s)) same) accepted.result,
      )

  kept_answer : AnswerFirst g cs ls (index_to (f.position + length s - 1) xs) s f.position
  kept_answer =
      let q = f.position + length s - 1 in
      let can = none_readable g cs ls xs (string_row s) accepted.none_met in
      same_answer (index_to_readable q xs g (lexicon cs ls) can) (index_to_same q xs)

pub first_calls : (g : ℕ) → FirstCalls g
unfolding FirstSays SearchSays Puts Answers find_refusal first_position
first_calls g =
    record {
      heads_search =
          λ cs ls xs s f r o z first search zero.
          let h = accepts_zero ((first_demand g).searches cs ls xs s r o z search) zero in
          let none = none_left (string_rows g cs ls xs s) (output_row (find (lexicon cs ls) xs (replaced s)) o) h.none_met in
          let a = accepts_first g cs ls xs s none f first in (a.0, a.1 ∙ ap first_of (sym h.result.front));
      refuses_as_search =
          λ cs ls xs s f r o z first search.
          let found = find (lexicon cs ls) xs (replaced s) in
          rw (first.0, search.0.0) (or_eight (string_refusal g cs ls xs s) (output_short (length found) (length o)));
      never_eight = not_eight g;
      from_same = λ cs ls xs ys s f h says some can same. same_answer (record { says = says; some = some }) can same h;
      from_kept = λ cs ls xs s f h says some. kept_answer (record { says = says; some = some }) h;
      from_cut =
          λ cs ls xs s f h r o z says cut zero other.
          let c = accepts_zero ((first_demand g).cuts cs ls xs s r o z cut) zero in
          let none = none_left (string_rows g cs ls xs s) (output_row (cut_down (lexicon cs ls) xs (replaced s)) o) c.none_met in
          let b = cut_answer g cs ls xs s none h (subst (λ (ys : List ℕ). FirstSays g cs ls ys s h) c.result.front other) in
          (b.0, b.1 ∙ sym (accepts_first g cs ls xs s none f says).1);
    }
