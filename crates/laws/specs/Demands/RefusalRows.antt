-- The refusal number of each operation is that of the first row of its list that the call meets, and 0 if it meets none. Assumes nothing.
use Rattle.std.specs.Prelude.{◌≡◌, refl, Bool, true, false, cond, List, [], ◌∷◌, ◌++◌, ℕ, zero, suc, ◌≤◌, length}
use Rattle.std.proofs.Common.{sym, ◌∙◌, inl, inr, arith, eq-eqb, ne_eqb}
use Rattle.std.proofs.Math.Path.{subst}
use Rattle.std.proofs.lemmas.Bool.{not-false}
use Rattle.basics.specs.Bools.{Reflects, clash, not_get, and_put}
use Rattle.spec.specs.Replaced.{replaced}
use Rattle.spec.specs.Dictionary.{lexicon, all_chars, too_large, lengths_wrong, disordered, unreplaced, dictionary_refusal}
use Rattle.spec.specs.Dictionary.{admitted}
use Rattle.spec.specs.Numbers.{index_of}
use Rattle.spec.specs.Index.{n_of}
use Rattle.spec.specs.Reception.{recovered, received}
use Rattle.spec.specs.Calls.{text_too_long, unreadable, string_wrong, work_short, output_short, no_text, or_else, build_refusal}
use Rattle.spec.specs.Calls.{index_refusal, reception_refusal, recovery_refusal, string_refusal, find_refusal, gaps_refusal}
use Rattle.spec.specs.JobSheet.{run_together, lengths_of, some_string_wrong, contents_refusal}
use Rattle.spec.specs.FurtherTheorems.{DemandThree}
use Rattle.spec.specs.RefusalTable.{OutputShort, RecoveryShort, NoText, HasText, Row, row, Meets, FirstMet, Accepts, Refuses, Decides}
use Rattle.spec.specs.RefusalTable.{dictionary_rows, build_rows, index_rows, reception_rows, recovery_rows, string_rows, find_rows}
use Rattle.spec.specs.RefusalTable.{gaps_rows}
use Rattle.spec.specs.ProgramDemand.{parts_rows}
use Rattle.laws.specs.Dictionary.Answering.{or_else_some, or_else_none}
use Rattle.laws.specs.Readable.IndexRefusal.{index_accepted}
use Rattle.laws.specs.Demands.Theorems.{demand_three}
use Rattle.laws.specs.Demands.Reflects.{reflects_lt, reflects_too_large, reflects_lengths_wrong, reflects_disordered}
use Rattle.laws.specs.Demands.Reflects.{reflects_unreplaced, reflects_text, reflects_unreadable, reflects_string, reflects_finds}
use Rattle.laws.specs.Demands.Reflects.{reflects_work, reflects_output}

-- ROWS IN ORDER

abbrev pub NoneMet : List Row → Type 0
NoneMet rows = (k : ℕ) → Meets rows k → ⊥

-- n is the number of the first row that is met, 0 if none is
abbrev pub First : List Row → (n : ℕ) → Type 0
First rows n = Decides rows n Unit Unit

-- WHAT IS DECIDED

pub first_meets : (rows : List Row) (n : ℕ) → FirstMet rows n → Meets rows n
first_meets [] n h = h
first_meets (l ∷ ls) n (inl (w, e)) = inl (e, w)
first_meets (l ∷ ls) n (inr (unmet, h)) = inr (first_meets ls n h)

one_first : (rows : List Row) (m n : ℕ) → FirstMet rows m → FirstMet rows n → m ≡ n
one_first [] m n h k = absurd h
one_first (l ∷ ls) m n (inl (w, e)) (inl (v, f)) = sym e ∙ f
one_first (l ∷ ls) m n (inl (w, e)) (inr (unmet, k)) = absurd (unmet w)
one_first (l ∷ ls) m n (inr (unmet, h)) (inl (w, e)) = absurd (unmet w)
one_first (l ∷ ls) m n (inr (unmet, h)) (inr (other, k)) = one_first ls m n h k

-- the table fixes one number
pub one_number : {rows : List Row} {m n : ℕ} {A B : Type 0} → Refuses rows m A → Refuses rows n B → m ≡ n
one_number {rows} {m} {n} h k = one_first rows m n h.first k.first

-- no input is both accepted and refused
pub not_both : {rows : List Row} {m n : ℕ} {A B : Type 0} → Accepts rows m A → Refuses rows n B → ⊥
not_both {rows} {n} h k = h.none_met n (first_meets rows n k.first)

-- the decision, with what holds after an accepted call (A) and after a refused one (B)
pub decides :
    {rows : List Row} {n m : ℕ} {A B : Type 0} → First rows n → m ≡ n → (NoneMet rows → n ≡ 0 → A) → ((n ≡ 0 → ⊥) → B) →
    Decides rows m A B
decides {rows} {n} {A} {B} first e accepts refuses = subst (λ (k : ℕ). Decides rows k A B) (sym e) (ends first)
  where
    ends : First rows n → Decides rows n A B
    ends (inl h) = inl (record { none_met = h.none_met; number = h.number; result = accepts h.none_met h.number })
    ends (inr h) = inr (record { first = h.first; number = h.number; result = refuses h.number })

pub decided_number : {rows : List Row} {m n : ℕ} {A B C D : Type 0} → Decides rows m A B → Decides rows n C D → m ≡ n
decided_number (inl h) (inl k) = h.number ∙ sym k.number
decided_number (inl h) (inr k) = absurd (not_both h k)
decided_number (inr h) (inl k) = absurd (not_both k h)
decided_number (inr h) (inr k) = one_number h k

-- A ROW BY ITS TEST, AND ROWS BEFORE OTHERS

first_none : First [] 0
first_none = inl (record { none_met = λ k m. m; number = refl; result = tt })

-- a row that is not met before others
first_skip : {l : Row} {rows : List Row} {n : ℕ} → (l.when → ⊥) → First rows n → First (l ∷ rows) n
first_skip {l} {rows} {n} unmet (inl h) = inl (record { none_met = none; number = h.number; result = tt })
  where
    none : NoneMet (l ∷ rows)
    none k (inl (e, w)) = unmet w
    none k (inr m) = h.none_met k m
first_skip unmet (inr h) = inr (record { first = inr (unmet, h.first); number = h.number; result = tt })

-- a row before others, by its test
first_cond :
    (k : ℕ) {B : Type 0} (t : Bool) {rows : List Row} {n : ℕ} → 1 ≤ k → Reflects t B → (t ≡ false → First rows n) →
    First (row k B ∷ rows) (cond t k n)
first_cond k true some is rest = inr (record { first = inl (is.holds refl, refl); number = λ z. omega arith; result = tt })
first_cond k false some is rest = first_skip (is.fails refl) (rest refl)

-- rows before others
met_before : (rows more : List Row) (n : ℕ) → FirstMet rows n → FirstMet (rows ++ more) n
met_before [] more n h = absurd h
met_before (l ∷ ls) more n (inl h) = inl h
met_before (l ∷ ls) more n (inr (unmet, h)) = inr (unmet, met_before ls more n h)

first_after : (rows : List Row) {more : List Row} {n : ℕ} → NoneMet rows → First more n → First (rows ++ more) n
first_after [] none f = f
first_after (l ∷ ls) none f = first_skip (λ w. none l.returned (inl (refl, w))) (first_after ls (λ k m. none k (inr m)) f)

first_then : {rows more : List Row} {m n : ℕ} → First rows m → (m ≡ 0 → First more n) → First (rows ++ more) (or_else m n)
first_then {rows} {more} {m} {n} (inl h) rest =
    subst (First (rows ++ more)) (sym (or_else_none m n h.number)) (first_after rows h.none_met (rest h.number))
first_then {rows} {more} {m} {n} (inr h) rest =
    subst (First (rows ++ more)) (sym (or_else_some m n h.number))
    (inr (record { first = met_before rows more m h.first; number = h.number; result = tt }))

-- THE OPERATIONS

pub output_first : (ys o : List ℕ) → First (row 8 (OutputShort ys o) ∷ []) (cond (output_short (length ys) (length o)) 8 0)
output_first ys o = first_cond 8 (output_short (length ys) (length o)) (omega arith) (reflects_output ys o) (λ f. first_none)

module _ (cs ls : List ℕ) where
  pub dictionary_first : First (dictionary_rows cs ls) (dictionary_refusal cs ls)
  unfolding dictionary_refusal
  dictionary_first =
      first_cond 1 (too_large cs ls) (omega arith) (reflects_too_large cs ls)
      (λ f.
      first_cond 2 (lengths_wrong cs ls) (omega arith) (reflects_lengths_wrong cs ls)
      (λ h.
      first_cond 3 (disordered cs ls) (omega arith) (reflects_disordered cs ls)
      (λ i. first_cond 12 (unreplaced cs ls) (omega arith) (reflects_unreplaced cs ls) (λ j. first_none))))

  pub build_first : (g : ℕ) (ts o w : List ℕ) → First (build_rows g cs ls ts o w) (build_refusal g cs ls ts (length o) (length w))
  unfolding build_refusal
  build_first g ts o w =
      first_then dictionary_first
      (λ a.
      first_cond 4 (text_too_long g ts) (omega arith) (reflects_text g ts)
      (λ f.
      first_cond 7 (work_short (length ts) (length w)) (omega arith) (reflects_work (length ts) w)
      (λ h.
      output_first (index_of (lexicon cs ls) (replaced ts)) o)))

module _ (g : ℕ) (cs ls xs : List ℕ) where
  pub index_first : First (index_rows g cs ls xs) (index_refusal g cs ls xs)
  unfolding index_refusal
  index_first =
      first_then (dictionary_first cs ls)
      (λ a.
      first_cond 5 (unreadable g (lexicon cs ls) xs) (omega arith) (reflects_unreadable g (lexicon cs ls) xs)
      (λ f. first_none))

  pub string_first : (s : List ℕ) → First (string_rows g cs ls xs s) (string_refusal g cs ls xs s)
  unfolding string_refusal
  string_first s = first_then index_first (λ a. first_cond 6 (string_wrong s) (omega arith) (reflects_string s) (λ f. first_none))

  pub find_first : (s ys o : List ℕ) → First (find_rows g cs ls xs s ys o) (find_refusal g cs ls xs s (length ys) (length o))
  unfolding find_refusal
  find_first s ys o = first_then (string_first s) (λ a. output_first ys o)

  pub gaps_first : (ys o : List ℕ) → First (gaps_rows g cs ls xs ys o) (gaps_refusal g cs ls xs (length ys) (length o))
  unfolding gaps_refusal
  gaps_first ys o = first_then index_first (λ a. output_first ys o)

module _ (ws fs : List (List ℕ)) where
  pub parts_first : First (parts_rows ws fs) (contents_refusal ws fs)
  unfolding contents_refusal
  parts_first =
      first_then (dictionary_first (run_together ws) (lengths_of ws))
      (λ a. first_cond 6 (some_string_wrong fs) (omega arith) (reflects_finds fs) (λ f. first_none))

-- 8 of recovery after the lines of reception
regroup :
    (i : ℕ) (b c d : Bool) →
    or_else (or_else i (cond b 7 (cond c 9 0))) (cond d 8 0) ≡ or_else i (cond b 7 (cond c 9 (cond d 8 0)))
unfolding or_else
regroup zero true c d = refl
regroup zero false true d = refl
regroup zero false false d = refl
regroup (suc i) b c d = rw (ne_eqb (suc i) 0 (λ (e : suc i ≡ 0). omega arith), ne_eqb (suc i) 0 (λ (e : suc i ≡ 0). omega arith))

module _ (g : ℕ) (cs ls xs : List ℕ) (chars : all_chars cs ≡ true) where
  admits : index_refusal g cs ls xs ≡ 0 → admitted cs ls ≡ true
  unfolding admitted
  admits none = and_put chars (eq-eqb (dictionary_refusal cs ls) 0 (index_accepted g cs ls xs none).no_refusal)

  index_text : index_refusal g cs ls xs ≡ 0 → (received g (lexicon cs ls) xs ≡ true) → HasText g (lexicon cs ls) xs
  unfolding DemandThree
  index_text none t =
      let serves = (demand_three g cs ls xs (admits none)).0 t in
      (recovered (lexicon cs ls) xs, serves.text)

  text_index : index_refusal g cs ls xs ≡ 0 → HasText g (lexicon cs ls) xs → received g (lexicon cs ls) xs ≡ true
  unfolding DemandThree
  text_index none h = (demand_three g cs ls xs (admits none)).1 h.0 h.1

  reflects_no_text : index_refusal g cs ls xs ≡ 0 → Reflects (no_text g (lexicon cs ls) xs) (NoText g (lexicon cs ls) xs)
  unfolding no_text
  reflects_no_text none =
      record {
        holds = λ t. ((index_accepted g cs ls xs none).is_readable, λ h. clash (text_index none h) (not_get _ t));
        fails = λ f h. h.1 (index_text none (not-false _ f));
      }

  pub reception_first : (w : List ℕ) → First (reception_rows g cs ls xs w) (reception_refusal g cs ls xs (length w))
  unfolding reception_refusal
  reception_first w =
      first_then (index_first g cs ls xs)
      (λ a.
      first_cond 7 (work_short (n_of xs) (length w)) (omega arith) (reflects_work (n_of xs) w)
      (λ f.
      first_cond 9 (no_text g (lexicon cs ls) xs) (omega arith) (reflects_no_text a) (λ h. first_none)))

  reflects_recovery_short :
      index_refusal g cs ls xs ≡ 0 → no_text g (lexicon cs ls) xs ≡ false → (o : List ℕ) →
      Reflects (output_short (n_of xs) (length o)) (RecoveryShort g (lexicon cs ls) xs o)
  unfolding no_text output_short
  reflects_recovery_short none received o =
      record {
        holds = λ t. ((reflects_lt (length o) (n_of xs)).holds t, index_text none (not-false _ received));
        fails = λ f h. (reflects_lt (length o) (n_of xs)).fails f h.0;
      }

  pub recovery_first : (o w : List ℕ) → First (recovery_rows g cs ls xs o w) (recovery_refusal g cs ls xs (length o) (length w))
  unfolding recovery_refusal reception_refusal
  recovery_first o w =
      subst (First (recovery_rows g cs ls xs o w))
      (sym (regroup (index_refusal g cs ls xs) (work_short (n_of xs) (length w)) (no_text g (lexicon cs ls) xs)
      (output_short (n_of xs) (length o))))
      (first_then (index_first g cs ls xs)
      (λ a.
      first_cond 7 (work_short (n_of xs) (length w)) (omega arith) (reflects_work (n_of xs) w)
      (λ f.
      first_cond 9 (no_text g (lexicon cs ls) xs) (omega arith) (reflects_no_text a)
      (λ h.
      first_cond 8 (output_short (n_of xs) (length o)) (omega arith) (reflects_recovery_short a h o)
      (λ i. first_none)))))
