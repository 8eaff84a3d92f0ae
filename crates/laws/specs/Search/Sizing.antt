-- Results that are sized before they are written, and the refusals of the operations on an index and a string. Assumes nothing.
use Rattle.std.proofs.Math.Path.{◌≡◌, refl, sym}
use Rattle.std.proofs.Common.{ap, ◌∙◌, ⊎_elim, arith, lt-ltb, le-ltb, eq-eqb, ne_eqb}
use Rattle.std.specs.Prelude.{Bool, cond, List, ltb, eqb, length, take}
use Prim.Native.Nat.{ℕ, ◌≤◌, ◌<◌}
use Rattle.basics.specs.Bools.{or_left, or_right, or_none, le_or_lt}
use Rattle.spec.specs.declared.Answer.{Answer}
use Rattle.spec.specs.Replaced.{replaced}
use Rattle.spec.specs.Calls.{string_wrong, output_short, or_else, index_refusal, string_refusal, in_front, Puts}
use Rattle.laws.specs.Text.WidthFolding.{length_replaced}
use Rattle.laws.specs.Dictionary.Answering.{or_else_some, or_else_none, accepted_yes, accepted_no, answers_accepted, answers_refused}

-- a string that may be searched for
pub record IsString (s : List ℕ) : Type 0 where
  pub some : 1 ≤ length s
  pub short : length s ≤ 256

-- the replaced string is at the start of an array of the callee's own
module _ (s own : List ℕ) (is : take (length s) own ≡ replaced s) where
  pub own_len : length s ≡ length (take (length s) own)
  own_len = sym (ap length is ∙ length_replaced s)

  pub own_string : IsString s → IsString (take (length s) own)
  own_string string = record { some = omega (arith, own_len); short = omega (arith, own_len) }

-- 8 if the output is too short for the result, else the result at its start
pub record Sized (ys : List ℕ) (r : Answer) (o z : List ℕ) : Type 0 where
  pub puts : Puts (cond (output_short (length ys) (length o)) 8 0) ys r o z

-- a refusal, and nothing written
pub refused : (n : ℕ) (ys : List ℕ) (r : Answer) (o : List ℕ) → (n ≡ 0 → ⊥) → r.refusal ≡ n → r.count ≡ 0 → Puts n ys r o o
unfolding Puts
refused n ys r o some number none =
    (answers_refused n (length ys) r number some none, sym (accepted_no n (in_front ys o) o some))

module _ {ys : List ℕ} {r : Answer} {o : List ℕ} where
  pub sized_short : length o < length ys → r.refusal ≡ 8 → r.count ≡ 0 → Sized ys r o o
  unfolding output_short
  sized_short few number none =
      let eight = refused 8 ys r o (λ (e : ◌≡◌ {A = ℕ} 8 0). omega arith) number none in
      record { puts = rw (lt-ltb (length o) (length ys) few) eight }

  pub sized_written :
      {z : List ℕ} → length ys ≤ length o → r.refusal ≡ 0 → r.count ≡ length ys → z ≡ in_front ys o → Sized ys r o z
  unfolding output_short Puts
  sized_written enough number count is =
      record {
        puts =
            rw (le-ltb (length o) (length ys) enough)
            (answers_accepted 0 (length ys) r number refl count, is ∙ sym (accepted_yes 0 (in_front ys o) o refl));
      }

-- 8 is tested last: n is the refusal before it
abbrev pub SizedAfter : (refusal : ℕ) → (result : List ℕ) → Answer → (out out_now : List ℕ) → Type 0
SizedAfter n ys r o z = Puts (or_else n (cond (output_short (length ys) (length o)) 8 0)) ys r o z

pub refused_before :
    {n : ℕ} (ys : List ℕ) (r : Answer) (o : List ℕ) → (n ≡ 0 → ⊥) → r.refusal ≡ n → r.count ≡ 0 → SizedAfter n ys r o o
unfolding or_else
refused_before {n} ys r o some number none = rw (ne_eqb n 0 some) (refused n ys r o some number none)

pub sized_after : {n : ℕ} {ys : List ℕ} {r : Answer} {o z : List ℕ} → n ≡ 0 → Sized ys r o z → SizedAfter n ys r o z
unfolding or_else
sized_after none h = rw none h.puts

-- THE REFUSALS BEFORE A RESULT: 1, 2, 3, 5, then 6

-- by the tests of a string, n the refusal of the index
module _ (n : ℕ) (s : List ℕ) where
  pub string_kept : (n ≡ 0 → ⊥) → n ≡ or_else n (cond (string_wrong s) 6 0)
  string_kept some = sym (or_else_some n (cond (string_wrong s) 6 0) some)

  module _ (none : n ≡ 0) where
    string_test : {b : Bool} → string_wrong s ≡ b → cond b 6 0 ≡ or_else n (cond (string_wrong s) 6 0)
    string_test {b} t = rw t (sym (or_else_none n (cond b 6 0) none))

    pub string_empty : length s ≡ 0 → 6 ≡ or_else n (cond (string_wrong s) 6 0)
    unfolding string_wrong
    string_empty e = string_test (or_left (ltb 256 (length s)) (eq-eqb (length s) 0 e))

    pub string_long : 256 < length s → 6 ≡ or_else n (cond (string_wrong s) 6 0)
    unfolding string_wrong
    string_long h = string_test (or_right (eqb (length s) 0) (lt-ltb 256 (length s) h))

    pub string_accepted : (length s ≡ 0 → ⊥) → length s ≤ 256 → 0 ≡ or_else n (cond (string_wrong s) 6 0)
    unfolding string_wrong
    string_accepted some short = string_test (or_none (ne_eqb (length s) 0 some) (le-ltb 256 (length s) short))

module _ (g : ℕ) (cs ls xs s : List ℕ) where
  -- so this is the refusal of the call
  pub string_number :
      {n r : ℕ} → n ≡ index_refusal g cs ls xs → r ≡ or_else n (cond (string_wrong s) 6 0) → r ≡ string_refusal g cs ls xs s
  unfolding string_refusal
  string_number index e = rw index at e

  -- without one, the index is accepted and the string may be searched for
  pub string_passes : string_refusal g cs ls xs s ≡ 0 → (index_refusal g cs ls xs ≡ 0) × IsString s
  unfolding string_refusal
  string_passes e = (none, record { some = some; short = short })
    where
      n : ℕ
      n = index_refusal g cs ls xs

      none : n ≡ 0
      none =
          ⊎_elim (λ (z : n ≤ 0). omega arith) (λ (p : 0 < n). string_kept n s (λ z. omega arith) ∙ e)
          (le_or_lt n 0)

      some : 1 ≤ length s
      some =
          ⊎_elim (λ (z : length s ≤ 0). absurd (omega (arith, string_empty n s none (omega arith) ∙ e))) (λ (p : 0 < length s). omega arith)
          (le_or_lt (length s) 0)

      short : length s ≤ 256
      short =
          ⊎_elim (λ (p : length s ≤ 256). p) (λ (z : 256 < length s). absurd (omega (arith, string_long n s none z ∙ e)))
          (le_or_lt (length s) 256)
