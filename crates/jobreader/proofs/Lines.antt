-- Where a line ends, by the place of its first LF.
use Rattle.std.proofs.Common.{◌≡◌, ℕ, zero, suc, ◌+◌, ◌≤◌, ◌<◌, List, true, false, cond, Option, Some, None, eqb, ltb, length, drop}
use Rattle.std.proofs.Common.{sym, ◌∙◌, subst, arith, unwrap_or, option_map, length-drop, get_or-drop, eqb-true, ltb-false, ⊎_elim}
use Rattle.std.specs.List.{position_or_len}
use Rattle.std.proofs.lemmas.Bool.{eqb-false}
use Rattle.std.proofs.lemmas.List.Sums.{fails_before_first, passes_at_first, prefix_len-le-length}
use Rattle.basics.specs.Bools.{true_or_false, le_or_lt}
use Rattle.spec.specs.JobSheet.{line_feed}
use Rattle.laws.specs.JobSheet.LineReading.{LineRead, LineEnd, line_start, line_step, line_ended, line_unended}

-- the bytes before the first LF of the line from `at` on
abbrev pub line_len : (s : List ℕ) → (at : ℕ) → ℕ
line_len s at = position_or_len (λ b. eqb b line_feed) (drop at s)

module _ (s : List ℕ) (at : ℕ) (inside : at ≤ length s) where
  within : line_len s at ≤ length (drop at s)
  within = prefix_len-le-length _ (drop at s)

  passed : (n : ℕ) → n ≤ line_len s at → LineRead s at (at + n)
  passed zero h = subst (LineRead s at) (omega arith) (line_start s at inside)
  passed (suc n) h =
      let no_feed = eqb-false _ line_feed (fails_before_first (λ b. eqb b line_feed) (drop at s) n 0 (omega arith)) in
      subst (LineRead s at) (omega arith)
      (line_step (passed n (omega arith)) (omega (arith, within, length-drop at s)) (λ e. no_feed (get_or-drop at s n 0 ∙ e)))

  pub line_found : LineEnd s at (at + line_len s at)
  line_found =
      ⊎_elim
      (λ (past : length (drop at s) ≤ line_len s at).
      line_unended (passed (line_len s at) (omega arith)) (omega (arith, length-drop at s)))
      (λ (below : line_len s at < length (drop at s)).
      line_ended (passed (line_len s at) (omega arith)) (omega (arith, length-drop at s))
      (sym (get_or-drop at s (line_len s at) 0)
      ∙ eqb-true _ line_feed (passes_at_first (λ b. eqb b line_feed) (drop at s) 0 below)))
      (le_or_lt (length (drop at s)) (line_len s at))

  pub line_told :
      (r : Option ℕ) → r ≡ cond (ltb (line_len s at) (length (drop at s))) (Some (line_len s at)) None →
      LineEnd s at (unwrap_or (option_map (λ n. at + n) r) (length s))
  line_told r e =
      ⊎_elim
      (λ (t : ltb (line_len s at) (length (drop at s)) ≡ true). rw (e, t) line_found)
      (λ (f : ltb (line_len s at) (length (drop at s)) ≡ false).
      rw (e, f)
      (subst (LineEnd s at) (omega (arith, within, ltb-false (line_len s at) (length (drop at s)) f, length-drop at s)) line_found))
      (true_or_false (ltb (line_len s at) (length (drop at s))))
