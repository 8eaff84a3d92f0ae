-- The contract of a search of a window, and of all starts, from the refusal on. Assumes nothing.
use Rattle.std.specs.Prelude.{◌≡◌, List, [], ◌∷◌, ℕ, zero, suc, ◌-◌, ◌≤◌, ◌<◌, length, take, replicate}
use Rattle.std.proofs.Math.Path.{refl}
use Rattle.std.proofs.Common.{sym, ap, ◌∙◌, subst, arith}
use Rattle.std.proofs.lemmas.List.{length-replicate}
use Rattle.spec.specs.declared.Answer.{Answer}
use Rattle.spec.specs.Replaced.{replaced}
use Rattle.spec.specs.Dictionary.{Lexicon, lexicon}
use Rattle.spec.specs.Index.{n_of, lines_in}
use Rattle.spec.specs.Search.{found_from, find}
use Rattle.spec.specs.Cut.{cut_down}
use Rattle.spec.specs.Calls.{string_refusal, find_refusal, in_front, SearchSays, CutSays}
use Rattle.models.specs.Window.{found_in, leading_all, offsets_all, count_in}
use Rattle.laws.specs.Window.Window.{Within, within_none}
use Rattle.laws.specs.Window.Extending.{WindowDone}
use Rattle.laws.specs.Window.WindowSearch.{window_found}
use Rattle.laws.specs.Window.Finding.{count_found, none_found}
use Rattle.laws.specs.Search.Sizing.{Sized, sized_short, sized_written, refused_before, sized_after}

-- the n starts from q on, searched
pub record WindowSays (lex : Lexicon) (xs s : List ℕ) (n q : ℕ) (r : Answer) (o z : List ℕ) : Type 0 where
  pub sized : Sized (found_from n q lex (lines_in xs) s) r o z

-- every reach is 0 in a cleared window
pub cleared_within : (n : ℕ) (rs : List ℕ) → rs ≡ replicate n 0 → Within 0 rs
cleared_within n rs e = rw e (within_none n)

pub cleared_part : (n k : ℕ) (rs : List ℕ) → rs ≡ replicate n 0 → k ≤ n → take k rs ≡ replicate (length (take k rs)) 0
cleared_part n k rs e h =
    rw e (part n k h ∙ ap (λ (m : ℕ). replicate {A = ℕ} m 0) (sym (ap length (part n k h) ∙ length-replicate {A = ℕ} k 0)))
  where
    part : (n k : ℕ) → k ≤ n → take k (replicate {A = ℕ} n 0) ≡ replicate {A = ℕ} k 0
    part n zero h = refl
    part zero (suc k) h = absurd (omega arith)
    part (suc n) (suc k) h = ap (λ (l : List ℕ). 0 ∷ l) (part n k (omega arith))

module _ (n : ℕ) {lex : Lexicon} {xs s : List ℕ} {q : ℕ} {old rs : List ℕ} {max_reach : ℕ} (clear : old ≡ replicate n 0)
    (done : WindowDone lex xs s q old rs max_reach) where
  -- what the window has found is what the starts find
  pub in_window : found_in (length s) q rs ≡ found_from n q lex (lines_in xs) s
  in_window =
      ap (found_in (length s) q)
      (done.reaches.is
      ∙ ap (λ (l : List ℕ). offsets_all (length s - 1) 1 lex (lines_in xs) s q (leading_all lex (lines_in xs) s q l)) clear)
      ∙ window_found lex (lines_in xs) s q n

  -- no reach comes to the string's end
  pub none_in_window : max_reach < length s → found_from n q lex (lines_in xs) s ≡ []
  none_in_window early = sym in_window ∙ none_found (length s) max_reach q rs done.reaches.bounded early

  pub says_none : max_reach < length s → {r : Answer} {o : List ℕ} → r.refusal ≡ 0 → r.count ≡ 0 → WindowSays lex xs s n q r o o
  unfolding in_front
  says_none early a b = record { sized = rw (none_in_window early) (sized_written (omega arith) a b refl) }

  -- an answer from the window is an answer for the starts
  pub says_answered : {r : Answer} {o z : List ℕ} → Sized (found_in (length s) q rs) r o z → WindowSays lex xs s n q r o z
  says_answered {r} {o} {z} h = record { sized = subst (λ (l : List ℕ). Sized l r o z) in_window h }

-- THE STARTS OF A WINDOW, counted and written

module _ (m q : ℕ) (rs : List ℕ) {count : ℕ} (e : count ≡ count_in m rs) where
  pub count_is : count ≡ length (found_in m q rs)
  count_is = e ∙ count_found m q rs

  module _ {r : Answer} {o : List ℕ} where
    pub answer_short : length o < count → r.refusal ≡ 8 → r.count ≡ 0 → Sized (found_in m q rs) r o o
    answer_short few a b = sized_short (omega (arith, count_is)) a b

    pub answer_found :
        {z : List ℕ} → count ≤ length o → z ≡ in_front (found_in m q rs) o → r.refusal ≡ 0 → r.count ≡ count →
        Sized (found_in m q rs) r o z
    answer_found enough w a b = sized_written (omega (arith, count_is)) a (b ∙ count_is) w

-- all starts at which the string fits
pub all_starts :
    {lex : Lexicon} {xs s : List ℕ} {r : Answer} {o z : List ℕ} {starts : ℕ} → starts ≡ suc (n_of xs) - length s →
    WindowSays lex xs s starts 1 r o z → Sized (find lex xs s) r o z
unfolding find
all_starts e h = rw e at h.sized

-- A CALL: refused, or answered by what is found or by the cut-down index

module _ (g : ℕ) (cs ls xs s : List ℕ) where
  module _ (o : List ℕ) {number : ℕ} (e : number ≡ string_refusal g cs ls xs s) (some : number ≡ 0 → ⊥) where
    pub search_refused : SearchSays g cs ls xs s (record { refusal = number; count = 0 }) o o
    unfolding SearchSays find_refusal
    search_refused =
        rw (← e) (refused_before (find (lexicon cs ls) xs (replaced s)) (record { refusal = number; count = 0 }) o some refl refl)

    pub cut_refused : CutSays g cs ls xs s (record { refusal = number; count = 0 }) o o
    unfolding CutSays find_refusal
    cut_refused =
        rw (← e) (refused_before (cut_down (lexicon cs ls) xs (replaced s)) (record { refusal = number; count = 0 }) o some refl refl)

  module _ (none : string_refusal g cs ls xs s ≡ 0) {r : Answer} {o z : List ℕ} where
    pub search_says : Sized (find (lexicon cs ls) xs (replaced s)) r o z → SearchSays g cs ls xs s r o z
    unfolding SearchSays find_refusal
    search_says = sized_after none

    pub cut_says : Sized (cut_down (lexicon cs ls) xs (replaced s)) r o z → CutSays g cs ls xs s r o z
    unfolding CutSays find_refusal
    cut_says = sized_after none
