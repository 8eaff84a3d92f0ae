-- Words that stand at the same position are prefixes of each other, so ascending words ascend by length there. Assumes nothing.
use Rattle.std.specs.Prelude.{◌≡◌, refl, true, List, [], ◌∷◌, ℕ, suc, ◌≤◌, ◌<◌, length, get_or}
use Rattle.std.proofs.Common.{sym, ◌∙◌, ⊎_elim, arith}
use Rattle.basics.specs.Bools.{clash, le_or_lt}
use Rattle.spec.specs.Dictionary.{word_before, ascend}
use Rattle.laws.specs.Text.Strings.{Stand}
use Rattle.laws.specs.Text.Overlaps.{stand_at, stand_unique}
use Rattle.laws.specs.Dictionary.WordOrder.{word_before_self, word_before_rest, word_before_trans, ascend_get}

-- "a proper prefix first"
pub prefix_before :
    (v w : List ℕ) → length v < length w → ((i : ℕ) → i < length v → get_or v i 0 ≡ get_or w i 0) → word_before v w ≡ true
unfolding word_before
prefix_before v [] l same = absurd (omega arith)
prefix_before [] (y ∷ ys) l same = refl
prefix_before (x ∷ xs) (y ∷ ys) l same =
    word_before_rest x y xs ys (same 0 (omega arith)) (prefix_before xs ys (omega arith) (λ i b. same (suc i) (omega arith)))

-- two strings at the same position are equal up to the end of the shorter
pub standing_agree :
    {v w ts : List ℕ} {p : ℕ} (i : ℕ) → Stand v ts p → Stand w ts p → i < length v → i < length w → get_or v i 0 ≡ get_or w i 0
standing_agree {v} {w} {ts} {p} i h k b c = stand_at i h b ∙ sym (stand_at i k c)

pub standing_before :
    {v w ts : List ℕ} {p : ℕ} → Stand v ts p → Stand w ts p → length v < length w → word_before v w ≡ true
standing_before {v} {w} {ts} {p} h k l = prefix_before v w l (λ i b. standing_agree i h k b (omega arith))

-- of two words at the same position the later in the dictionary is the longer
pub standing_ascend :
    (ws : List (List ℕ)) → ascend ws ≡ true → {ts : List ℕ} {p : ℕ} (i j : ℕ) → i < j → j < length ws → Stand (get_or ws i []) ts p →
    Stand (get_or ws j []) ts p → length (get_or ws i []) < length (get_or ws j [])
standing_ascend ws t {ts} {p} i j h b si sj =
    ⊎_elim
    (λ (l : length (get_or ws j []) ≤ length (get_or ws i [])).
    ⊎_elim
    (λ (m : length (get_or ws i []) ≤ length (get_or ws j [])).
    let same : get_or ws i [] ≡ get_or ws j [] = stand_unique si sj (omega arith) in
    clash (ascend_get ws t i j h b) (rw same (word_before_self (get_or ws j []))))
    (λ (m : length (get_or ws j []) < length (get_or ws i [])).
    clash
    (word_before_trans (get_or ws i []) (get_or ws j []) (get_or ws i []) (ascend_get ws t i j h b)
    (standing_before sj si m))
    (word_before_self (get_or ws i []))) (le_or_lt (length (get_or ws i [])) (length (get_or ws j []))))
    (λ (l : length (get_or ws i []) < length (get_or ws j [])). l) (le_or_lt (length (get_or ws j [])) (length (get_or ws i [])))
