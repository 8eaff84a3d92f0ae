-- What the printing functions rely on: each printed thing in the parts in which it is written. Assumes nothing.
use Rattle.std.specs.Prelude.{◌≡◌, refl, List, [], ◌∷◌, ◌++◌, ℕ, zero, suc, ◌+◌, ◌-◌, ◌/◌, ◌%◌, ◌≤◌, ◌<◌, length, get_or, take, drop}
use Rattle.std.proofs.Common.{sym, ap, append_assoc, append-nil, ⊎_elim, arith, drop_of_length-le, take_all, lt-ltb, le-ltb, eq-eqb, ne_eqb}
use Rattle.basics.specs.Bools.{le_or_lt}
use Rattle.basics.specs.PlacedCopies.{drop_next}
use Rattle.spec.specs.Words.{Key, key}
use Rattle.spec.specs.Numbers.{line}
use Rattle.spec.specs.JobAnswer.{decimal_within, decimal, digit_byte, hexadecimal, index_head, key_word_head, key_lone_head, found_head}
use Rattle.spec.specs.JobAnswer.{refused_head, gap, opening_list, ending, ending_list, spaced, index_line, found_line, refused_line}
use Rattle.spec.specs.JobAnswer.{key_name, key_line}
use Rattle.models.specs.JobSheet.{each_spaced, listed}

-- DECIMAL NUMBERS

-- any number of steps above n gives its digits
enough_steps : (j k n : ℕ) → n < j → n < k → decimal_within j n ≡ decimal_within k n
unfolding decimal_within
enough_steps zero k n a b = absurd (omega arith)
enough_steps (suc j) zero n a b = absurd (omega arith)
enough_steps (suc j) (suc k) n a b =
    ⊎_elim
    (λ (large : 10 ≤ n). rw (le-ltb n 10 large, enough_steps j k (n / 10) (omega arith) (omega arith)))
    (λ (small : n < 10). rw (lt-ltb n 10 small))
    (le_or_lt 10 n)

pub decimal_small : (n : ℕ) → n < 10 → decimal n ≡ (48 + n % 10) ∷ []
unfolding decimal decimal_within
decimal_small n h = rw (lt-ltb n 10 h)

pub decimal_large : (n : ℕ) → 10 ≤ n → decimal n ≡ decimal (n / 10) ++ (48 + n % 10) ∷ []
unfolding decimal decimal_within
decimal_large n h =
    rw (le-ltb n 10 h) (ap (λ (ds : List ℕ). ds ++ (48 + n % 10) ∷ []) (enough_steps n (suc (n / 10)) (n / 10) (omega arith) (omega arith)))

-- HEXADECIMAL DIGITS

pub digit_byte_decimal : (v : ℕ) → v < 10 → digit_byte v ≡ 48 + v
unfolding digit_byte
digit_byte_decimal v h = rw (lt-ltb v 10 h)

pub digit_byte_letter : (v : ℕ) → 10 ≤ v → digit_byte v ≡ 55 + v
unfolding digit_byte
digit_byte_letter v h = rw (le-ltb v 10 h)

-- four digits, the highest first
pub four_digits :
    (c : ℕ) {x y z w : ℕ} → x ≡ digit_byte (c / 4096 % 16) → y ≡ digit_byte (c / 256 % 16) → z ≡ digit_byte (c / 16 % 16) →
    w ≡ digit_byte (c % 16) → x ∷ y ∷ z ∷ w ∷ [] ≡ hexadecimal c
unfolding hexadecimal
four_digits c ex ey ez ew = rw (ex, ey, ez, ew)

pub length_hexadecimal : (c : ℕ) → length (hexadecimal c) ≡ 4
unfolding hexadecimal
length_hexadecimal c = refl

-- LISTS OF POSITIONS

pub spaced_first : (p : ℕ) (ps : List ℕ) → spaced (p ∷ ps) ≡ decimal p ++ each_spaced ps
unfolding spaced each_spaced
spaced_first p [] = sym (append-nil (decimal p))
spaced_first p (q ∷ ps) = rw (spaced_first q ps) (simp append_assoc)

pub spaced_none : (ps : List ℕ) → length ps ≡ 0 → spaced ps ≡ []
unfolding spaced
spaced_none [] h = refl
spaced_none (p ∷ ps) h = absurd (omega arith)

pub spaced_some : (ps : List ℕ) → 0 < length ps → spaced ps ≡ decimal (get_or ps 0 0) ++ each_spaced (take (length ps - 1) (drop 1 ps))
spaced_some [] h = absurd (omega arith)
spaced_some (p ∷ ps) h = rw (take_all (suc (length ps) - 1) ps (omega arith)) (spaced_first p ps)

pub each_next : (ps : List ℕ) (i : ℕ) → i < length ps → each_spaced (drop i ps) ≡ (gap ++ decimal (get_or ps i 0)) ++
    each_spaced (drop (i + 1) ps)
unfolding each_spaced
each_next ps i h = rw (drop_next ps i h)

pub each_end : (ps : List ℕ) (i : ℕ) → length ps ≤ i → each_spaced (drop i ps) ≡ []
unfolding each_spaced
each_end ps i h = rw (drop_of_length-le ps h)

pub listed_parts : (ps : List ℕ) → listed ps ≡ opening_list ++ (spaced ps ++ ending_list)
unfolding listed
listed_parts ps = refl

-- LINES

pub index_line_parts :
    (n k m : ℕ) → index_line n k m ≡ index_head ++ (decimal n ++ ((gap ++ decimal k) ++ ((gap ++ decimal m) ++ ending)))
unfolding index_line
index_line_parts n k m = simp append_assoc

pub found_line_parts : (ps : List ℕ) → found_line ps ≡ found_head ++ (decimal (length ps) ++ listed ps)
unfolding found_line listed
found_line_parts ps = simp append_assoc

pub refused_line_parts : (r : ℕ) → refused_line r ≡ refused_head ++ (decimal r ++ ending)
unfolding refused_line
refused_line_parts r = simp append_assoc

pub key_line_parts : (k : Key) (ps : List ℕ) → key_line (line k ps) ≡ key_name k ++ listed ps
unfolding key_line line listed
key_line_parts k ps = simp append_assoc

pub word_name : (v : ℕ) → (k : ℕ) → k ≡ 0 → key_name (key k v) ≡ key_word_head ++ decimal v
unfolding key_name key
word_name v k e = rw (eq-eqb k 0 e)

pub lone_name : (v : ℕ) → (k : ℕ) → (k ≡ 0 → ⊥) → key_name (key k v) ≡ key_lone_head ++ hexadecimal v
unfolding key_name key
lone_name v k ne = rw (ne_eqb k 0 ne)
