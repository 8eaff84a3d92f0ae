-- The scan of a text that lies behind its tokens: in the n numbers of the work slice after those that take the tokens, from where it is
-- lent to each step. Assumes nothing.
use Rattle.std.specs.Prelude.{◌≡◌, List, ℕ, ◌+◌, ◌*◌, ◌-◌, ◌≤◌, ◌<◌, length, take, drop, set}
use Rattle.std.proofs.Common.{sym, ap, ◌∙◌, arith, length-drop, drop-drop, length-take-le}
use Rattle.spec.specs.Dictionary.{Lexicon}
use Rattle.laws.specs.Text.Facts.{Chars}
use Rattle.laws.specs.Build.Tokens.{Tokens}
use Rattle.laws.specs.Build.ScanTokens.{Stepped, Scanning, scanning_tokens_start, scanning_tokens_step, scanning_tokens_end}
use Rattle.laws.specs.Build.ScanTokens.{scanning_tokens_rest}

pub behind_start : {lex : Lexicon} {old : List ℕ} (n : ℕ) → Scanning lex (take n (drop n old)) old old 0 0
behind_start n = scanning_tokens_start

module _
    {lex : Lexicon} {old work : List ℕ} {i e : ℕ} (n : ℕ) (room : 2 * n ≤ length old)
    (h : Scanning lex (take n (drop n old)) old work i e) where
  len : length (take n (drop n old)) ≡ n
  len = length-take-le n (drop n old) (omega (arith, length-drop n old))

  -- the text stays
  kept : take (2 * n - n) (drop n work) ≡ take n (drop n old)
  kept =
      let sum : i + (n - i) ≡ n = omega (arith, len) in
      let once : 2 * n - n ≡ n = omega arith in
      rw once
      (ap (λ (l : List ℕ). take n l)
      (ap (λ (k : ℕ). drop k work) (sym sum)
      ∙ sym (drop-drop (n - i) i work)
      ∙ ap (λ (l : List ℕ). drop (n - i) l) h.rest
      ∙ drop-drop (n - i) i old
      ∙ ap (λ (k : ℕ). drop k old) sum))

  pub behind_chars : Chars (take n (drop n old)) → Chars (take (2 * n - n) (drop n work))
  behind_chars chars = rw kept chars

  pub behind_below : i < n → i < length (take (2 * n - n) (drop n work))
  behind_below below = rw kept (omega (arith, len))

  pub behind_end_within : e ≤ length (take (2 * n - n) (drop n work))
  behind_end_within = rw kept h.end

  pub behind_room : i < n → i < length work
  behind_room below = omega (arith, room)

  pub behind_step :
      {token : ℕ} (end : ℕ) → i < n → Stepped lex (take (2 * n - n) (drop n work)) (i + 1) (e + 1) token (end + 1) →
      Scanning lex (take n (drop n old)) old (set work i token) (i + 1) end
  behind_step {token} end below s =
      scanning_tokens_step (omega (arith, len)) h end (omega (arith, len)) (rw kept at s)

  module _ (past : n ≤ i) where
    pub behind_tokens : Tokens lex (take n (drop n old)) (take n work)
    behind_tokens =
        rw len at (scanning_tokens_end (omega (arith, len)) h (omega (arith, len)))

    pub behind_rest : drop n work ≡ drop n old
    behind_rest =
        rw len at (scanning_tokens_rest (omega (arith, len)) h (omega (arith, len)))
