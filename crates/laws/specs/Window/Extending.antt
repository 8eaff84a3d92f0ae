-- The passes of the search over the offsets of a key and over the offsets above 0, each with the window in progress. Assumes nothing.
use Rattle.std.specs.Prelude.{◌≡◌, refl, List, ℕ, ◌+◌, ◌-◌, ◌≤◌, ◌<◌, length, get_or}
use Rattle.std.proofs.Common.{ap, ◌∙◌, arith}
use Rattle.std.proofs.Math.Nat.{sub-zero}
use Rattle.spec.specs.Dictionary.{Lexicon}
use Rattle.spec.specs.Numbers.{Line}
use Rattle.spec.specs.Index.{lines_in}
use Rattle.models.specs.Window.{key_all, back_all, leading_all, offset_all, offsets_all}
use Rattle.laws.specs.Search.AgreeWalk.{key_starts_apart}
use Rattle.laws.specs.Window.Window.{Within, Reaches, reaches_same, Progress, progress_start, progress_step, progress_end}
use Rattle.laws.specs.Window.WindowSearch.{key_apart, back_none, back_next, offsets_none, offsets_next, offsets_stop}

-- ONE KEY AT THE OFFSETS OF 0 AND BELOW

-- i offsets are done
pub record Backing (s k : List ℕ) (q : ℕ) (bs old rs : List ℕ) (highest i : ℕ) : Type 0 where
  pub within : i ≤ length k
  pub way : Progress (back_all (length k - i) i s k q bs) (back_all (length k) 0 s k q bs old) old rs highest

module _ {s k : List ℕ} {q : ℕ} {bs old : List ℕ} where
  pub backing_start : {max_reach : ℕ} → Within max_reach old → Backing s k q bs old old max_reach 0
  backing_start w =
      record {
        within = omega arith;
        way =
            record {
              left = ap (λ (n : ℕ). back_all n 0 s k q bs old) (sub-zero (length k));
              len = refl;
              bounded = w;
            };
      }

  module _ {rs : List ℕ} {highest i : ℕ} (h : Backing s k q bs old rs highest i) where
    pub backing_step :
        i < length k → {now : List ℕ} {max_reach : ℕ} → length now ≡ length rs → Reaches (key_all i 0 s k q bs rs) now max_reach →
        Backing s k q bs old now max_reach (i + 1)
    backing_step some {now} {max_reach} kept r =
        record {
          within = omega arith;
          way =
              progress_step (back_all (length k - (i + 1)) (i + 1) s k q bs)
              h.way
              (back_next s k q bs i some rs) kept r;
        }

    -- at an offset at which the key does not have the string's first character
    pub backing_pass : i < length k → (get_or k i 0 ≡ get_or s 0 0 → ⊥) → Backing s k q bs old rs highest (i + 1)
    backing_pass some other =
        backing_step some refl (reaches_same (key_apart i 0 s k q bs rs (key_starts_apart i s k some other)) h.way.bounded)

    pub backing_end : length k ≤ i → Reaches (back_all (length k) 0 s k q bs old) rs highest
    backing_end past =
        progress_end h.way
        (back_none s k q bs i past rs)

-- THE OFFSETS ABOVE 0

-- the offsets below o are done
pub record Offsets (lex : Lexicon) (ls : List Line) (s : List ℕ) (q : ℕ) (old rs : List ℕ) (highest o : ℕ) : Type 0 where
  pub within : o ≤ length s
  pub way : Progress (offsets_all (length s - o) o lex ls s q) (offsets_all (length s - 1) 1 lex ls s q old) old rs highest

module _ {lex : Lexicon} {ls : List Line} {s : List ℕ} {q : ℕ} {old : List ℕ} where
  pub offsets_start : {max_reach : ℕ} → 1 ≤ length s → Within max_reach old → Offsets lex ls s q old old max_reach 1
  offsets_start {max_reach} some w =
      record { within = some; way = progress_start (offsets_all (length s - 1) 1 lex ls s q) old max_reach w }

  module _ {rs : List ℕ} {highest o : ℕ} (h : Offsets lex ls s q old rs highest o) where
    pub offsets_step :
        o < length s → {now : List ℕ} {max_reach : ℕ} → length now ≡ length rs → Reaches (offset_all o lex ls s q rs) now max_reach →
        Offsets lex ls s q old now max_reach (o + 1)
    offsets_step below {now} {max_reach} kept r =
        record {
          within = omega arith;
          way =
              progress_step (offsets_all (length s - (o + 1)) (o + 1) lex ls s q)
              h.way
              (offsets_next lex ls s q o below rs) kept r;
        }

    -- all offsets are done, or no start reaches the next one
    pub offsets_end : length s ≤ o → Reaches (offsets_all (length s - 1) 1 lex ls s q old) rs highest
    offsets_end past =
        progress_end h.way
        (offsets_none lex ls s q o past rs)

    pub offsets_early : highest < o → Reaches (offsets_all (length s - 1) 1 lex ls s q old) rs highest
    offsets_early early =
        progress_end h.way (offsets_stop lex ls s q (length s - o) o rs (λ j b. omega (arith, h.way.bounded j b)))

-- ALL OFFSETS

-- a window extended by every line at every offset: the leading keys, then the offsets above 0
pub record WindowDone (lex : Lexicon) (xs s : List ℕ) (q : ℕ) (old rs : List ℕ) (max_reach : ℕ) : Type 0 where
  pub reaches :
      Reaches (offsets_all (length s - 1) 1 lex (lines_in xs) s q (leading_all lex (lines_in xs) s q old)) rs max_reach

pub offsets_after :
    {lex : Lexicon} {xs s : List ℕ} {q : ℕ} {old mid now : List ℕ} {highest max_reach : ℕ} →
    Reaches (leading_all lex (lines_in xs) s q old) mid highest →
    Reaches (offsets_all (length s - 1) 1 lex (lines_in xs) s q mid) now max_reach → WindowDone lex xs s q old now max_reach
offsets_after {lex} {xs} {s} {q} p r =
    record { reaches = record { is = r.is ∙ ap (offsets_all (length s - 1) 1 lex (lines_in xs) s q) p.is; bounded = r.bounded } }
