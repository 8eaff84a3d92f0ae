-- The walks that set the flags of the lines whose keys bear on a string: the offsets from 0 up, and those below 0. After both, the flags
-- are exact. Assumes nothing.
use Rattle.std.specs.Prelude.{◌≡◌, refl, Bool, false, cond, List, ℕ, ◌+◌, ◌-◌, ◌≤◌, ◌<◌, length, get_or}
use Rattle.std.proofs.Math.Bool.{true}
use Rattle.std.proofs.Common.{⊎_elim, arith}
use Rattle.basics.specs.Bools.{le_or_lt}
use Rattle.basics.specs.Member.{In}
use Rattle.basics.specs.Steps.{any_from_get, any_from_put, those_from_get, those_from_put}
use Rattle.spec.specs.Dictionary.{Lexicon}
use Rattle.spec.specs.Words.{spells}
use Rattle.spec.specs.Index.{keys_of, key_at}
use Rattle.spec.specs.Search.{agrees}
use Rattle.models.specs.WordStarts.{lexicon_at}
use Rattle.models.specs.Window.{agrees_leading, is_leading, leading_lines}
use Rattle.laws.specs.Search.Agree.{Agree, agrees_get, agrees_put, agree_move}
use Rattle.laws.specs.Cut.Bears.{bears_get}
use Rattle.laws.specs.Directory.Tables.{key_some}
use Rattle.laws.specs.Window.LineRanges.{SearchLines, lone_single}
use Rattle.laws.specs.Cut.ExactFlags.{bears_at, ExactFlags}
use Rattle.laws.specs.Cut.Flagging.{OnesAt, Flags, Flagging, Flagged, OffsetFlagged, flagging_start, flagging_on, flagging_list}
use Rattle.laws.specs.Cut.Flagging.{flagged_kept}
use Rattle.laws.specs.Cut.Flagging.{agrees_bears_at}

module _ (lex : Lexicon) (xs s : List ℕ) where
  -- the offsets below o are done
  pub record Offsets (old fs : List ℕ) (o : ℕ) : Type 0 where
    pub way : Flagging lex xs s old fs
    pub done : (q : ℕ) → q < o → Flagged lex xs s 0 q 0 (keys_of xs) fs

  -- the first n lines are done at every offset below 0
  pub record Backs (old fs : List ℕ) (n : ℕ) : Type 0 where
    pub way : Flagging lex xs s old fs
    pub done : (p : ℕ) → 1 ≤ p → Flagged lex xs s p 0 0 n fs

module _ {lex : Lexicon} {xs s : List ℕ} where
  -- ALL OFFSETS FROM 0 UP

  pub offsets_start : {fs : List ℕ} → Flags lex xs s fs → Offsets lex xs s fs fs 0
  offsets_start h = record { way = flagging_start h; done = λ q b. absurd (omega arith) }

  pub offsets_next :
      {old fs now : List ℕ} {o : ℕ} → Offsets lex xs s old fs o → OffsetFlagged lex xs s o 0 (keys_of xs) fs now →
      Offsets lex xs s old now (o + 1)
  offsets_next {o} h next =
      record {
        way = flagging_on h.way next.way;
        done =
            λ q b.
            ⊎_elim (λ (p : o ≤ q). let e : q ≡ o = omega arith in rw e next.done)
            (λ (p : q < o). flagged_kept 0 q 0 (keys_of xs) next.way (omega arith) (h.done q p)) (le_or_lt o q);
      }

  -- ALL OFFSETS BELOW 0

  -- the listed lines have all of these
  pub backs_leading :
      {w : ℕ} {is fs now : List ℕ} → is ≡ leading_lines 1 lex xs s w → Flags lex xs s fs → OnesAt is fs now → Backs lex xs s fs now w
  unfolding leading_lines agrees_leading
  backs_leading {w} {is} {fs} {now} e h ones =
      record { way = flagging_list h ones bear; done = λ p l i a b t. omega (arith, ones.listed i (there p l i b t)) }
    where
      bear : (i : ℕ) → In i is → bears_at lex xs s i ≡ true
      bear i m =
          let leading = those_from_get w 0 (is_leading 1 lex xs s) i (rw e at m) in
          let k = spells lex (key_at xs i) in
          let some = any_from_get (length k - 1) 1 (λ (p : ℕ). agrees s p k 0) leading.2 in
          agrees_bears_at lex xs s some.0 0 i some.3

      there : (p : ℕ) → 1 ≤ p → (i : ℕ) → i < w → agrees s p (spells lex (key_at xs i)) 0 ≡ true → In i is
      there p l i b t =
          let k = spells lex (key_at xs i) in
          let overlap = agrees_get s p k 0 t in
          rw e
          (those_from_put w 0 (is_leading 1 lex xs s) i (omega arith) (omega arith)
          (any_from_put (length k - 1) 1 (λ (q : ℕ). agrees s q k 0) p l (omega arith) t))

-- the lines of a search, and the flags set so far
pub record FlagsLines (cs ws xs s : List ℕ) (w : ℕ) (fs : List ℕ) : Type 0 where
  pub lines : SearchLines cs ws xs s w
  pub flags : Flags (lexicon_at cs ws) xs s fs

module _ {cs ws xs s : List ℕ} {w : ℕ} (on : SearchLines cs ws xs s w) {old mid fs : List ℕ}
    (backs : Backs (lexicon_at cs ws) xs s old mid w) (offsets : Offsets (lexicon_at cs ws) xs s mid fs (length s)) where
  abbrev key : ℕ → List ℕ
  key i = spells (lexicon_at cs ws) (key_at xs i)

  module _ (i : ℕ) (below : i < keys_of xs) where
    ahead : {a b : ℕ} → a ≤ b → Agree s a (key i) b → 1 ≤ get_or fs i 0
    ahead {a} {b} l h =
        offsets.done (b - a) (omega arith) i (omega arith) below
        (agrees_put s 0 (key i) (b - a) (agree_move 0 (b - a) (omega arith) h))

    -- a lone character does not start before the string
    back : {a b : ℕ} → b < a → Agree s a (key i) b → 1 ≤ get_or fs i 0
    back {a} {b} l h =
        ⊎_elim (λ (p : w ≤ i). absurd (omega (arith, lone_single on.reads.can on.split i p below)))
        (λ (p : i < w).
        omega (
          arith,
          backs.done (a - b) (omega arith) i (omega arith) p (agrees_put s (a - b) (key i) 0 (agree_move (a - b) 0 (omega arith) h)),
          offsets.way.kept i below,
        ))
        (le_or_lt w i)

    found : bears_at (lexicon_at cs ws) xs s i ≡ true → 1 ≤ get_or fs i 0
    found t =
        let h = bears_get (key i) s (key_some on.reads.can i below) on.string.some t in
        ⊎_elim (λ (l : h.0 ≤ h.1). ahead l h.2) (λ (l : h.1 < h.0). back l h.2)
        (le_or_lt h.0 h.1)

    by_test : (t : Bool) → bears_at (lexicon_at cs ws) xs s i ≡ t → get_or fs i 0 ≡ cond t 1 0
    by_test true t = omega (arith, found t, rw t at (offsets.way.flags.sound i below))
    by_test false t = omega (arith, rw t at (offsets.way.flags.sound i below))

  -- the flags are exact
  pub flags_exact_flags : ExactFlags (lexicon_at cs ws) xs s (keys_of xs) fs
  flags_exact_flags =
      record { room = offsets.way.flags.room; at = λ i b. by_test i b (bears_at (lexicon_at cs ws) xs s i) refl }
