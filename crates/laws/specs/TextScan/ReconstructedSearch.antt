-- Search in the text that entries reconstruct over a sentinel, a character absent from the string: if every entry stands in the
-- reconstructed text, the string is found exactly where it stands there. Assumes nothing.
use Rattle.std.specs.Prelude.{◌≡◌, Bool, true, ◌⊎◌, List, ℕ, suc, ◌+◌, ◌-◌, ◌≤◌, ◌<◌, length, get_or, replicate}
use Rattle.std.proofs.Common.{sym, ap, ◌∙◌, subst, inl, inr, arith}
use Rattle.std.proofs.lemmas.List.{length-replicate, get_or-replicate}
use Rattle.basics.specs.Absent.{LeastAbsent, absent_at, least_one}
use Rattle.basics.specs.Bools.{Reflects}
use Rattle.basics.specs.Member.{In}
use Rattle.basics.specs.Steps.{those_from}
use Rattle.spec.specs.declared.Answer.{Answer}
use Rattle.spec.specs.Dictionary.{Lexicon}
use Rattle.spec.specs.Words.{spells, stands, Entry}
use Rattle.spec.specs.Numbers.{Line}
use Rattle.spec.specs.Index.{lines_in}
use Rattle.spec.specs.Search.{found_from}
use Rattle.models.specs.Entries.{flat}
use Rattle.models.specs.Window.{found_in}
use Rattle.models.specs.Reception.{reconstruct, reconstructed_over}
use Rattle.laws.specs.Text.Strings.{Stand}
use Rattle.laws.specs.Text.Facts.{AllStand}
use Rattle.laws.specs.Numbers.Flat.{flat_len}
use Rattle.laws.specs.Search.Search.{OccurrencesCovered, all_stand_found}
use Rattle.laws.specs.Search.Sizing.{Sized}
use Rattle.laws.specs.Window.Searching.{WindowSays}
use Rattle.laws.specs.TextScan.ZSearch.{PrefixLengths, found_prefixes}
use Rattle.laws.specs.Receive.Reconstruction.{length_reconstruct, reconstruct_either}

pub length_reconstructed : (lex : Lexicon) (ls : List Line) (n g : ℕ) → length (reconstructed_over lex ls n g) ≡ n
length_reconstructed lex ls n g = length_reconstruct lex (flat lex ls) (replicate {A = ℕ} n g) ∙ length-replicate {A = ℕ} n g

-- what lines reconstruct over a sentinel, and whether every entry of theirs stands in it
pub record Checked (lex : Lexicon) (ls : List Line) (n g : ℕ) (ts : List ℕ) (t : Bool) : Type 0 where
  pub is : ts ≡ reconstructed_over lex ls n g
  pub shown : Reflects t (AllStand lex ls ts)

-- the window finds what the index has there
abbrev pub Finds : Lexicon → (index string reaches : List ℕ) → Type 0
Finds lex xs s rs = found_in (length s) 1 rs ≡ found_from (length rs) 1 lex (lines_in xs) s

module _ {lex : Lexicon} {ls : List Line} {n g : ℕ} {ts : List ℕ} {t : Bool} (text : Checked lex ls n g ts t) (yes : t ≡ true) (s : List ℕ)
    (absent : In g s → ⊥) where
  text_len : length ts ≡ n
  text_len = ap length text.is ∙ length_reconstructed lex ls n g

  -- where the string stands, no position has the sentinel
  reconstructed_covers : OccurrencesCovered lex ls ts s
  reconstructed_covers = record { all = text.shown.holds yes; cover = cover }
    where
      cover :
          (p : ℕ) → Stand s ts p → (x : ℕ) → p ≤ x → x < p + length s →
          (e : Entry) × In e (flat lex ls) × (e.at ≤ x) × (x < e.at + e.len)
      cover p st x lo hi = by_position (reconstruct_either lex (flat lex ls) (replicate {A = ℕ} n g) (x - 1))
        where
          by_position :
              (get_or (reconstructed_over lex ls n g) (x - 1) 0 ≡ get_or (replicate {A = ℕ} n g) (x - 1) 0)
              ⊎ ((e : Entry) × In e (flat lex ls) × (e.at - 1 ≤ x - 1) × (x - 1 < e.at - 1 + length (spells lex e.key_of))) →
              (e : Entry) × In e (flat lex ls) × (e.at ≤ x) × (x < e.at + e.len)
          by_position (inl bare) =
              let within : x - 1 < n = omega (arith, text_len) in
              let here = ap (λ (us : List ℕ). get_or us (x - 1) 0) text.is in
              absurd
              (absent_at s g absent (x - p) (omega arith)
              (st.equal x lo hi ∙ here ∙ bare ∙ get_or-replicate {A = ℕ} n (x - 1) g 0 within))
          by_position (inr on) =
              let from : 1 ≤ on.0.at = (text.shown.holds yes on.0 on.1).from in (
                on.0,
                on.1,
                omega arith,
                omega (arith, flat_len lex ls on.0 on.1),
              )

  -- If every entry stands in the reconstructed text, the string is found exactly where it stands there.
  pub reconstructed_found : (k : ℕ) → k ≤ suc n - length s → found_from k 1 lex ls s ≡ those_from k 1 (stands s ts)
  reconstructed_found k few = all_stand_found reconstructed_covers k (omega (arith, text_len))

  -- So its prefix lengths there find what the lines have.
  pub reconstructed_finds :
      (rs : List ℕ) → length rs + length s ≤ suc n → PrefixLengths s ts rs →
      found_in (length s) 1 rs ≡ found_from (length rs) 1 lex ls s
  reconstructed_finds rs room told =
      found_prefixes s ts rs (omega (arith, room, text_len)) told ∙ sym (reconstructed_found (length rs) (omega arith))

-- A text of n characters filled with the sentinel and written over is the reconstruction over the sentinel.
pub reconstructed_sentinel :
    (lex : Lexicon) (ls : List Line) (g : ℕ) {m n : ℕ} {mid now : List ℕ} → mid ≡ replicate m g → m ≡ n →
    now ≡ reconstruct lex (flat lex ls) mid → now ≡ reconstructed_over lex ls n g
reconstructed_sentinel lex ls g filled len e =
    e ∙ ap (reconstruct lex (flat lex ls)) (filled ∙ ap (λ (k : ℕ). replicate {A = ℕ} k g) len)

-- The sentinel is the least number absent from the string, and there is only one.
pub reconstructed_once :
    {lex : Lexicon} {ls : List Line} {n : ℕ} {s ts : List ℕ} {h : ℕ} {t r : Bool} → LeastAbsent s h → Checked lex ls n h ts t → t ≡ r →
    (g : ℕ) → LeastAbsent s g → Checked lex ls n g ts r
reconstructed_once {lex} {ls} {n} {ts} {r} least text answer g also =
    record {
      is = text.is ∙ ap (reconstructed_over lex ls n) (least_one least also);
      shown = subst (λ (b : Bool). Reflects b (AllStand lex ls ts)) answer text.shown;
    }

-- THE CONTRACT OF A SEARCH

-- the answer from a window that finds what the index has
pub says_told :
    {lex : Lexicon} {xs s : List ℕ} {n : ℕ} (rs : List ℕ) {r : Answer} {o z : List ℕ} → Finds lex xs s rs → length rs ≡ n →
    Sized (found_in (length s) 1 rs) r o z → WindowSays lex xs s n 1 r o z
says_told {lex} {xs} {s} rs {r} {o} {z} finds len h =
    let same = finds ∙ ap (λ (k : ℕ). found_from k 1 lex (lines_in xs) s) len in
    record { sized = subst (λ (l : List ℕ). Sized l r o z) same h }

-- an unchanged window is still clear
pub still_clear : (old now : List ℕ) → now ≡ old → old ≡ replicate (length old) 0 → now ≡ replicate (length now) 0
still_clear old now e clear = e ∙ clear ∙ ap (λ (l : List ℕ). replicate {A = ℕ} (length l) 0) (sym e)
