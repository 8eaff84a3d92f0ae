-- The scan that writes tokens: one step at each position, from the longest word found there, and the tokens written so far. Positions are
-- q + 1 and ends are e + 1, with q and e counted from 0 as in code. Assumes nothing.
use Rattle.std.specs.Prelude.{◌≡◌, refl, ◌⊎◌, List, [], ◌∷◌, ◌++◌, ℕ, suc, ◌+◌, ◌-◌, ◌≤◌, ◌<◌, get_or, take, drop, set}
use Rattle.std.proofs.Math.Path.{sym}
use Rattle.std.proofs.Common.{ap, ◌∙◌, inl, inr, ⊎_elim, append_assoc, append-nil, add-one, arith}
use Rattle.std.proofs.Common.{length-set, get_or-set_same, get_or-set_other, take-suc-set, drop-set-lt, drop-drop, get_or-take, ne_eqb}
use Rattle.std.proofs.Math.Nat.{sub-zero}
use Rattle.std.proofs.Math.ListN.{length}
use Rattle.std.proofs.Math.Seq.{length-take-le}
use Rattle.basics.specs.Bools.{le_or_lt}
use Rattle.spec.specs.Dictionary.{Lexicon}
use Rattle.spec.specs.Words.{Key, key, Entry, entry}
use Rattle.models.specs.Scan.{scan, make_index}
use Rattle.models.specs.Entries.{longest_at}
use Rattle.models.specs.Inversion.{token_entry, entries_of_tokens}
use Rattle.laws.specs.Text.Facts.{Chars, GoodLexicon}
use Rattle.laws.specs.Entries.Scan.{scan_registers, scan_passes, LongestAt}
use Rattle.laws.specs.Entries.Longest.{longest_at_is, longest_at_unique}
use Rattle.laws.specs.Entries.WordAt.{word_at_longest, none_after_lone, none_after_passes}
use Rattle.laws.specs.Build.Tokens.{Tokens}
use Rattle.laws.specs.Match.LongestWord.{Found, FoundWord}

-- ONE STEP

-- At p, with the last end `last`: if the longest entry there ends after it, it is registered and its end is the next one; else the token
-- is 0.
pub record Stepped (lex : Lexicon) (ts : List ℕ) (p last token next : ℕ) : Type 0 where
  pub known : (i : ℕ) → token ≡ suc i → (i < length lex.words) ⊎ (i ≡ 4096)
  pub within : next ≤ suc (length ts)
  pub registered :
      last < p + (longest_at lex ts p).len →
      (token_entry lex p token (get_or ts (p - 1) 0) ≡ longest_at lex ts p ∷ []) × (next ≡ p + (longest_at lex ts p).len)
  pub passed : p + (longest_at lex ts p).len ≤ last → (token ≡ 0) × (next ≡ last)

-- the entry of a word's token, and that of a lone character's
token_entry_word :
    (lex : Lexicon) (p i c : ℕ) → i < 4096 → token_entry lex p (suc i) c ≡ entry (key 0 i) p (length (get_or lex.words i [])) ∷ []
unfolding token_entry
token_entry_word lex p i c small = rw (ne_eqb i 4096 (λ (e : i ≡ 4096). omega arith))

token_entry_lone : (lex : Lexicon) (p c : ℕ) → token_entry lex p 4097 c ≡ entry (key 1 c) p 1 ∷ []
unfolding token_entry
token_entry_lone lex p c = refl

token_entry_none : (lex : Lexicon) (p c : ℕ) → token_entry lex p 0 c ≡ []
unfolding token_entry
token_entry_none lex p c = refl

entry_len : (k : Key) (p l : ℕ) → (entry k p l).len ≡ l
unfolding entry
entry_len k p l = refl

-- a character of a text to be scanned
pub record Scannable (lex : Lexicon) (ts : List ℕ) (q : ℕ) : Type 0 where
  pub good : GoodLexicon lex
  pub chars : Chars ts
  pub below : q < length ts

module _ {lex : Lexicon} {ts : List ℕ} {q : ℕ} (here : Scannable lex ts q) where
  -- any longest entry there is the one that the definition computes
  longest_is : {x : Entry} → LongestAt lex ts (q + 1) x → x ≡ longest_at lex ts (q + 1)
  longest_is {x} l = longest_at_unique lex here.good ts here.chars (omega arith) (omega arith) l

  module _ (e : ℕ) {number len : ℕ} (f : Found lex ts (q + 1) (e + 1) number len) where
    -- a word was found: its token is small, and it ends within the text
    pub step_small : (number ≡ 0 → ⊥) → number ≤ 4097
    step_small some = omega (arith, (f.some (number - 1) (omega (arith, some))).is_word.below, here.good.few)

    pub step_fits : (number ≡ 0 → ⊥) → q + len ≤ length ts
    step_fits some =
        let w : FoundWord lex ts (q + 1) (e + 1) (number - 1) len = f.some (number - 1) (omega (arith, some)) in
        omega arith

    pub step_word : (number ≡ 0 → ⊥) → Stepped lex ts (q + 1) (e + 1) number (q + len + 1)
    step_word some =
        record {
          known = λ i z. inl (omega (arith, w.is_word.below));
          within = omega (arith, w.len_is, w.is_word.stand.within);
          registered = λ h. (token, omega (arith, w.len_is, size));
          passed = λ h. absurd (omega (arith, w.after, w.len_is, size));
        }
      where
        w : FoundWord lex ts (q + 1) (e + 1) (number - 1) len
        w = f.some (number - 1) (omega (arith, some))

        same : entry (key 0 (number - 1)) (q + 1) (length (get_or lex.words (number - 1) [])) ≡ longest_at lex ts (q + 1)
        same = longest_is (word_at_longest lex here.good ts here.chars w.is_word)

        size : (longest_at lex ts (q + 1)).len ≡ length (get_or lex.words (number - 1) [])
        size =
            sym (ap (λ (x : Entry). x.len) same)
            ∙ entry_len (key 0 (number - 1)) (q + 1) (length (get_or lex.words (number - 1) []))

        token : token_entry lex (q + 1) number (get_or ts (q + 1 - 1) 0) ≡ longest_at lex ts (q + 1) ∷ []
        token =
            let back : number ≡ suc (number - 1) = omega (arith, some) in
            ap (λ (m : ℕ). token_entry lex (q + 1) m (get_or ts (q + 1 - 1) 0)) back
            ∙ token_entry_word lex (q + 1) (number - 1) (get_or ts (q + 1 - 1) 0) (omega (arith, w.is_word.below, here.good.few))
            ∙ ap (λ (x : Entry). x ∷ []) same

    -- no word was found, and the character is not covered: it is a lone character
    pub step_lone : number ≡ 0 → e ≤ q → Stepped lex ts (q + 1) (e + 1) 4097 (q + 1 + 1)
    step_lone none uncovered =
        record {
          known = λ i z. let is : i ≡ 4096 = omega arith in inr is;
          within = omega arith;
          registered = λ h. (token_entry_lone lex (q + 1) (get_or ts (q + 1 - 1) 0) ∙ ap (λ (x : Entry). x ∷ []) same, omega (arith, size));
          passed = λ h. absurd (omega (arith, size));
        }
      where
        same : entry (key 1 (get_or ts (q + 1 - 1) 0)) (q + 1) 1 ≡ longest_at lex ts (q + 1)
        same =
            longest_is
            (none_after_lone lex here.good ts here.chars (omega arith) (omega arith) (omega arith) (f.none none))

        size : (longest_at lex ts (q + 1)).len ≡ 1
        size = sym (ap (λ (x : Entry). x.len) same) ∙ entry_len (key 1 (get_or ts (q + 1 - 1) 0)) (q + 1) 1

    -- no word was found, and the character is covered
    pub step_none : number ≡ 0 → q < e → e ≤ length ts → Stepped lex ts (q + 1) (e + 1) 0 (e + 1)
    step_none none covered room =
        record {
          known = λ i z. absurd (omega arith);
          within = omega arith;
          registered = λ h. absurd (omega (arith, early));
          passed = λ h. (refl, refl);
        }
      where
        early : q + 1 + (longest_at lex ts (q + 1)).len ≤ e + 1
        early =
            none_after_passes lex here.good ts here.chars (omega arith) (f.none none)
            (longest_at_is lex here.good ts here.chars (q + 1) (omega arith) (omega arith))

-- THE SCAN

-- a step is a step of figure 1's scan
pub stepped_scans :
    {lex : Lexicon} {ts : List ℕ} {p last token next : ℕ} (n : ℕ) → Stepped lex ts p last token next →
    scan (longest_at lex ts) (suc n) p last
    ≡ token_entry lex p token (get_or ts (p - 1) 0) ++ scan (longest_at lex ts) n (suc p) next
stepped_scans {lex} {ts} {p} {last} n s =
    ⊎_elim
    (λ (h : p + (longest_at lex ts p).len ≤ last).
    scan_passes (longest_at lex ts) n p last h
    ∙ rw ((s.passed h).0, (s.passed h).1, token_entry_none lex p (get_or ts (p - 1) 0)))
    (λ (h : last < p + (longest_at lex ts p).len).
    scan_registers (longest_at lex ts) n p last h ∙ rw ((s.registered h).0, (s.registered h).1))
    (le_or_lt (p + (longest_at lex ts p).len) last)

-- one more token
token_entry_more :
    (lex : Lexicon) (p : ℕ) (ms ts : List ℕ) (m : ℕ) → length ms < length ts →
    entries_of_tokens lex p (ms ++ (m ∷ [])) ts
    ≡ entries_of_tokens lex p ms ts ++ token_entry lex (p + length ms) m (get_or ts (length ms) 0)
unfolding entries_of_tokens
token_entry_more lex p [] [] m h = absurd (omega arith)
token_entry_more lex p [] (t ∷ ts) m h =
    let here : p + 0 ≡ p = omega arith in
    rw here (append-nil (token_entry lex p m t))
token_entry_more lex p (x ∷ ms) [] m h = absurd (omega arith)
token_entry_more lex p (x ∷ ms) (t ∷ ts) m h =
    let there : suc p + length ms ≡ p + suc (length ms) = omega arith in
    rw (token_entry_more lex (suc p) ms ts m (omega arith), there)
    (sym (append_assoc (token_entry lex p x t) (entries_of_tokens lex (suc p) ms ts)
    (token_entry lex (p + suc (length ms)) m (get_or ts (length ms) 0))))

-- The first i tokens are in the work slice, whose rest is unchanged; their entries and those that the scan will register from there on
-- make up the index.
pub record Scanning (lex : Lexicon) (ts old work : List ℕ) (i e : ℕ) : Type 0 where
  pub within : i ≤ length ts
  pub end : e ≤ length ts
  pub size : length work ≡ length old
  pub rest : drop i work ≡ drop i old
  pub known : (q m : ℕ) → q < i → get_or work q 0 ≡ suc m → (m < length lex.words) ⊎ (m ≡ 4096)
  pub exact : entries_of_tokens lex 1 (take i work) ts ++ scan (longest_at lex ts) (length ts - i) (i + 1) (e + 1) ≡ make_index lex ts

module _ {lex : Lexicon} {ts old : List ℕ} where
  pub scanning_tokens_start : Scanning lex ts old old 0 0
  unfolding make_index entries_of_tokens
  scanning_tokens_start =
      record {
        within = omega arith;
        end = omega arith;
        size = refl;
        rest = refl;
        known = λ q m b z. absurd (omega arith);
        exact = rw (sub-zero (length ts));
      }

  module _ (room : length ts ≤ length old) {work : List ℕ} {i e : ℕ} (h : Scanning lex ts old work i e) where
    scanning_tokens_room : i < length ts → i < length work
    scanning_tokens_room below = omega arith

    pub scanning_tokens_step :
        {token : ℕ} (end : ℕ) → i < length ts → Stepped lex ts (i + 1) (e + 1) token (end + 1) →
        Scanning lex ts old (set work i token) (i + 1) end
    scanning_tokens_step {token} end below s =
        record {
          within = omega arith;
          end = omega arith;
          size = length-set work i token ∙ h.size;
          rest = drop-set-lt (i + 1) work i token (omega arith) ∙ sym (drop-drop 1 i work) ∙ ap (λ (l : List ℕ). drop 1 l) h.rest ∙
              drop-drop 1 i old;
          known = λ q m b z. known q m b z (le_or_lt i q);
          exact = exact;
        }
      where
        inside : i < length work
        inside = scanning_tokens_room below

        known :
            (q m : ℕ) → q < i + 1 → get_or (set work i token) q 0 ≡ suc m → (i ≤ q) ⊎ (q < i) → (m < length lex.words) ⊎ (m ≡ 4096)
        known q m b z (inl l) =
            let same : q ≡ i = omega arith in
            s.known m (sym (get_or-set_same work i token 0 inside) ∙ rw same at z)
        known q m b z (inr l) =
            h.known q m l (sym (get_or-set_other work i q token 0 (λ (x : q ≡ i). omega arith)) ∙ z)

        front : length (take i work) ≡ i
        front = length-take-le i work (omega (arith, inside))

        -- the entries of the tokens now: those before, and that of the new token
        more :
            entries_of_tokens lex 1 (take (i + 1) (set work i token)) ts
            ≡ entries_of_tokens lex 1 (take i work) ts ++ token_entry lex (i + 1) token (get_or ts (i + 1 - 1) 0)
        more =
            let position : 1 + i ≡ suc i = omega arith in
            let index : i ≡ suc i - 1 = omega arith in
            rw (add-one i, take-suc-set work i token inside)
            (token_entry_more lex 1 (take i work) ts token (omega (arith, front))
            ∙ ap (λ (x : ℕ). entries_of_tokens lex 1 (take i work) ts ++ token_entry lex (1 + x) token (get_or ts x 0)) front
            ∙ ap (λ (x : ℕ). entries_of_tokens lex 1 (take i work) ts ++ token_entry lex x token (get_or ts i 0)) position
            ∙ ap (λ (x : ℕ). entries_of_tokens lex 1 (take i work) ts ++ token_entry lex (suc i) token (get_or ts x 0)) index)

        left : length ts - i ≡ suc (length ts - (i + 1))
        left = omega arith

        exact :
            entries_of_tokens lex 1 (take (i + 1) (set work i token)) ts ++
            scan (longest_at lex ts) (length ts - (i + 1)) (i + 1 + 1) (end + 1)
            ≡ make_index lex ts
        exact =
            rw (more, add-one (i + 1))
            (append_assoc (entries_of_tokens lex 1 (take i work) ts) (token_entry lex (i + 1) token (get_or ts (i + 1 - 1) 0))
            (scan (longest_at lex ts) (length ts - (i + 1)) (suc (i + 1)) (end + 1))
            ∙ ap (λ (l : List Entry). entries_of_tokens lex 1 (take i work) ts ++ l)
            (sym (stepped_scans (length ts - (i + 1)) s))
            ∙ ap (λ (x : ℕ). entries_of_tokens lex 1 (take i work) ts ++ scan (longest_at lex ts) x (i + 1) (e + 1)) (sym left)
            ∙ h.exact)

    module _ (past : length ts ≤ i) where
      all : i ≡ length ts
      all = omega arith

      pub scanning_tokens_end : Tokens lex ts (take (length ts) work)
      unfolding scan
      scanning_tokens_end =
          record {
            len = len;
            known = λ q m b z. h.known q m (omega (arith, len)) (sym (get_or-take (length ts) work q 0 (omega (arith, len))) ∙ z);
            exact = sym (append-nil (entries_of_tokens lex 1 (take (length ts) work) ts)) ∙ end;
          }
        where
          len : length (take (length ts) work) ≡ length ts
          len = length-take-le (length ts) work (omega arith)

          end : entries_of_tokens lex 1 (take (length ts) work) ts ++ [] ≡ make_index lex ts
          end =
              let done : length ts - length ts ≡ 0 = omega arith in
              rw (all, done) at h.exact

      pub scanning_tokens_rest : drop (length ts) work ≡ drop (length ts) old
      scanning_tokens_rest = rw all at h.rest
