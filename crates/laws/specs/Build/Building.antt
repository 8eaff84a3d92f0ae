-- A build, from its tests to its answer: the order of the refusals, and the result from the tokens. Assumes nothing.
use Rattle.std.specs.Prelude.{◌≡◌, Bool, List, ℕ, zero, suc, ◌+◌, ◌*◌, ◌≤◌, ◌<◌, get_or, replicate}
use Rattle.std.proofs.Math.Path.{refl, sym}
use Rattle.std.proofs.Common.{ap, ◌∙◌, ⊎_elim}
use Rattle.std.proofs.Math.Bool.{true, false, cond}
use native.Mathlib.Omega.{arith}
use Rattle.std.proofs.Math.Dec.{ltb, eqb}
use Rattle.std.proofs.Math.ListN.{length}
use Rattle.std.proofs.lemmas.List.{length-replicate, get_or-replicate}
use borrow.Author.Tests.{lt-ltb, le-ltb, eq-eqb, ne_eqb, eqb-true, eqb-false}
use Rattle.basics.specs.Bools.{and_put, true_or_false, le_or_lt}
use Rattle.basics.specs.Writing.{over}
use Rattle.spec.specs.declared.Answer.{Answer}
use Rattle.spec.specs.Replaced.{replaced}
use Rattle.spec.specs.Dictionary.{Lexicon, lexicon, dictionary_refusal, admitted}
use Rattle.spec.specs.Numbers.{numbers, index_of}
use Rattle.spec.specs.Calls.{text_too_long, work_short, output_short, or_else, build_refusal, in_front, Puts, BuildSays}
use Rattle.spec.specs.Index.{header, greatest_number}
use Rattle.models.specs.Inversion.{inverted, token_numbers}
use Rattle.models.specs.Readability.{most_keys}
use Rattle.laws.specs.Text.Facts.{Chars, GoodLexicon}
use Rattle.laws.specs.Text.WidthFolding.{length_replaced, replaced_chars}
use Rattle.laws.specs.Text.Chars.{all_chars_put}
use Rattle.laws.specs.Dictionary.Lexicon.{admitted_lexicon}
use Rattle.laws.specs.Dictionary.Answering.{accepted_yes, accepted_no, answers_accepted, answers_refused, Refuses}
use Rattle.laws.specs.Numbers.Header.{SizeOf}
use Rattle.laws.specs.Numbers.Slices.{length_numbers}
use Rattle.laws.specs.Build.Tokens.{Tokens}
use Rattle.laws.specs.Build.TokenLines.{token_index}
use Rattle.laws.specs.Build.PostingChains.{lines_at, linked_threads, linked_lines, Linkable, Fresh, Links}
use Rattle.laws.specs.Build.CodeWalk.{Listable}

-- ANSWER AND OUTPUT

module _ (n : ℕ) (xs : List ℕ) (r : Answer) (o : List ℕ) {z : List ℕ} (number : r.refusal ≡ n) where
  pub puts_accepted : n ≡ 0 → r.count ≡ length xs → z ≡ over xs o → Puts n xs r o z
  unfolding Puts in_front
  puts_accepted none count put =
      (answers_accepted n (length xs) r number none count, put ∙ sym (accepted_yes n (in_front xs o) o none))

  pub puts_refused : (n ≡ 0 → ⊥) → r.count ≡ 0 → z ≡ o → Puts n xs r o z
  unfolding Puts
  puts_refused some count kept = (answers_refused n (length xs) r number some count, kept ∙ sym (accepted_no n (in_front xs o) o some))

-- THE ORDER OF THE REFUSALS

-- 8 or none, once the result's length is known
unfoldable pub output_refusal : (result output : ℕ) → ℕ
output_refusal r o = cond (output_short r o) 8 0

pub output_fits : (r o : ℕ) → r ≤ o → output_refusal r o ≡ 0
unfolding output_refusal output_short
output_fits r o h = rw (le-ltb o r h)

pub output_refused : (r o : ℕ) → o < r → output_refusal r o ≡ 8
unfolding output_refusal output_short
output_refused r o h = rw (lt-ltb o r h)

-- the refusals that need no result: 1 to 3, 12, 4, 7
unfoldable pub early_refusal : (g : ℕ) → (chars lengths text : List ℕ) → (work : ℕ) → ℕ
early_refusal g cs ls ts w = or_else (dictionary_refusal cs ls) (cond (text_too_long g ts) 4 (cond (work_short (length ts) w) 7 0))

-- the index of the text is put out, or the refusal; w is how long the work slice is
abbrev pub BuildPuts : (g : ℕ) → (chars lengths text : List ℕ) → (w : ℕ) → Answer → (out out_now : List ℕ) → Type 0
BuildPuts g cs ls ts w r o z = Puts (build_refusal g cs ls ts (length o) w) (index_of (lexicon cs ls) (replaced ts)) r o z

-- what holds if none of them is met
pub record Reached (g : ℕ) (cs ls ts : List ℕ) (w : ℕ) : Type 0 where
  pub admits : dictionary_refusal cs ls ≡ 0
  pub short : length ts ≤ g
  pub room : 8 * length ts ≤ w

module _ (g : ℕ) (cs ls ts : List ℕ) (w : ℕ) where
  pub early_dictionary : (dictionary_refusal cs ls ≡ 0 → ⊥) → early_refusal g cs ls ts w ≡ dictionary_refusal cs ls
  unfolding early_refusal or_else
  early_dictionary some = rw (ne_eqb (dictionary_refusal cs ls) 0 some)

  module _ (admits : dictionary_refusal cs ls ≡ 0) where
    pub early_text : g < length ts → early_refusal g cs ls ts w ≡ 4
    unfolding early_refusal or_else text_too_long
    early_text len = rw (eq-eqb (dictionary_refusal cs ls) 0 admits, lt-ltb g (length ts) len)

    module _ (short : length ts ≤ g) where
      pub early_work : w < 8 * length ts → early_refusal g cs ls ts w ≡ 7
      unfolding early_refusal or_else text_too_long work_short
      early_work small =
          rw (eq-eqb (dictionary_refusal cs ls) 0 admits, le-ltb g (length ts) short, lt-ltb w (8 * length ts) small)

      pub early_none : 8 * length ts ≤ w → early_refusal g cs ls ts w ≡ 0
      unfolding early_refusal or_else text_too_long work_short
      early_none room =
          rw (eq-eqb (dictionary_refusal cs ls) 0 admits, le-ltb g (length ts) short, le-ltb w (8 * length ts) room)

  pub reached : early_refusal g cs ls ts w ≡ 0 → Reached g cs ls ts w
  reached none = record { admits = admits; short = short; room = room }
    where
      admits : dictionary_refusal cs ls ≡ 0
      admits =
          ⊎_elim (λ (e : eqb (dictionary_refusal cs ls) 0 ≡ true). eqb-true (dictionary_refusal cs ls) 0 e)
          (λ (e : eqb (dictionary_refusal cs ls) 0 ≡ false). sym (early_dictionary (eqb-false (dictionary_refusal cs ls) 0 e)) ∙ none)
          (true_or_false (eqb (dictionary_refusal cs ls) 0))

      short : length ts ≤ g
      short =
          ⊎_elim (λ (h : length ts ≤ g). h) (λ (h : g < length ts). absurd (omega (arith, early_text admits h)))
          (le_or_lt (length ts) g)

      room : 8 * length ts ≤ w
      room =
          ⊎_elim (λ (h : 8 * length ts ≤ w). h) (λ (h : w < 8 * length ts). absurd (omega (arith, early_work admits short h)))
          (le_or_lt (8 * length ts) w)

  -- an early refusal is the call's refusal
  pub build_early : (o : ℕ) → (early_refusal g cs ls ts w ≡ 0 → ⊥) → build_refusal g cs ls ts o w ≡ early_refusal g cs ls ts w
  unfolding build_refusal early_refusal or_else text_too_long work_short
  build_early o some =
      go (eqb (dictionary_refusal cs ls) 0) refl (ltb g (length ts)) refl (ltb w (8 * length ts)) refl
    where
      go :
          (a : Bool) → eqb (dictionary_refusal cs ls) 0 ≡ a → (b : Bool) → ltb g (length ts) ≡ b → (c : Bool) →
          ltb w (8 * length ts) ≡ c →
          cond a (cond b 4 (cond c 7 (cond (output_short (length (index_of (lexicon cs ls) (replaced ts))) o) 8 0)))
          (dictionary_refusal cs ls)
          ≡ cond a (cond b 4 (cond c 7 0)) (dictionary_refusal cs ls)
      go false p b q c r = refl
      go true p true q c r = refl
      go true p false q true r = refl
      go true p false q false r = absurd (some (rw (p, q, r) refl))

-- without one the refusal is 8 or none
pub build_late :
    {g : ℕ} {cs ls ts : List ℕ} {w : ℕ} → Reached g cs ls ts w → (o : ℕ) →
    build_refusal g cs ls ts o w ≡ output_refusal (length (index_of (lexicon cs ls) (replaced ts))) o
unfolding build_refusal or_else text_too_long work_short output_refusal
build_late {g} {cs} {ls} {ts} {w} met o =
    rw (eq-eqb (dictionary_refusal cs ls) 0 met.admits, le-ltb g (length ts) met.short, le-ltb w (8 * length ts) met.room)

-- THE RESULT FROM THE TOKENS

-- what is answered and written for tokens: these numbers, or 8
abbrev pub TokensSay : (tokens text : List ℕ) → Answer → (out out_now : List ℕ) → Type 0
TokensSay ms ts r o z = Puts (output_refusal (length (token_numbers ms ts)) (length o)) (token_numbers ms ts) r o z

pub token_numbers_index :
    {lex : Lexicon} → GoodLexicon lex → {ts : List ℕ} → Chars ts → {ms : List ℕ} → Tokens lex ts ms →
    token_numbers ms ts ≡ index_of lex ts
unfolding token_numbers
token_numbers_index {lex} good {ts} chars {ms} tokens = token_index good chars tokens

pub fresh : (n m : ℕ) → n ≡ most_keys → m ≡ 1088 → Fresh (replicate n 0) (replicate m 0)
fresh n m e f =
    record {
      codes = length-replicate {A = ℕ} n 0 ∙ e;
      page_count = length-replicate {A = ℕ} m 0 ∙ f;
      none = λ k h. get_or-replicate n k 0 0 (omega (arith, length-replicate {A = ℕ} n 0));
    }

module _ {ts ms links heads pages : List ℕ} {keys entries : ℕ} (can : Linkable ts ms)
    (l : Links ts ms links heads pages keys entries 0) where
  pub linked_listable : Listable heads pages links
  linked_listable =
      record {
        codes = l.codes;
        paged = l.paged;
        threads = linked_threads l.linked;
        short = omega arith;
      }

  lines_are : lines_at heads links 0 ≡ inverted ms ts
  unfolding inverted
  lines_are = linked_lines l.linked most_keys l.codes

  pub linked_size : SizeOf (lines_at heads links 0) keys entries
  unfolding inverted
  linked_size =
      rw lines_are
      (record { keys_are = l.counted.keys_are; entries_are = l.counted.entries_are; keys_small = omega arith })

  pub linked_numbers : numbers (length links) (lines_at heads links 0) ≡ token_numbers ms ts
  unfolding token_numbers
  linked_numbers = rw (lines_are, l.linked.len, can.len)

  pub linked_length : header + 3 * keys + entries ≡ length (token_numbers ms ts)
  unfolding token_numbers inverted
  linked_length =
      omega (arith, length_numbers (length ts) (inverted ms ts))

  -- the answer: 8 if the output is shorter than the size, else the numbers
  module _ (o : List ℕ) where
    pub linked_room : header + 3 * keys + entries ≤ length o → length (numbers (length links) (lines_at heads links 0)) ≤ length o
    linked_room h = rw (linked_numbers, ← linked_length) h

    pub token_entry_refused :
        length o < header + 3 * keys + entries → TokensSay ms ts (record { refusal = 8; count = 0 }) o o
    token_entry_refused h =
        let eight : output_refusal (length (token_numbers ms ts)) (length o) ≡ 8 =
        output_refused (length (token_numbers ms ts)) (length o) (rw (← linked_length) h) in
        puts_refused (output_refusal (length (token_numbers ms ts)) (length o)) (token_numbers ms ts)
        (record { refusal = 8; count = 0 }) o (sym eight)
        (λ (z : output_refusal (length (token_numbers ms ts)) (length o) ≡ 0). omega arith) refl refl

    pub token_entry_put :
        (z : List ℕ) → header + 3 * keys + entries ≤ length o → z ≡ over (numbers (length links) (lines_at heads links 0)) o →
        TokensSay ms ts (record { refusal = 0; count = header + 3 * keys + entries }) o z
    token_entry_put z h e =
        let none : output_refusal (length (token_numbers ms ts)) (length o) ≡ 0 =
        output_fits (length (token_numbers ms ts)) (length o) (rw (← linked_length) h) in
        puts_accepted (output_refusal (length (token_numbers ms ts)) (length o)) (token_numbers ms ts)
        (record { refusal = 0; count = header + 3 * keys + entries }) o (sym none) none linked_length
        (e ∙ ap (λ (xs : List ℕ). over xs o) linked_numbers)

-- THE WHOLE CALL

-- a dictionary of characters that meets no line is admitted, and its lexicon is good
pub reached_admitted : (cs ls : List ℕ) → Chars cs → dictionary_refusal cs ls ≡ 0 → admitted cs ls ≡ true
unfolding admitted
reached_admitted cs ls chars none = and_put (all_chars_put cs chars) (eq-eqb (dictionary_refusal cs ls) 0 none)

pub reached_lexicon : (cs ls : List ℕ) → Chars cs → dictionary_refusal cs ls ≡ 0 → GoodLexicon (lexicon cs ls)
reached_lexicon cs ls chars none = admitted_lexicon cs ls (reached_admitted cs ls chars none)

pub tokens_linkable :
    {lex : Lexicon} → GoodLexicon lex → {ts ms : List ℕ} → Tokens lex ts ms → length ts ≤ greatest_number → Linkable ts ms
tokens_linkable {lex} good {ms} tokens short = record { len = tokens.len; short = short; small = small }
  where
    at_most : (q m : ℕ) → q < length ms → get_or ms q 0 ≡ m → m ≤ 4097
    at_most q zero h e = omega arith
    at_most q (suc i) h e =
        ⊎_elim (λ (w : i < length lex.words). omega arith) (λ (l : i ≡ 4096). omega arith) (tokens.known q i h e)

    small : (q : ℕ) → q < length ms → get_or ms q 0 ≤ 4097
    small q h = at_most q (get_or ms q 0) h refl

pub build_refused :
    (g : ℕ) (cs ls ts o : List ℕ) {number : ℕ} {r : Answer} {w v : List ℕ} → number ≡ early_refusal g cs ls ts (length w) →
    (number ≡ 0 → ⊥) → Refuses number r w v → BuildSays g cs ls ts r o o w v
unfolding BuildSays
build_refused g cs ls ts o {number} {r} {w} e some h =
    let same : build_refusal g cs ls ts (length o) (length w) ≡ number =
    build_early g cs ls ts (length w) (length o) (λ (z : early_refusal g cs ls ts (length w) ≡ 0). some (e ∙ z)) ∙ sym e in (
      puts_refused (build_refusal g cs ls ts (length o) (length w)) (index_of (lexicon cs ls) (replaced ts)) r o (h.is ∙ sym same)
          (λ (z : build_refusal g cs ls ts (length o) (length w) ≡ 0). some (sym same ∙ z)) h.nothing refl,
      h.cleared,
    )

module _ {g : ℕ} {cs ls ts : List ℕ} {w : ℕ} (met : Reached g cs ls ts w) (chars : Chars cs) {ms : List ℕ}
    (tokens : Tokens (lexicon cs ls) (replaced ts) ms) where
  -- what answers for the tokens answers for the call
  pub build_tokens :
      Chars ts → (r : Answer) (o z : List ℕ) → TokensSay ms (replaced ts) r o z →
      BuildPuts g cs ls ts w r o z
  build_tokens text r o z puts =
      rw (
        build_late met (length o),
        ← token_numbers_index (reached_lexicon cs ls chars met.admits) (replaced_chars ts text) tokens,
      )
      puts

  -- the tokens can be chained
  pub front_linkable : g ≤ greatest_number → Linkable (replaced ts) ms
  front_linkable fits =
      tokens_linkable (reached_lexicon cs ls chars met.admits) tokens (omega (arith, met.short, length_replaced ts))
