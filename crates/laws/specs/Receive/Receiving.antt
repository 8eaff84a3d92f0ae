-- Reception and recovery, from their tests to their answers: the order of the refusals, and the contract of each call. Assumes nothing.
use Rattle.std.specs.Prelude.{◌≡◌, Bool, List, ℕ, ◌*◌, ◌≤◌, ◌<◌, length, take}
use Rattle.std.proofs.Math.Path.{refl, sym}
use Rattle.std.proofs.Common.{◌∙◌, ⊎_elim, arith, length-take-le}
use Rattle.std.proofs.Math.Bool.{true, false, cond}
use Rattle.std.proofs.Math.Dec.{ltb, eqb}
use borrow.Author.Tests.{lt-ltb, le-ltb, eq-eqb, ne_eqb, eqb-true, eqb-false}
use Rattle.basics.specs.Bools.{true_or_false, le_or_lt}
use Rattle.basics.specs.Writing.{over, placed_over}
use Rattle.basics.specs.Placed.{Wrote}
use Rattle.spec.specs.declared.Answer.{Answer}
use Rattle.spec.specs.Dictionary.{lexicon, dictionary_refusal}
use Rattle.spec.specs.Index.{header, n_of, readable}
use Rattle.spec.specs.Reception.{recovered, received}
use Rattle.spec.specs.Calls.{work_short, no_text, or_else, index_refusal, reception_refusal, recovery_refusal, in_front, zeros, Puts}
use Rattle.spec.specs.Calls.{ReceiveSays, RecoverSays}
use Rattle.laws.specs.Numbers.Slices.{Fits}
use Rattle.laws.specs.Readable.LineWalk.{readable_fits}
use Rattle.laws.specs.Dictionary.Answering.{answers_accepted, answers_refused, Refuses}
use Rattle.laws.specs.Readable.IndexRefusal.{accepts_index, index_accepted}
use Rattle.laws.specs.Build.Building.{puts_accepted, puts_refused, output_refusal, output_fits, output_refused}

-- THE ORDER OF THE REFUSALS

-- a refusal, or 7 for a work slice too short
unfoldable pub or_work_short : (refusal : ℕ) (index : List ℕ) (work : ℕ) → ℕ
or_work_short refusal xs w = or_else refusal (cond (work_short (n_of xs) w) 7 0)

-- the refusals that need no reconstruction: 1 to 3, 12, 5, 7
abbrev pub delivery_refusal : (g : ℕ) → (chars lengths index : List ℕ) → (work : ℕ) → ℕ
delivery_refusal g cs ls xs w = or_work_short (index_refusal g cs ls xs) xs w

module _ (refusal : ℕ) (xs : List ℕ) (w : ℕ) where
  pub short_refused : (refusal ≡ 0 → ⊥) → refusal ≡ or_work_short refusal xs w
  unfolding or_work_short or_else
  short_refused some = rw (ne_eqb refusal 0 some)

  module _ (none : refusal ≡ 0) where
    pub short_work : w < 8 * n_of xs → 7 ≡ or_work_short refusal xs w
    unfolding or_work_short or_else work_short
    short_work short = rw (eq-eqb refusal 0 none, lt-ltb w (8 * n_of xs) short)

    pub short_none : 8 * n_of xs ≤ w → 0 ≡ or_work_short refusal xs w
    unfolding or_work_short or_else work_short
    short_none room = rw (eq-eqb refusal 0 none, le-ltb w (8 * n_of xs) room)

-- what holds if none of them is met
pub record Delivered (g : ℕ) (cs ls xs : List ℕ) (w : ℕ) : Type 0 where
  pub admits : dictionary_refusal cs ls ≡ 0
  pub can_read : readable g (lexicon cs ls) xs ≡ true
  pub fits : Fits xs
  pub room : 8 * n_of xs ≤ w

pub delivery_header : (g : ℕ) (cs ls xs : List ℕ) → index_refusal g cs ls xs ≡ 0 → header ≤ length xs
delivery_header g cs ls xs none = (readable_fits g (lexicon cs ls) xs (index_accepted g cs ls xs none).is_readable).has_header

module _ (g : ℕ) (cs ls xs : List ℕ) (w : ℕ) where
  -- by the refusal of an opened index
  pub opened_delivery :
      {refusal early : ℕ} → refusal ≡ index_refusal g cs ls xs → early ≡ or_work_short refusal xs w → early ≡ delivery_refusal g cs ls xs w
  opened_delivery number e = rw number at e

  -- an early refusal is the call's refusal
  pub reception_early :
      (number : ℕ) → number ≡ delivery_refusal g cs ls xs w → (number ≡ 0 → ⊥) → reception_refusal g cs ls xs w ≡ number
  unfolding reception_refusal or_work_short or_else work_short
  reception_early number e some = go (eqb (index_refusal g cs ls xs) 0) refl (ltb w (8 * n_of xs)) refl ∙ sym e
    where
      go :
          (a : Bool) → eqb (index_refusal g cs ls xs) 0 ≡ a → (b : Bool) → ltb w (8 * n_of xs) ≡ b →
          cond a (cond b 7 (cond (no_text g (lexicon cs ls) xs) 9 0)) (index_refusal g cs ls xs)
          ≡ cond a (cond b 7 0) (index_refusal g cs ls xs)
      go false p b q = refl
      go true p true q = refl
      go true p false q = absurd (some (e ∙ rw (p, q) refl))

  module _ (none : delivery_refusal g cs ls xs w ≡ 0) where
    no_index_refusal : index_refusal g cs ls xs ≡ 0
    no_index_refusal =
        ⊎_elim (λ (e : eqb (index_refusal g cs ls xs) 0 ≡ true). eqb-true (index_refusal g cs ls xs) 0 e)
        (λ (e : eqb (index_refusal g cs ls xs) 0 ≡ false). short_refused (index_refusal g cs ls xs) xs w
        (eqb-false (index_refusal g cs ls xs) 0 e) ∙ none)
        (true_or_false (eqb (index_refusal g cs ls xs) 0))

    pub delivered : Delivered g cs ls xs w
    delivered =
        let a = index_accepted g cs ls xs no_index_refusal in
        record {
          admits = a.no_refusal;
          can_read = a.is_readable;
          fits = readable_fits g (lexicon cs ls) xs a.is_readable;
          room =
              ⊎_elim (λ (h : 8 * n_of xs ≤ w). h)
              (λ (h : w < 8 * n_of xs). absurd (omega (arith, short_work (index_refusal g cs ls xs) xs w no_index_refusal h)))
              (le_or_lt (8 * n_of xs) w);
        }

  -- a refusal of reception is recovery's; else recovery's is 8 or none
  module _ (o : ℕ) where
    pub recovery_early : (reception_refusal g cs ls xs w ≡ 0 → ⊥) → recovery_refusal g cs ls xs o w ≡ reception_refusal g cs ls xs w
    unfolding recovery_refusal or_else
    recovery_early some = rw (ne_eqb (reception_refusal g cs ls xs w) 0 some)

    pub recovery_late : reception_refusal g cs ls xs w ≡ 0 → recovery_refusal g cs ls xs o w ≡ output_refusal (n_of xs) o
    unfolding recovery_refusal or_else output_refusal
    recovery_late none = rw (eq-eqb (reception_refusal g cs ls xs w) 0 none)

-- without an early refusal it is 9 or none
module _ {g : ℕ} {cs ls xs : List ℕ} {w : ℕ} (met : Delivered g cs ls xs w) where
  accepted_index : index_refusal g cs ls xs ≡ 0
  accepted_index = sym (accepts_index g cs ls xs met.admits met.can_read)

  pub reception_unreceived : received g (lexicon cs ls) xs ≡ false → reception_refusal g cs ls xs w ≡ 9
  unfolding reception_refusal or_else work_short no_text
  reception_unreceived f = rw (eq-eqb (index_refusal g cs ls xs) 0 accepted_index, le-ltb w (8 * n_of xs) met.room, f)

  pub reception_received : received g (lexicon cs ls) xs ≡ true → reception_refusal g cs ls xs w ≡ 0
  unfolding reception_refusal or_else work_short no_text
  reception_received t = rw (eq-eqb (index_refusal g cs ls xs) 0 accepted_index, le-ltb w (8 * n_of xs) met.room, t)

-- THE ANSWERS

-- the first n numbers of the work slice written to the output, or 8; and the work slice cleared
pub record Gives (n : ℕ) (r : Answer) (out out_now work work_now : List ℕ) : Type 0 where
  pub puts : Puts (output_refusal n (length out)) (take n work) r out out_now
  pub cleared : work_now ≡ zeros work

module _ (n : ℕ) (o : List ℕ) where
  pub gives_short : length o < n → {r : Answer} {w v : List ℕ} → Refuses 8 r w v → Gives n r o o w v
  gives_short short {r} {w} h =
      let eight : output_refusal n (length o) ≡ 8 = output_refused n (length o) short in
      record {
        puts =
            puts_refused (output_refusal n (length o)) (take n w) r o (h.is ∙ sym eight)
            (λ (z : output_refusal n (length o) ≡ 0). omega arith) h.nothing refl;
        cleared = h.cleared;
      }

  pub gives_text :
      (w : List ℕ) {z v : List ℕ} → n ≤ length o → n ≤ length w → z ≡ over (take n w) o → v ≡ zeros w →
      Gives n (record { refusal = 0; count = n }) o z w v
  unfolding in_front
  gives_text w room len put cleared =
      let none : output_refusal n (length o) ≡ 0 = output_fits n (length o) room in
      record {
        puts =
            puts_accepted (output_refusal n (length o)) (take n w) (record { refusal = 0; count = n }) o (sym none) none
            (sym (length-take-le n w len)) put;
        cleared = cleared;
      }

-- a text that was written from index 0 on
pub text_put : {text old now : List ℕ} {end : ℕ} → Wrote text 0 old end now → now ≡ in_front text old
unfolding in_front
text_put {text} {old} h = h.content ∙ placed_over text old

-- a slice as long is the same once cleared
pub zeros_alike : (w u : List ℕ) → length u ≡ length w → zeros u ≡ zeros w
unfolding zeros
zeros_alike w u e = rw e

pub refuses_alike :
    (w : List ℕ) {number : ℕ} {r : Answer} {u v : List ℕ} → length u ≡ length w → Refuses number r u v → Refuses number r w v
refuses_alike w {u} same h = record { is = h.is; nothing = h.nothing; cleared = h.cleared ∙ zeros_alike w u same }

-- w is the work slice as it was lent, v after it is cleared
module _ (g : ℕ) (cs ls xs : List ℕ) {r : Answer} {w v : List ℕ} where
  receive_refusing :
      {number : ℕ} → reception_refusal g cs ls xs (length w) ≡ number → (number ≡ 0 → ⊥) → Refuses number r w v →
      ReceiveSays g cs ls xs r w v
  unfolding ReceiveSays
  receive_refusing e some h = (
    answers_refused (reception_refusal g cs ls xs (length w)) (n_of xs) r (h.is ∙ sym e)
        (λ (z : reception_refusal g cs ls xs (length w) ≡ 0). some (sym e ∙ z)) h.nothing,
    h.cleared,
  )

  pub receive_refused :
      {number : ℕ} → number ≡ delivery_refusal g cs ls xs (length w) → (number ≡ 0 → ⊥) → Refuses number r w v →
      ReceiveSays g cs ls xs r w v
  receive_refused {number} e some h = receive_refusing (reception_early g cs ls xs (length w) number e some) some h

  recover_refusing :
      (o : List ℕ) {number : ℕ} → recovery_refusal g cs ls xs (length o) (length w) ≡ number → (number ≡ 0 → ⊥) → Refuses number r w v →
      RecoverSays g cs ls xs r o o w v
  unfolding RecoverSays
  recover_refusing o e some h = (
    puts_refused (recovery_refusal g cs ls xs (length o) (length w)) (recovered (lexicon cs ls) xs) r o (h.is ∙ sym e)
        (λ (z : recovery_refusal g cs ls xs (length o) (length w) ≡ 0). some (sym e ∙ z)) h.nothing refl,
    h.cleared,
  )

  pub recover_refused :
      (o : List ℕ) {number : ℕ} → number ≡ delivery_refusal g cs ls xs (length w) → (number ≡ 0 → ⊥) → Refuses number r w v →
      RecoverSays g cs ls xs r o o w v
  recover_refused o {number} e some h =
      let early : reception_refusal g cs ls xs (length w) ≡ number = reception_early g cs ls xs (length w) number e some in
      recover_refusing o
      (recovery_early g cs ls xs (length w) (length o) (λ (z : reception_refusal g cs ls xs (length w) ≡ 0). some (sym early ∙ z)) ∙
      early) some h

module _ {g : ℕ} {cs ls xs w : List ℕ} (met : Delivered g cs ls xs (length w)) (f : received g (lexicon cs ls) xs ≡ false)
    {r : Answer} {v : List ℕ} (h : Refuses 9 r w v) where
  nine : reception_refusal g cs ls xs (length w) ≡ 9
  nine = reception_unreceived met f

  pub receive_unreceived : ReceiveSays g cs ls xs r w v
  receive_unreceived = receive_refusing g cs ls xs nine (λ (z : 9 ≡ 0). omega arith) h

  pub recover_unreceived : (o : List ℕ) → RecoverSays g cs ls xs r o o w v
  recover_unreceived o =
      recover_refusing g cs ls xs o
      (recovery_early g cs ls xs (length w) (length o) (λ (z : reception_refusal g cs ls xs (length w) ≡ 0). omega (arith, nine)) ∙ nine)
      (λ (z : 9 ≡ 0). omega arith) h

-- u is the work slice before it is cleared, the text in front
module _ {g : ℕ} {cs ls xs : List ℕ} (w : List ℕ) (met : Delivered g cs ls xs (length w)) (t : received g (lexicon cs ls) xs ≡ true) where
  pub receive_received :
      (u : List ℕ) {n : ℕ} {v : List ℕ} → length u ≡ length w → n ≡ n_of xs → v ≡ zeros u →
      ReceiveSays g cs ls xs (record { refusal = 0; count = n }) w v
  unfolding ReceiveSays
  receive_received u {n} same count cleared =
      let accepted : reception_refusal g cs ls xs (length w) ≡ 0 = reception_received met t in (
        answers_accepted (reception_refusal g cs ls xs (length w)) (n_of xs) (record { refusal = 0; count = n }) (sym accepted) accepted
            count,
        cleared ∙ zeros_alike w u same,
      )

  pub recover_received :
      {r : Answer} {o z u v : List ℕ} → length u ≡ length w → take (n_of xs) u ≡ recovered (lexicon cs ls) xs →
      Gives (n_of xs) r o z u v → RecoverSays g cs ls xs r o z w v
  unfolding RecoverSays
  recover_received {o} {u} same text h =
      let late : recovery_refusal g cs ls xs (length o) (length w) ≡ output_refusal (n_of xs) (length o) =
      recovery_late g cs ls xs (length w) (length o) (reception_received met t) in
      (rw (late, ← text) h.puts, h.cleared ∙ zeros_alike w u same)
