-- The tally's counts add up to the number of entries. Assumes nothing.
use Rattle.std.specs.Prelude.{◌≡◌, refl, Bool, true, false, cond, List, [], ◌∷◌, ℕ, zero, suc, ◌+◌, ◌≤◌, ◌<◌, eqb, length}
use Rattle.std.proofs.Common.{sym, ◌∙◌, inl, inr, ⊎_elim, eq-or-lt_of_le, arith, length-append, ne_eqb, eqb-true}
use Rattle.std.proofs.lemmas.Bool.{eqb-false}
use Rattle.basics.specs.Member.{In}
use Rattle.spec.specs.Dictionary.{Lexicon, total}
use Rattle.spec.specs.Words.{spells}
use Rattle.spec.specs.Numbers.{Line, all_positions}
use Rattle.spec.specs.Index.{entries_of, lines_in, readable}
use Rattle.spec.specs.Tally.{of_length, tally_from, tally}
use Rattle.laws.specs.Text.Facts.{GoodLexicon, IsKey}
use Rattle.laws.specs.Dictionary.Keys.{spells_some, spells_short}
use Rattle.laws.specs.Readable.Readable.{readable_get, entries_of_positions}

-- a line adds its count at its own length, and nothing at any other
tally_below :
    (n l : ℕ) (lex : Lexicon) (k : Line) (ks : List Line) → length (spells lex k.key_of) < l →
    total (tally_from n l lex (k ∷ ks)) ≡ total (tally_from n l lex ks)
unfolding tally_from of_length total
tally_below zero l lex k ks h = refl
tally_below (suc n) l lex k ks h =
    let other : eqb (length (spells lex k.key_of)) l ≡ false = ne_eqb (length (spells lex k.key_of)) l (λ e. omega arith) in
    rw other (omega (arith, tally_below n (suc l) lex k ks (omega arith)))

tally_within :
    (n l : ℕ) (lex : Lexicon) (k : Line) (ks : List Line) → l ≤ length (spells lex k.key_of) →
    length (spells lex k.key_of) < l + n →
    total (tally_from n l lex (k ∷ ks)) ≡ length k.positions + total (tally_from n l lex ks)
unfolding tally_from of_length total
tally_within zero l lex k ks low high = absurd (omega arith)
tally_within (suc n) l lex k ks low high =
    go (eqb (length (spells lex k.key_of)) l) refl (λ p q. tally_within n (suc l) lex k ks p q)
  where
    len : ℕ
    len = length (spells lex k.key_of)

    go :
        (b : Bool) → eqb len l ≡ b →
        (suc l ≤ len → len < suc l + n →
        total (tally_from n (suc l) lex (k ∷ ks)) ≡ length k.positions + total (tally_from n (suc l) lex ks)) →
        cond b (length k.positions) 0 + of_length lex l ks + total (tally_from n (suc l) lex (k ∷ ks))
        ≡ length k.positions + (of_length lex l ks + total (tally_from n (suc l) lex ks))
    go true t ih =
        let here : len ≡ l = eqb-true len l t in
        omega (arith, tally_below n (suc l) lex k ks (omega arith))
    go false t ih = omega (arith, ih (later (eqb-false len l t)) (omega arith))
      where
        later : (len ≡ l → ⊥) → suc l ≤ len
        later differ = ⊎_elim (λ (e : l ≡ len). absurd (differ (sym e))) (λ (h : l < len). h) (eq-or-lt_of_le low)

tally_none : (n l : ℕ) (lex : Lexicon) → total (tally_from n l lex []) ≡ 0
unfolding tally_from of_length total
tally_none zero l lex = refl
tally_none (suc n) l lex = omega (arith, tally_none n (suc l) lex)

tally_all :
    (n : ℕ) (lex : Lexicon) (ls : List Line) →
    ((l : Line) → In l ls → (1 ≤ length (spells lex l.key_of)) × (length (spells lex l.key_of) ≤ n)) →
    total (tally_from n 1 lex ls) ≡ length (all_positions ls)
unfolding all_positions
tally_all n lex [] h = tally_none n 1 lex
tally_all n lex (l ∷ ls) h =
    tally_within n 1 lex l ls (h l (inl refl)).0 (omega (arith, (h l (inl refl)).1))
    ∙ rw (tally_all n lex ls (λ m i. h m (inr i))) (sym (length-append l.positions (all_positions ls)))

-- "Their sum is M."
pub tally_sums :
    (g : ℕ) {lex : Lexicon} (xs : List ℕ) → GoodLexicon lex → readable g lex xs ≡ true → total (tally lex xs) ≡ entries_of xs
unfolding tally
tally_sums g {lex} xs good t =
    tally_all 32 lex (lines_in xs) lengths ∙ sym (entries_of_positions g lex xs t)
  where
    lengths : (l : Line) → In l (lines_in xs) → (1 ≤ length (spells lex l.key_of)) × (length (spells lex l.key_of) ≤ 32)
    lengths l m =
        let is : IsKey lex l.key_of = ((readable_get g lex xs t).lines.each l m).is_key in
        (spells_some good l.key_of is, spells_short good l.key_of is)
