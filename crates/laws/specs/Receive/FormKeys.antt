-- Full-width forms in the text of an index: it has one exactly if a lone key of the directory is one. Such keys are looked for from the
-- last line back, as keys ascend. Assumes nothing.
use Rattle.std.specs.Prelude.{◌≡◌, refl, true, false, List, [], ◌∷◌, ℕ, zero, suc, ◌+◌, ◌-◌, ◌≤◌, ◌<◌, eqb, get_or}
use Rattle.std.proofs.Math.Path.{sym, ap}
use Rattle.std.proofs.Common.{◌∙◌, inl, inr, eq-eqb, eqb-true}
use Rattle.std.proofs.Math.Logic.{⊎_elim}
use native.Mathlib.Omega.{arith}
use Rattle.basics.specs.Bools.{clash, true_or_false, false_put, iff_eq, and_put, and_left, and_right, or_left, or_right, or_get, le_or_lt}
use Rattle.basics.specs.Member.{In, in_getD}
use Rattle.spec.specs.Replaced.{first_form, last_form, is_full_width, holds_full_width}
use Rattle.spec.specs.Dictionary.{Lexicon}
use Rattle.spec.specs.Words.{Key, key, spells}
use Rattle.spec.specs.Numbers.{Line, line}
use Rattle.spec.specs.Index.{keys_of, kind_at, value_at, key_at, lines_in, readable}
use Rattle.spec.specs.Reception.{recovered, is_index, received}
use Rattle.spec.specs.ReplacedTheorems.{LoneForm}
use Rattle.models.specs.Reception.{form_key, some_form_key}
use Rattle.laws.specs.Text.Strings.{Stand}
use Rattle.laws.specs.Text.Facts.{key_eq, Plain, GoodLexicon, IsKey}
use Rattle.laws.specs.Text.WidthFolding.{form_get, form_put, plain_get, plain_put}
use Rattle.laws.specs.Text.Overlaps.{stand_at}
use Rattle.laws.specs.Dictionary.Keys.{IsWordKey, IsLoneKey, key_kinds, spells_in, spells_lone}
use Rattle.laws.specs.Entries.Entries.{entries_get}
use Rattle.laws.specs.Numbers.Flat.{posting, flat_put}
use Rattle.laws.specs.Numbers.KeyOrder.{KeyBefore}
use Rattle.laws.specs.Numbers.Slices.{Fits}
use Rattle.laws.specs.Numbers.LineNumbers.{line_of_in, line_number, keys_before}
use Rattle.laws.specs.Readable.Readable.{readable_get}
use Rattle.laws.specs.Readable.LineWalk.{readable_fits}
use Rattle.laws.specs.Readable.Recover.{recovered_is_plain}
use Rattle.laws.specs.Receive.Received.{received_get, is_index_get, readable_chars}
use Rattle.laws.specs.Receive.ReceptionTest.{is_index_only}

-- THE TEXT HAS A FORM

pub spells_form : (lex : Lexicon) (l : Line) (c : ℕ) → l.key_of ≡ key 1 c → spells lex l.key_of ≡ c ∷ []
unfolding key
spells_form lex l c e = rw e (spells_lone lex (key 1 c) refl)

module _ {lex : Lexicon} (good : GoodLexicon lex) (g : ℕ) (xs : List ℕ) (own : is_index g lex xs ≡ true) where
  -- if the numbers are the index of the text recovered from them, their entries stand in it
  line_stands :
      (l : Line) → In l (lines_in xs) → (p : ℕ) → In p l.positions → Stand (spells lex l.key_of) (recovered lex xs) p
  line_stands l m p n =
      (entries_get lex good (recovered lex xs) (readable_chars good g xs (is_index_get g lex xs own).can_read) (posting lex l.key_of p)
      (is_index_only good g xs own (posting lex l.key_of p) (flat_put lex (lines_in xs) l p m n))).is_entry.stand

  -- so a form that is a lone key stands at the first of its positions
  form_stands : (c : ℕ) → LoneForm xs c → Plain (recovered lex xs) → ⊥
  form_stands c (form, (l, m, e)) plain =
      let p = get_or l.positions 0 0 in
      let some = ((readable_get g lex xs (is_index_get g lex xs own).can_read).lines.each l m).some in
      let stand : Stand (c ∷ []) (recovered lex xs) p =
      rw (spells_form lex l c e) at (line_stands l m p (in_getD l.positions 0 0 some)) in
      clash form (ap is_full_width (stand_at 0 stand (omega arith)) ∙ plain (p + 0 - 1) (omega arith))

pub unreceived : {lex : Lexicon} → GoodLexicon lex → (g : ℕ) (xs : List ℕ) (c : ℕ) → LoneForm xs c → received g lex xs ≡ false
unreceived {lex} good g xs c lone =
    false_put (received g lex xs)
    (λ t. let h = received_get g lex xs t in form_stands good g xs h.is_own c lone h.plain)

-- THE TEXT HAS NONE

-- a key whose string has a full-width form is that form, lone
spells_plain :
    {lex : Lexicon} → GoodLexicon lex → {k : Key} → IsKey lex k → ((c : ℕ) → is_full_width c ≡ true → k ≡ key 1 c → ⊥) →
    Plain (spells lex k)
unfolding key
spells_plain {lex} good {k} h none =
    ⊎_elim (λ (w : IsWordKey lex k). good.plain (spells lex k) (spells_in lex k w))
    (λ (c : IsLoneKey lex k).
    rw (spells_lone lex k c.kind_is)
    (one (false_put (is_full_width k.value) (λ t. none k.value t (key_eq k (key 1 k.value) c.kind_is refl)))))
    (key_kinds lex k h)
  where
    one : is_full_width k.value ≡ false → Plain (k.value ∷ [])
    one f zero b = f
    one f (suc i) b = absurd (omega arith)

-- the text recovered from readable numbers without such a key has no full-width form
pub readable_plain :
    (g : ℕ) {lex : Lexicon} → GoodLexicon lex → (xs : List ℕ) → readable g lex xs ≡ true → ((c : ℕ) → LoneForm xs c → ⊥) →
    Plain (recovered lex xs)
readable_plain g {lex} good xs can none =
    recovered_is_plain lex xs
    (λ l m.
    spells_plain good ((readable_get g lex xs can).lines.each l m).is_key
    (λ c t e. none c (t, (l, m, e))))

-- EXACTLY

form_key_get : (k : Key) → form_key k ≡ true → (k.kind ≡ 1) × (is_full_width k.value ≡ true)
unfolding form_key
form_key_get k t = (
  eqb-true k.kind 1 (and_left (eqb k.kind 1) (is_full_width k.value) t),
  and_right (eqb k.kind 1) (is_full_width k.value) t,
)

form_key_put : (k : Key) → k.kind ≡ 1 → is_full_width k.value ≡ true → form_key k ≡ true
unfolding form_key
form_key_put k e t = and_put (eq-eqb k.kind 1 e) t

some_form_get : (ls : List Line) → some_form_key ls ≡ true → (l : Line) × In l ls × (form_key l.key_of ≡ true)
unfolding some_form_key
some_form_get [] t = clash t refl
some_form_get (l ∷ ls) t =
    ⊎_elim (λ (h : form_key l.key_of ≡ true). (l, inl refl, h))
    (λ (h : some_form_key ls ≡ true). let (m, i, k) = some_form_get ls h in (m, inr i, k))
    (or_get (form_key l.key_of) (some_form_key ls) t)

some_form_put : (ls : List Line) (l : Line) → In l ls → form_key l.key_of ≡ true → some_form_key ls ≡ true
unfolding some_form_key
some_form_put [] l m t = absurd m
some_form_put (k ∷ ls) l (inl e) t = or_left (some_form_key ls) (ap (λ (j : Line). form_key j.key_of) (sym e) ∙ t)
some_form_put (k ∷ ls) l (inr m) t = or_right (form_key k.key_of) (some_form_put ls l m t)

-- the text that an index is of has a full-width form exactly if a lone key is one
pub forms_are_keys :
    {lex : Lexicon} → GoodLexicon lex → (g : ℕ) (xs : List ℕ) → is_index g lex xs ≡ true →
    some_form_key (lines_in xs) ≡ holds_full_width (recovered lex xs)
unfolding key
forms_are_keys {lex} good g xs own =
    iff_eq (some_form_key (lines_in xs)) (holds_full_width (recovered lex xs)) held keyed
  where
    held : some_form_key (lines_in xs) ≡ true → holds_full_width (recovered lex xs) ≡ true
    held t =
        let (l, m, k) = some_form_get (lines_in xs) t in
        let (one, form) = form_key_get l.key_of k in
        ⊎_elim (λ (h : holds_full_width (recovered lex xs) ≡ true). h)
        (λ (h : holds_full_width (recovered lex xs) ≡ false).
        absurd
        (form_stands good g xs own l.key_of.value (form, (l, m, key_eq l.key_of (key 1 l.key_of.value) one refl))
        (plain_get (recovered lex xs) h)))
        (true_or_false (holds_full_width (recovered lex xs)))

    keyed : holds_full_width (recovered lex xs) ≡ true → some_form_key (lines_in xs) ≡ true
    keyed t =
        ⊎_elim (λ (h : some_form_key (lines_in xs) ≡ true). h)
        (λ (h : some_form_key (lines_in xs) ≡ false).
        clash t
        (plain_put (recovered lex xs)
        (readable_plain g good xs (is_index_get g lex xs own).can_read
        (λ c (form, (l, m, e)). clash (some_form_put (lines_in xs) l m (rw e (form_key_put (key 1 c) refl form))) h))))
        (true_or_false (some_form_key (lines_in xs)))

-- FROM THE LAST LINE BACK

-- what is known of the keys of a readable index
pub record OrderedKeys (xs : List ℕ) : Type 0 where
  pub fits : Fits xs
  pub kind_small : (i : ℕ) → i < keys_of xs → kind_at xs i ≤ 1
  pub order : (i j : ℕ) → i < j → j < keys_of xs → KeyBefore (key_at xs i) (key_at xs j)

pub readable_ordered : (g : ℕ) (lex : Lexicon) (xs : List ℕ) → readable g lex xs ≡ true → OrderedKeys xs
unfolding key line
readable_ordered g lex xs can =
    let lines = (readable_get g lex xs can).lines in
    record {
      fits = readable_fits g lex xs can;
      kind_small = λ i b. (lines.each _ (line_of_in xs i b)).is_key.kind_small;
      order = keys_before xs lines.order;
    }

-- no line from i on has a form as its key
pub record WithoutForms (xs : List ℕ) (i : ℕ) : Type 0 where
  pub within : i ≤ keys_of xs
  pub none : (j : ℕ) → i ≤ j → j < keys_of xs → form_key (key_at xs j) ≡ true → ⊥

pub without_start : (xs : List ℕ) → WithoutForms xs (keys_of xs)
without_start xs = record { within = omega arith; none = λ j a b t. omega arith }

pub without_end : {xs : List ℕ} → WithoutForms xs 0 → false ≡ some_form_key (lines_in xs)
unfolding line
without_end {xs} h =
    sym
    (false_put (some_form_key (lines_in xs))
    (λ t.
    let (l, m, k) = some_form_get (lines_in xs) t in
    let (i, b, e) = line_number xs l m in
    h.none i (omega arith) b (rw (← e) at k)))

module _ (xs : List ℕ) (i : ℕ) (below : i < keys_of xs) where
  -- a form
  pub form_found : kind_at xs i ≡ 1 → first_form ≤ value_at xs i → value_at xs i ≤ last_form → true ≡ some_form_key (lines_in xs)
  unfolding key line
  form_found one low high =
      sym
      (some_form_put (lines_in xs) _ (line_of_in xs i below)
      (form_key_put (key_at xs i) one (form_put (value_at xs i) low high)))

  module _ {k : ℕ} (h : WithoutForms xs k) (after : k ≡ i + 1) where
    -- a character after all forms
    pub without_step : last_form < value_at xs i → WithoutForms xs i
    unfolding key
    without_step high =
        record {
          within = omega arith;
          none =
              λ j a b t.
              ⊎_elim (λ (p : k ≤ j). h.none j p b t)
              (λ (p : j < k).
              let e : j ≡ i = omega arith in
              omega (arith, ap (value_at xs) e, form_get (value_at xs j) (form_key_get (key_at xs j) t).1))
              (le_or_lt k j);
        }

    -- no line up to i has one either
    none_before : ((j : ℕ) → j ≤ i → kind_at xs j ≡ 1 → first_form ≤ value_at xs j → ⊥) → false ≡ some_form_key (lines_in xs)
    unfolding key
    none_before lower =
        without_end
        (record {
          within = omega arith;
          none =
              λ j a b t.
              ⊎_elim (λ (p : k ≤ j). h.none j p b t)
              (λ (p : j < k).
              let (one, form) = form_key_get (key_at xs j) t in
              lower j (omega arith) one (form_get (value_at xs j) form).0)
              (le_or_lt k j);
        })

    module _ (keys : OrderedKeys xs) where
      -- a word: the lines before it are of words
      pub word_stops : kind_at xs i ≡ 0 → false ≡ some_form_key (lines_in xs)
      unfolding key
      word_stops word = none_before (λ j a one low. omega (arith, word, one, kinds_rise j a))
        where
          kinds_rise : (j : ℕ) → j ≤ i → kind_at xs j ≤ kind_at xs i
          kinds_rise j a =
              ⊎_elim (λ (p : i ≤ j). let e : j ≡ i = omega arith in omega (arith, ap (kind_at xs) e))
              (λ (p : j < i).
              ⊎_elim (λ (q : kind_at xs j < kind_at xs i). omega arith)
              (λ (q : (kind_at xs j ≡ kind_at xs i) × (value_at xs j < value_at xs i)). omega arith) (keys.order j i p below))
              (le_or_lt i j)

      -- a character before all forms: the lines before it are of words or of lesser characters
      pub lower_stops : value_at xs i < first_form → false ≡ some_form_key (lines_in xs)
      unfolding key
      lower_stops low = none_before lesser
        where
          lesser : (j : ℕ) → j ≤ i → kind_at xs j ≡ 1 → first_form ≤ value_at xs j → ⊥
          lesser j a one high =
              ⊎_elim (λ (p : i ≤ j). let e : j ≡ i = omega arith in omega (arith, ap (value_at xs) e))
              (λ (p : j < i).
              ⊎_elim (λ (q : kind_at xs j < kind_at xs i). omega (arith, keys.kind_small i below))
              (λ (q : (kind_at xs j ≡ kind_at xs i) × (value_at xs j < value_at xs i)). omega arith) (keys.order j i p below))
              (le_or_lt i j)
