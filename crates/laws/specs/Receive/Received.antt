-- Delivered numbers are received exactly if they are a text's index, and that text is the recovered one. Over any lexicon with the
-- facts of an admitted one. Assumes nothing.
use Rattle.std.specs.Prelude.{◌≡◌, true, not, List, ℕ, ◌≤◌, length}
use Rattle.std.proofs.Common.{sym, ap, ◌∙◌, subst, arith}
use Rattle.basics.specs.Bools.{and_put, and_left, and_right, not_get, not_put}
use Rattle.spec.specs.Replaced.{holds_full_width}
use Rattle.spec.specs.Dictionary.{Lexicon}
use Rattle.spec.specs.Words.{same}
use Rattle.spec.specs.Numbers.{index_of}
use Rattle.spec.specs.Index.{readable}
use Rattle.spec.specs.Reception.{recovered, is_index, received}
use Rattle.spec.specs.Search.{find}
use Rattle.spec.specs.Theorems.{positions}
use Rattle.laws.specs.Text.Strings.{same_get, same_put}
use Rattle.laws.specs.Text.Facts.{Chars, Plain, GoodLexicon}
use Rattle.laws.specs.Text.WidthFolding.{plain_get, plain_put}
use Rattle.laws.specs.Dictionary.Keys.{spells_chars}
use Rattle.laws.specs.Readable.Readable.{readable_get}
use Rattle.laws.specs.Readable.Recover.{length_recovered, recovered_is_chars, recovered_text}
use Rattle.laws.specs.Search.Search.{find_positions}
use Rattle.laws.specs.Readable.IndexOf.{n_of_index, index_readable, index_match}

pub record IsIndex (g : ℕ) (lex : Lexicon) (xs : List ℕ) : Type 0 where
  pub can_read : readable g lex xs ≡ true
  pub index_is : index_of lex (recovered lex xs) ≡ xs

pub is_index_get : (g : ℕ) (lex : Lexicon) (xs : List ℕ) → is_index g lex xs ≡ true → IsIndex g lex xs
unfolding is_index
is_index_get g lex xs t =
    record {
      can_read = and_left (readable g lex xs) (same (index_of lex (recovered lex xs)) xs) t;
      index_is =
          same_get (index_of lex (recovered lex xs)) xs
          (and_right (readable g lex xs) (same (index_of lex (recovered lex xs)) xs) t);
    }

pub is_index_put : (g : ℕ) (lex : Lexicon) (xs : List ℕ) → IsIndex g lex xs → is_index g lex xs ≡ true
unfolding is_index
is_index_put g lex xs h = and_put h.can_read (same_put (index_of lex (recovered lex xs)) xs h.index_is)

pub record Received (g : ℕ) (lex : Lexicon) (xs : List ℕ) : Type 0 where
  pub is_own : is_index g lex xs ≡ true
  pub plain : Plain (recovered lex xs)

pub received_get : (g : ℕ) (lex : Lexicon) (xs : List ℕ) → received g lex xs ≡ true → Received g lex xs
unfolding received
received_get g lex xs t =
    let forms = holds_full_width (recovered lex xs) in
    record {
      is_own = and_left (is_index g lex xs) (not forms) t;
      plain = plain_get (recovered lex xs) (not_get forms (and_right (is_index g lex xs) (not forms) t));
    }

pub received_put : (g : ℕ) (lex : Lexicon) (xs : List ℕ) → Received g lex xs → received g lex xs ≡ true
unfolding received
received_put g lex xs h = and_put h.is_own (not_put (plain_put (recovered lex xs) h.plain))

pub received_reads : (g : ℕ) (lex : Lexicon) (xs : List ℕ) → received g lex xs ≡ true → readable g lex xs ≡ true
received_reads g lex xs t = (is_index_get g lex xs (received_get g lex xs t).is_own).can_read

module _ {lex : Lexicon} (good : GoodLexicon lex) where
  -- the text recovered from readable numbers consists of characters
  pub readable_chars : (g : ℕ) (xs : List ℕ) → readable g lex xs ≡ true → Chars (recovered lex xs)
  readable_chars g xs t =
      recovered_is_chars lex xs (λ l m. spells_chars good l.key_of ((readable_get g lex xs t).lines.each l m).is_key)

  pub readable_small : (g : ℕ) (xs : List ℕ) → readable g lex xs ≡ true → length (recovered lex xs) ≤ g
  readable_small g xs t = omega (arith, length_recovered lex xs, (readable_get g lex xs t).length_allowed)

  -- A TEXT'S INDEX

  module _ (ts : List ℕ) (chars : Chars ts) where
    pub index_recovered : recovered lex (index_of lex ts) ≡ ts
    index_recovered = recovered_text (index_of lex ts) (index_match good ts chars) (n_of_index lex ts)

    own_index : (g : ℕ) → length ts ≤ g → is_index g lex (index_of lex ts) ≡ true
    own_index g small =
        is_index_put g lex (index_of lex ts)
        (record { can_read = index_readable good ts chars g small; index_is = ap (index_of lex) index_recovered })

    -- if numbers are the index of these characters, they are the index of the text recovered from them, and the characters are that text
    pub equal_own_index : (g : ℕ) (xs : List ℕ) → length ts ≤ g → index_of lex ts ≡ xs → is_index g lex xs ≡ true
    equal_own_index g xs small e = subst (λ (ys : List ℕ). is_index g lex ys ≡ true) e (own_index g small)

    pub is_index_recovered : (xs : List ℕ) → index_of lex ts ≡ xs → recovered lex xs ≡ ts
    is_index_recovered xs e = ap (recovered lex) (sym e) ∙ index_recovered

    -- they are received if none of the characters is a full-width form
    pub is_index_received :
        (g : ℕ) (xs : List ℕ) → length ts ≤ g → Plain ts → index_of lex ts ≡ xs → received g lex xs ≡ true
    is_index_received g xs small plain e =
        received_put g lex xs
        (record { is_own = equal_own_index g xs small e; plain = subst Plain (sym (is_index_recovered xs e)) plain })

    pub index_find : (s : List ℕ) → 1 ≤ length s → find lex (index_of lex ts) s ≡ positions s ts
    index_find s some = find_positions (index_of lex ts) s (index_match good ts chars) (n_of_index lex ts) some

  -- no two texts have the same index
  pub index_injective : (ts us : List ℕ) → Chars ts → Chars us → index_of lex ts ≡ index_of lex us → ts ≡ us
  index_injective ts us c d e = sym (index_recovered ts c) ∙ ap (recovered lex) e ∙ index_recovered us d
