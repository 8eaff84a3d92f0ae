-- The statements of `spec`'s ReplacedTheorems on a full-width form as a lone key, and on the calls on such an index, proved. Assumes
-- nothing.
use Rattle.std.specs.Prelude.{◌≡◌, refl, true, false, List, [], ◌∷◌, ℕ, ◌-◌, ◌*◌, ◌≤◌, eqb, length, get_or}
use Rattle.std.proofs.Math.Path.{sym}
use Rattle.std.proofs.Common.{ap, ◌∙◌, arith, eqb-true}
use Rattle.basics.specs.Bools.{clash, false_put, and_right}
use Rattle.basics.specs.Member.{In}
use Rattle.spec.specs.declared.TallyAnswer.{TallyAnswer}
use Rattle.spec.specs.Replaced.{is_full_width, replaced}
use Rattle.spec.specs.Dictionary.{Lexicon, all_chars, lexicon, dictionary_refusal, admitted}
use Rattle.spec.specs.Words.{key, is_word}
use Rattle.spec.specs.Index.{n_of, entries_of, lines_in, key_good, readable}
use Rattle.spec.specs.Reception.{received}
use Rattle.spec.specs.Search.{agrees, find}
use Rattle.spec.specs.Cut.{bears, cut_down}
use Rattle.spec.specs.FurtherTheorems.{CutAny}
use Rattle.spec.specs.Calls.{index_refusal, reception_refusal, Answers, Puts, ReceiveSays, RecoverSays, TallySays}
use Rattle.spec.specs.ReplacedTheorems.{LoneForm, FormAsKey, FormCalls}
use Rattle.laws.specs.Text.WidthFolding.{form_get, length_replaced, replaced_plain}
use Rattle.laws.specs.Dictionary.Answering.{accepted_yes}
use Rattle.laws.specs.Dictionary.Lexicon.{admitted_lexicon}
use Rattle.laws.specs.Dictionary.Keys.{is_word_get, lone_is_key}
use Rattle.laws.specs.Search.Agree.{Agree, agrees_get}
use Rattle.laws.specs.Cut.Bears.{bears_get}
use Rattle.laws.specs.Cut.Same.{bearing_get}
use Rattle.laws.specs.Cut.Readable.{lines_in_cut}
use Rattle.laws.specs.Receive.FormKeys.{spells_form, unreceived}
use Rattle.laws.specs.Demands.Theorems.{cut_any}
use Rattle.laws.specs.Readable.IndexRefusal.{accepts_index}
use Rattle.laws.specs.Receive.Receiving.{short_none, delivered, reception_unreceived, recovery_early}

-- NO WORD, BUT A KEY

module _ (cs ls : List ℕ) (c : ℕ) (adm : admitted cs ls ≡ true) (form : is_full_width c ≡ true) where
  no_word : In (c ∷ []) (lexicon cs ls).words → ⊥
  no_word m = clash form ((admitted_lexicon cs ls adm).plain (c ∷ []) m 0 (omega arith))

  never_word : is_word (lexicon cs ls) (c ∷ []) ≡ false
  never_word = false_put (is_word (lexicon cs ls) (c ∷ [])) (λ t. no_word (is_word_get (lexicon cs ls) (c ∷ []) t))

  lone_good : key_good (lexicon cs ls) (key 1 c) ≡ true
  unfolding key
  lone_good =
      (lone_is_key (lexicon cs ls) (key 1 c) (record { kind_is = refl; char = omega (arith, form_get c form); no_word = no_word })).good

-- AGREES WITH NO STRING

module _ (s : List ℕ) (c : ℕ) (form : is_full_width c ≡ true) where
  -- at the shared position the replaced string would have a full-width form
  agree_never : {a b : ℕ} → Agree (replaced s) a (c ∷ []) b → ⊥
  agree_never {a} {b} h =
      let here : h.shared - b ≡ 0 = omega arith in
      let same : get_or (replaced s) (h.shared - a) 0 ≡ c =
      h.equal h.shared h.string_from h.string_to h.entry_from h.entry_to
      ∙ ap (λ (i : ℕ). get_or (c ∷ []) i 0) here in
      clash form
      (sym (ap is_full_width same)
      ∙ replaced_plain s (h.shared - a) (omega arith))

  agrees_never : (a b : ℕ) → agrees (replaced s) a (c ∷ []) b ≡ false
  agrees_never a b =
      false_put (agrees (replaced s) a (c ∷ []) b) (λ t. agree_never (agrees_get (replaced s) a (c ∷ []) b t))

  bears_never : 1 ≤ length s → bears (c ∷ []) (replaced s) ≡ false
  bears_never some =
      false_put (bears (c ∷ []) (replaced s))
      (λ t.
      let h = bears_get (c ∷ []) (replaced s) (omega arith) (omega (arith, length_replaced s)) t in agree_never h.2)

cut_out : (lex : Lexicon) (xs s : List ℕ) (c : ℕ) → 1 ≤ length s → LoneForm (cut_down lex xs (replaced s)) c → ⊥
cut_out lex xs s c some (form, (l, m, e)) =
    let bear = (bearing_get lex (replaced s) (lines_in xs) l (rw (lines_in_cut lex xs (replaced s)) at m)).1 in
    clash (rw (spells_form lex l c e) at bear) (bears_never s c form some)

found_without :
    (g : ℕ) (lex : Lexicon) (xs s : List ℕ) → readable g lex xs ≡ true →
    find lex xs (replaced s) ≡ find lex (cut_down lex xs (replaced s)) (replaced s)
unfolding CutAny
found_without g lex xs s can = sym (cut_any g lex xs (replaced s) can).1

pub form_as_key : (g : ℕ) → FormAsKey g
form_as_key g =
    record {
      never_word = never_word;
      is_key = lone_good;
      agrees_never = λ s a c b form. agrees_never s c form a b;
      bears_never = λ s c some form. bears_never s c form some;
      cut_out = cut_out;
      found_without = found_without g;
      unreceived = λ cs ls xs c adm can. unreceived (admitted_lexicon cs ls adm) g xs c;
    }

-- OVER THE CALLS

nine :
    (g : ℕ) (cs ls xs : List ℕ) → index_refusal g cs ls xs ≡ 0 → received g (lexicon cs ls) xs ≡ false →
    (w : ℕ) → 8 * n_of xs ≤ w → reception_refusal g cs ls xs w ≡ 9
nine g cs ls xs none un w room =
    reception_unreceived (delivered g cs ls xs w (sym (short_none (index_refusal g cs ls xs) xs w none room))) un

module _ (g : ℕ) (cs ls xs : List ℕ) (adm : admitted cs ls ≡ true) (can : readable g (lexicon cs ls) xs ≡ true) where
  no_refusal : index_refusal g cs ls xs ≡ 0
  unfolding admitted
  no_refusal =
      sym
      (accepts_index g cs ls xs
      (eqb-true (dictionary_refusal cs ls) 0 (and_right (all_chars cs) (eqb (dictionary_refusal cs ls) 0) adm)) can)

  tallied : (r : TallyAnswer) → TallySays g cs ls xs r → (r.refusal ≡ 0) × (r.count ≡ entries_of xs)
  unfolding TallySays
  tallied r says =
      (says.0 ∙ no_refusal, says.1 ∙ accepted_yes (index_refusal g cs ls xs) (entries_of xs) 0 no_refusal)

pub form_calls : (g : ℕ) → FormCalls g
unfolding ReceiveSays RecoverSays Puts Answers
form_calls g =
    record {
      tallied = λ cs ls xs r adm can. tallied g cs ls xs adm can r;
      not_received =
          λ cs ls xs c r w v adm can lone room says.
          says.0.0
          ∙ nine g cs ls xs (no_refusal g cs ls xs adm can) ((form_as_key g).unreceived cs ls xs c adm can lone) (length w) room;
      not_recovered =
          λ cs ls xs c r o z w v adm can lone room says.
          let un = (form_as_key g).unreceived cs ls xs c adm can lone in
          let n = nine g cs ls xs (no_refusal g cs ls xs adm can) un (length w) room in
          says.0.0.0
          ∙ recovery_early g cs ls xs (length w) (length o) (λ (e : reception_refusal g cs ls xs (length w) ≡ 0). omega (arith, n))
          ∙ n;
    }
