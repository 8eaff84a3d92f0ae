-- `receive_text` meets its contract: for each return one law of the order of the refusals, whose tests the path has passed.
use Rattle.std.proofs.Common.{◌≡◌, List, ℕ, ◌*◌, ◌≤◌, sym, ◌∙◌, length, arith}
use Rattle.spec.specs.Dictionary.{longest_text, lexicon}
use Rattle.spec.specs.Index.{n_of}
use Rattle.spec.specs.Calls.{index_refusal, reception_refusal}
use Rattle.dictionary.specs.Passing.{passed_on}
use Rattle.laws.specs.Dictionary.Refused.{refused_number}
use Rattle.laws.specs.Readable.IndexRefusal.{index_accepted}
use Rattle.laws.specs.Readable.LineWalk.{readable_fits}
use Rattle.laws.specs.Build.Building.{reached_lexicon}
use Rattle.laws.specs.Receive.Received.{readable_chars}
use Rattle.laws.specs.Receive.Receiving.{
  Delivered,
  delivery_refusal,
  short_refused,
  short_work,
  reception_early,
  reception_unreceived,
  reception_received,
}
use Rattle.receiver.proofs.text.receive_text.Goals as goal

-- a refusal that needs no reconstruction is that of reception
early :
    (cs ls xs : List ℕ) (w number : ℕ) → number ≡ delivery_refusal longest_text cs ls xs w → (number ≡ 0 → ⊥) →
    number ≡ reception_refusal longest_text cs ls xs w
early cs ls xs w number is some = sym (reception_early longest_text cs ls xs w number is some)

-- where none is met
delivered :
    (cs ls xs : List ℕ) {w n : ℕ} → 0 ≡ index_refusal longest_text cs ls xs → n ≡ n_of xs → 8 * n ≤ w →
    Delivered longest_text cs ls xs w
delivered cs ls xs none is room =
    let read = index_accepted longest_text cs ls xs (sym none) in
    record {
      admits = read.no_refusal;
      can_read = read.is_readable;
      fits = readable_fits longest_text (lexicon cs ls) xs read.is_readable;
      room = omega arith;
    }

pub returns-in_err-opened-clause-number : goal.returns-in_err-opened-clause-number
returns-in_err-opened-clause-number c =
    let a = c.args in
    let found = c.in_err-opened.ensures.number in
    let some = refused_number _ found in
    rw (passed_on _ _ c.from_residual.ensures.1)
    (early a.chars.now a.lengths.now a.index.now (length a.work.now) _
    (found ∙ short_refused _ a.index.now (length a.work.now) some) (λ none. some (sym found ∙ none)))

pub text_len-n-requires : goal.text_len-n-requires
text_len-n-requires c =
    let a = c.args in
    let read = index_accepted longest_text a.chars.now a.lengths.now a.index.now (sym c.in_ok-opened.ensures.number) in
    (readable_fits longest_text (lexicon a.chars.now a.lengths.now) a.index.now read.is_readable).has_header

pub returns-then-work-n-clause-number : goal.returns-then-work-n-clause-number
returns-then-work-n-clause-number c =
    let a = c.args in
    early a.chars.now a.lengths.now a.index.now (length a.work.now) 7
    (short_work _ a.index.now (length a.work.now) (sym c.in_ok-opened.ensures.number) (rw (← c.text_len-n.ensures.0) c.if-work-n.true))
    (λ (none : 7 ≡ 0). omega arith)

pub returns-then-not-is_received-clause-number : goal.returns-then-not-is_received-clause-number
returns-then-not-is_received-clause-number c =
    let a = c.args in
    let found = c.in_ok-opened.ensures in
    let met = delivered a.chars.now a.lengths.now a.index.now found.number c.text_len-n.ensures.0 c.if-work-n.false in
    let tried = rw (c.match_table-table.ensures, found.lent.0, found.lent.1) at c.is_received.ensures in
    sym (reception_unreceived met (sym tried.exact ∙ c.if-not-is_received.true))

pub returns-clause-number : goal.returns-clause-number
returns-clause-number c =
    let a = c.args in
    let found = c.in_ok-opened.ensures in
    let met = delivered a.chars.now a.lengths.now a.index.now found.number c.text_len-n.ensures.0 c.if-work-n.false in
    let tried = rw (c.match_table-table.ensures, found.lent.0, found.lent.1) at c.is_received.ensures in
    sym (reception_received met (sym tried.exact ∙ c.if-not-is_received.false))

pub returns-clause-text : goal.returns-clause-text
returns-clause-text c =
    let a = c.args in
    let found = c.in_ok-opened.ensures in
    let met = delivered a.chars.now a.lengths.now a.index.now found.number c.text_len-n.ensures.0 c.if-work-n.false in
    let tried = rw (c.match_table-table.ensures, found.lent.0, found.lent.1) at c.is_received.ensures in
    let good = reached_lexicon a.chars.now a.lengths.now (λ i h. omega (arith, c.type_inv.chars i)) met.admits in
    let text = rw (← c.text_len-n.ensures.0) at (tried.text c.if-not-is_received.false) in (
      c.text_len-n.ensures.0,
      omega (arith, c.is_received.auto.work, c.if-work-n.false),
      rw text (readable_chars good longest_text a.index.now met.can_read),
      text,
    )
