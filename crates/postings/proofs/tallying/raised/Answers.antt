use Rattle.std.proofs.Common.{◌≡◌, true, List, ℕ, ◌-◌, length, arith}
use Rattle.spec.specs.Dictionary.{longest_text, lexicon}
use Rattle.spec.specs.Words.{key}
use Rattle.spec.specs.Index.{key_at, readable}
use Rattle.dictionary.specs.declared.admission.Dictionary.{Dictionary}
use Rattle.laws.specs.Text.Facts.{IsKey}
use Rattle.laws.specs.Readable.LineWalk.{readable_fits}
use Rattle.laws.specs.Tally.Walk.{tally_step, tally_end, line_key}
use Rattle.layout.specs.declared.keys.Key.{Key}
use Rattle.layout.specs.Keys.{key_of}
use Rattle.layout.specs.Lists.{IsPostingList, list_count, list_key}
use Rattle.postings.proofs.tallying.raised.Goals as goal

-- line i of a readable index has a key of the lexicon
module _ (d : Dictionary) {xs : List ℕ} {i : ℕ} {k : Key} {ps : List ℕ}
    (ok : readable longest_text (lexicon d.chars.now d.lengths.now) xs ≡ true) (list : IsPostingList xs i k ps) where
  there : IsKey (lexicon d.chars.now d.lengths.now) (key_at xs i)
  there = line_key longest_text (lexicon d.chars.now d.lengths.now) xs ok i list.is.below

  same : key_of k ≡ key_at xs i
  unfolding key
  same = list_key list there.kind_small

  is_key : IsKey (lexicon d.chars.now d.lengths.now) (key_of k)
  is_key = rw same there

pub new-list-items-requires : goal.new-list-items-requires
new-list-items-requires c =
    let d = c.args.dictionary.now in
    readable_fits longest_text (lexicon d.chars.now d.lengths.now) c.args.index.now c.requires.0

pub key_length-position-requires : goal.key_length-position-requires
key_length-position-requires c =
    let step = rw c.loop-list.invariant.0 at c.in-Some.ensures.steps in
    is_key c.args.dictionary.now c.requires.0 step.0

pub loop-list-preserved : goal.loop-list-preserved
loop-list-preserved c =
    let step = rw c.loop-list.invariant.0 at c.in-Some.ensures.steps in
    let len = c.key_length-position in
    let spelt = rw (same c.args.dictionary.now c.requires.0 step.0) at len.ensures.0 in (
      step.2,
      rw (step.3, list_count step.0)
          (tally_step c.loop-list.invariant.1 (len.result - 1) step.0.is.below step.0.is.line.count_small (omega arith)
          (omega (arith, spelt))),
    )

pub returns : goal.returns
returns c =
    let none = rw c.loop-list.invariant.0 at c.in-None.ensures.steps in
    let n : length c.args.counts ≡ 32 = omega arith in
    tally_end c.loop-list.invariant.1 longest_text c.requires.0 n none
