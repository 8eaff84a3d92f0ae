-- `stands_after` meets its contract: the word ends too early, or after the text, or it is compared.
use native.Mathlib.Omega.{arith}
use Rattle.laws.specs.Dictionary.WordStarts.{lies}
use Rattle.laws.specs.Match.WordChains.{ends_early, runs_out, compared}
use Rattle.matching.proofs.longest.stands_after.Goals as goal

pub returns-then-at-len : goal.returns-then-at-len
returns-then-at-len c =
    ends_early c.args.words.now.started c.args.at c.args.end c.args.number c.requires.1
    (rw (← c.word_len-len.ensures.0) c.if-at-len.true)

pub returns-then-text-at : goal.returns-then-text-at
returns-then-text-at c =
    runs_out c.args.words.now.started c.args.at c.args.end c.args.number c.requires.1
    (rw (← c.word_len-len.ensures.0) c.if-text-at.true)

pub offset_bounds-words-number : goal.offset_bounds-words-number
offset_bounds-words-number c =
    omega (arith, lies c.args.words.now.started.words c.args.number c.requires.1)

pub bounds-words-number : goal.bounds-words-number
bounds-words-number c =
    omega (arith, lies c.args.words.now.started.words c.args.number c.requires.1)

pub same_run-requires : goal.same_run-requires
same_run-requires c =
    (omega (arith, c.word_len-len.ensures.0, lies c.args.words.now.started.words c.args.number c.requires.1), c.if-text-at.false)

pub returns : goal.returns
returns c =
    compared c.args.words.now.started c.args.at c.args.end c.args.number c.requires.1
    (rw (← c.word_len-len.ensures.0) c.if-at-len.false) (rw (← c.word_len-len.ensures.0) c.if-text-at.false)
    (rw (← c.word_len-len.ensures.0) c.same_run.ensures)
