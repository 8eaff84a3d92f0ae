-- `extend_offsets` meets its contract. The invariant: the window is extended at the offsets below `key_start`.
use Rattle.spec.specs.Index.{lines_in}
use Rattle.dictionary.specs.Words.{lexicon_of}
use Rattle.cover.specs.Windows.{SameStarts}
use Rattle.laws.specs.Window.Extending.{Offsets}
use Rattle.cover.proofs.offsets.extend_offsets.Given as goal

abbrev pub invariant-loop-key_start : goal.invariant-loop-key_start
invariant-loop-key_start l =
    record {
      way : Offsets (lexicon_of l.query.postings.directory.words) (lines_in l.query.postings.directory.index.now) l.query.string.now
          l.initial.window.first l.initial.window.reach.now l.window.reach.now l.window.highest l.key_start;
      same : SameStarts l.initial.window l.window;
    }
