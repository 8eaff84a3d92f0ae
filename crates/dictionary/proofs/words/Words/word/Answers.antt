-- `word` meets its contract: the table is that of word starts.
use Rattle.dictionary.proofs.words.Words.word.Goals as goal

pub word_of-requires : goal.word_of-requires
word_of-requires c = (c.args.self.now.started.words, c.requires)
