-- The lexicon that a table of word starts stands for. Assumes nothing: this is a definition.
use Rattle.spec.specs.Dictionary.{Lexicon}
use Rattle.models.specs.WordStarts.{lexicon_at}
use Rattle.dictionary.specs.declared.words.Words.{Words}

-- the words of a dictionary with its table of word starts
abbrev pub lexicon_of : Words → Lexicon
lexicon_of w = lexicon_at w.chars.now w.starts.now
