-- `is_received` meets its contract: an index of the text its entries spell is received exactly if no lone key is a full-width form.
use Rattle.spec.specs.Dictionary.{longest_text}
use Rattle.models.specs.WordStarts.{lengths_of}
use Rattle.laws.specs.Dictionary.Lexicon.{admitted_lexicon}
use Rattle.laws.specs.Receive.FormKeys.{readable_ordered}
use Rattle.laws.specs.Receive.ReceivedText.{not_tried, tried}
use Rattle.receiver.proofs.text.is_received.Goals as goal

pub has_form_key-requires : goal.has_form_key-requires
has_form_key-requires c = readable_ordered longest_text _ _ c.requires.can

pub returns-then-is_index_of_text : goal.returns-then-is_index_of_text
returns-then-is_index_of_text c =
    let words = c.args.table.now.words in
    let good = admitted_lexicon words.chars.now (lengths_of words.starts.now) words.started.dictionary in
    tried c.is_index_of_text.ensures c.if-is_index_of_text.true good c.has_form_key.result c.has_form_key.ensures

pub returns-else-is_index_of_text : goal.returns-else-is_index_of_text
returns-else-is_index_of_text c =
    rw c.if-is_index_of_text.false (not_tried c.is_index_of_text.ensures c.if-is_index_of_text.false)
